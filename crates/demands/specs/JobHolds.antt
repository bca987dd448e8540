-- What a job holds, document 02 (vi): its nodes' setups and its units' ticks, and nothing of the time that its chunks wait for one another. So two equal jobs on
-- equally many nodes read alike, whenever they run and however they are divided.
use Rattle.std.specs.Prelude.{◌≡◌, List, [], ◌∷◌, map, ℕ, ◌+◌, ◌*◌, length}
use Rattle.std.proofs.Common.{subst, sym, ◌∙◌, mul-add, add-mul, arith}
use Rattle.lists.specs.Laws.{All}
use Rattle.shares.specs.declared.Costs.{Costs}
use Rattle.limits.specs.declared.FarmCosts.{FarmCosts}
use Rattle.shares.specs.Model.{sum, chunk_finish}
use Rattle.walk.specs.declared.Chunk.{Chunk}
use Rattle.planner.specs.Clock.{holds}
use Rattle.demands.specs.CallLists.{Accepted, History, lines_for, units_in, accepted_costs, Fulfils}
use Rattle.demands.specs.Demand3.{Issued}

-- Chunks that finish when the costs make it hold ST + SC each, and m + p a unit.
chunks_hold : (c : Costs) (xs : List Chunk) → All (λ (y : Chunk). y.finish ≡ chunk_finish c y.start y.units) xs
    → sum (map holds xs) ≡ length xs * (c.linksetup + c.nodesetup) + units_in xs * (c.send + c.compute)
unfolding sum units_in
chunks_hold c [] h = omega arith
chunks_hold c (x ∷ xs) h =
    let k = c.linksetup + c.nodesetup in
    let e = c.send + c.compute in
    omega (arith, h.0, chunks_hold c xs h.1, mul-add x.units c.send c.compute, add-mul x.units (units_in xs) e, add-mul 1 (length xs) k)

-- **What a job holds.** The chunks of a job accepted as x hold ST + SC a chunk and m + p + r a unit of its size, p its own compute cost.
pub job_holds : (c : FarmCosts) (x : Accepted) (xs : List Chunk) → Fulfils c x xs
    → sum (map holds xs) ≡ length xs * (c.linksetup + c.nodesetup) + x.size * (c.send + (x.compute + c.returning))
job_holds c x xs h =
    subst (λ (n : ℕ). sum (map holds xs) ≡ length xs * (c.linksetup + c.nodesetup) + n * (c.send + (x.compute + c.returning))) h.all
    (chunks_hold (accepted_costs c x) xs h.finish)

-- After any list of calls the chunks issued of a job hold that.
pub issued_holds : (x : Accepted) (w : History) → Issued x w
    → sum (map holds (lines_for x.number w.lines))
    ≡ length (lines_for x.number w.lines) * (w.farm.costs.linksetup + w.farm.costs.nodesetup)
    + x.size * (w.farm.costs.send + (x.compute + w.farm.costs.returning))
issued_holds x w i = job_holds w.farm.costs x (lines_for x.number w.lines) (subst (Fulfils w.farm.costs x) (sym i.lines) i.chunks)

-- **Equal jobs read alike.** Two jobs of one size and one compute cost hold the same ticks on equally many nodes.
pub equal_jobs_hold : (c : FarmCosts) (x y : Accepted) (xs ys : List Chunk) → Fulfils c x xs → Fulfils c y ys → x.size ≡ y.size → x.compute ≡ y.compute → length xs ≡ length ys
    → sum (map holds xs) ≡ sum (map holds ys)
equal_jobs_hold c x y xs ys h k size compute count = job_holds c x xs h ∙ rw (size, compute, count) (sym (job_holds c y ys k))
