-- When encoding ended, document 02 (vii): every chunk of at least 1 unit ends computing where `Computes` says.
use Rattle.std.specs.Prelude.{refl, ℕ, ◌*◌, ◌≤◌}
use Rattle.std.proofs.Common.{ap, arith, mul-le-mul_left, mul-le-mul_right}
use Rattle.lists.specs.Laws.{All}
use Rattle.limits.specs.declared.FarmCosts.{FarmCosts}
use Rattle.shares.specs.Lists.{Positive}
use Rattle.booking.specs.Best.{units}
use Rattle.walk.specs.declared.Job.{Job}
use Rattle.walk.specs.declared.ChunkTerms.{ChunkTerms}
use Rattle.walk.specs.Model.{chunk_terms, chunk_on, lines_of, Computes}
use Rattle.walk.specs.Returning.{back_last}
use Rattle.walk.specs.Chunks.{lines_each}

-- So it is of a chunk of at least 1 unit.
pub chunk_computes : (w : ChunkTerms) → 1 ≤ w.compute → (t k a : ℕ) → 1 ≤ a
    → Computes w.costs w.compute (chunk_on w t k a)
chunk_computes w some t k a h =
    let back = back_last w.costs w.compute t a in
    let computing : a ≤ a * w.compute = omega (arith, mul-le-mul_left a some) in
    let returning : w.costs.returning ≤ a * w.costs.returning = omega (arith, mul-le-mul_right w.costs.returning h) in
    record {
      is = refl;
      after = omega arith;
      within = omega arith;
      equal = (λ e. omega arith, λ e. omega (arith, ap (λ (r : ℕ). a * r) e));
    }

-- Every line of a booked job says when its units are computed, by the job's own compute cost.
pub job_computes : (c : FarmCosts) (j : Job) → 1 ≤ j.compute → Positive (units j.booking) → All (Computes c j.compute) (lines_of c j)
job_computes c j some h = lines_each (Computes c j.compute) (λ (a : ℕ). 1 ≤ a) c j (chunk_computes (chunk_terms c j) some) h
