-- The way back, document 02 (iii): what r is to a chunk; that nothing has changed where r is 0; and that a walk with r is the walk without it of jobs whose
-- units take r ticks longer to compute.
use Rattle.std.specs.Prelude.{◌≡◌, refl, List, [], ◌∷◌, map, ℕ, ◌+◌, ◌*◌}
use Rattle.std.proofs.Common.{arith, mul-add}
use Rattle.limits.specs.declared.FarmCosts.{FarmCosts}
use Rattle.shares.specs.Model.{send_end, chunk_finish}
use Rattle.booking.specs.Best.{chosen, units}
use Rattle.walk.specs.declared.Job.{Job}
use Rattle.walk.specs.declared.WalkTerms.{WalkTerms}
use Rattle.walk.specs.declared.FreeTimes.{FreeTimes}
use Rattle.walk.specs.Model.{costs_for, compute_end, chunk_terms, chunk_on, chunks_from, after, afters, step, free_times_after, plan, books_all}

-- ---- A chunk

module _ (c : FarmCosts) (p t a : ℕ) where
  -- The send takes ST + units × m: nothing comes back on the link.
  pub send_is : send_end (costs_for c p) t a ≡ t + (c.linksetup + a * c.send)
  send_is = refl

  -- The time after the send is SC + units × (p + r).
  pub rest_is : chunk_finish (costs_for c p) t a ≡ send_end (costs_for c p) t a + (c.nodesetup + a * (p + c.returning))
  rest_is = refl

  -- The way back comes last: the chunk is back units × r ticks after the end of computing.
  pub back_last : chunk_finish (costs_for c p) t a ≡ compute_end c p t a + a * c.returning
  back_last = omega (arith, mul-add a p c.returning)

  -- Where r is 0, the time after the send is SC + units × p, as before.
  pub none_back : c.returning ≡ 0 → chunk_finish (costs_for c p) t a ≡ compute_end c p t a
  none_back e = let q : p + c.returning ≡ p = omega arith in rw q

-- Where r is 0, a job's costs are the farm's with its compute cost, and so all that is worked out from them is what it was.
pub none_returned : (c : FarmCosts) (p : ℕ) → c.returning ≡ 0 → costs_for c p ≡ record { send = c.send; compute = p; linksetup = c.linksetup; nodesetup = c.nodesetup }
none_returned c p e = let q : p + c.returning ≡ p = omega arith in rw q

-- ---- A walk

-- the farm's costs without the way back
abbrev pub without_return : FarmCosts → FarmCosts
without_return c = record { send = c.send; compute = c.compute; linksetup = c.linksetup; nodesetup = c.nodesetup; returning = 0 }

-- a job whose units take r ticks longer to compute
abbrev pub dearer : ℕ → Job → Job
dearer r j = record { number = j.number; show = j.show; size = j.size; compute = j.compute + r; deadline = j.deadline; booking = j.booking }

-- what a walk knows, without the way back
abbrev pub terms_without : WalkTerms → WalkTerms
terms_without w = record { costs = without_return w.costs; nodes = w.nodes; clock = w.clock }

-- For the share arithmetic p + r is a larger p.
pub as_dearer : (c : FarmCosts) (p : ℕ) → costs_for (without_return c) (p + c.returning) ≡ costs_for c p
as_dearer c p = let q : p + c.returning + 0 ≡ p + c.returning = omega arith in rw q

-- The free times that chunks leave go by their sends and finishes, and so by p + r alone.
afters_dearer : (c : FarmCosts) (j : Job) (t : ℕ) (b : FreeTimes) (ks xs : List ℕ)
    → afters b (chunks_from (chunk_terms (without_return c) (dearer c.returning j)) t ks xs)
    ≡ afters b (chunks_from (chunk_terms c j) t ks xs)
unfolding chunks_from afters
afters_dearer c j t b [] [] = refl
afters_dearer c j t b [] (a ∷ xs) = refl
afters_dearer c j t b (k ∷ ks) [] = refl
afters_dearer c j t b (k ∷ ks) (a ∷ xs) =
    let x = chunk_on (chunk_terms c j) t k a in
    let q : j.compute + c.returning + 0 ≡ j.compute + c.returning = omega arith in
    rw q (afters_dearer c j x.sent (after b x) ks xs)

times_dearer : (w : WalkTerms) (b : FreeTimes) (j : Job) → free_times_after (terms_without w) b (dearer w.costs.returning j) ≡ free_times_after w b j
times_dearer w b j =
    let k = (step w b j).booking in
    rw (as_dearer w.costs j.compute) (afters_dearer w.costs j k.start b (chosen k) (units k))

-- **A larger p.** A walk plans its jobs as the walk without a way back plans them where each unit takes r ticks longer to compute: the same starts, nodes and
-- shares, and so the same free times.
pub plan_dearer : (w : WalkTerms) (b : FreeTimes) (js : List Job) → plan (terms_without w) b (map (dearer w.costs.returning) js) ≡ map (dearer w.costs.returning) (plan w b js)
unfolding plan
plan_dearer w b [] = refl
plan_dearer w b (j ∷ js) = rw (times_dearer w b j, as_dearer w.costs j.compute, plan_dearer w (free_times_after w b j) js)

-- So it books them all exactly where that walk does.
pub books_dearer : (w : WalkTerms) (b : FreeTimes) (js : List Job) → books_all (terms_without w) b (map (dearer w.costs.returning) js) ≡ books_all w b js
unfolding books_all
books_dearer w b [] = refl
books_dearer w b (j ∷ js) = rw (times_dearer w b j, as_dearer w.costs j.compute, books_dearer w (free_times_after w b j) js)
