-- Question 11: the test that runs says what the paper asks, the order of the waiting jobs in the array does not matter to it, and it passes with fewer of them.
use Rattle.std.specs.Prelude.{◌≡◌, Bool, true, ◌↔◌, ℕ, ◌≤◌, take}
use Rattle.std.proofs.Common.{ap, sym, subst}
use mathlib.Core.List.Permᴰ
use mathlib.Core.List.{List, [], ◌++◌, map, Permᴰ}
use Rattle.std.proofs.Math.Bool.{and_assoc}
use Rattle.lists.specs.Laws.{Pairs, Differ, all_take, all_append, pairs_parts, perm_all, perm_pairs, map_join}
use Rattle.limits.specs.Says.{Says, says_true, says_as, says_then, says_both}
use Rattle.walk.specs.declared.Job.{Job}
use Rattle.soundness.specs.Sweep.{spans_perm, apart_sym}
use Rattle.soundness.specs.Sound.{says_waiting}
use Rattle.planner.specs.Model.{Farm, spans_of_all, waiting_of, free_times_of, JobSized, Sized, Apart}
use Rattle.planner.specs.Passes.{counts_within, times_within, bounds_of, passes_of, JobWithin, JobSound, Within, Passes}
use Rattle.planner.specs.PassesSteps.{farm_within, usable, says_within}
use Rattle.planner.specs.Changes.{with_jobs, jobs_within}
use Rattle.demands.specs.BegunJobs.{spans_append}

-- The test of the farm itself says that it is opened and that its figures are within their limits.
says_farm : (f : Farm) → Says (farm_within f) ((f.opened ≡ true) × Within f)
says_farm f = subst (λ (b : Bool). Says b ((f.opened ≡ true) × Within f)) (sym (and_assoc f.opened (counts_within f) (times_within f))) (says_both (says_true f.opened) (says_within f))

says_passes : (f : Farm) → Sized f → Says (passes_of f) (Passes f)
unfolding passes_of
says_passes f z =
    says_as (λ h. record { opened = h.0.0; within = h.0.1; jobs = h.1.0; sound = h.1.1 }) (λ p. ((p.opened, p.within), (p.jobs, p.sound)))
    (says_then (says_farm f) (λ p. says_waiting (bounds_of f) (free_times_of f) (waiting_of f) (usable f p.1) z.free (all_take JobSized f.waiting f.jobs z.each)))

-- **Question 11.** The test passes exactly if the farm is opened, each figure is within its limits and the waiting bookings are sound.
pub passes_iff : (f : Farm) → Sized f → (passes_of f ≡ true) ↔ Passes f
passes_iff f z = let s = says_passes f z in (s.yields, s.follows)

-- ---- Fewer jobs, in any order

-- A farm that passes also passes where some of its waiting jobs are gone, and the others stand in any order.
pub fewer_pass : (f : Farm) (n : ℕ) (gone js : List Job) → n ≤ 128 → Permᴰ (waiting_of f) (gone ++ take n js) → Passes f → Passes (with_jobs f f.used n js)
fewer_pass f n gone js few d p =
    let c = f.costs in
    let rest = take n js in
    let numbers : List Job → List ℕ = map (λ (j : Job). j.number) in
    record {
      opened = p.opened;
      within = jobs_within f f.used n js p.within p.within.used few;
      jobs = (all_append (JobWithin (bounds_of f)) gone rest (perm_all (JobWithin (bounds_of f)) d p.jobs)).1;
      sound = record {
        jobs = (all_append (JobSound (bounds_of f) (free_times_of f)) gone rest (perm_all (JobSound (bounds_of f) (free_times_of f)) d p.sound.jobs)).1;
        apart = (pairs_parts Apart (spans_of_all c gone) (spans_of_all c rest) (subst (Pairs Apart) (spans_append c gone rest) (perm_pairs Apart apart_sym (spans_perm c d) p.sound.apart))).1;
        differ = (pairs_parts (λ (a b : ℕ). a ≡ b → ⊥) (numbers gone) (numbers rest)
            (subst Differ (map_join (λ (j : Job). j.number) gone rest) (perm_pairs (λ (a b : ℕ). a ≡ b → ⊥) (λ a b k e. k (sym e)) (Permᴰ.map (λ (j : Job). j.number) d) p.sound.differ))).1;
      };
    }

-- A farm that passes also passes with its waiting jobs in any other order.
pub any_order : (f g : Farm) → with_jobs f f.used f.waiting g.jobs ≡ g → Permᴰ (waiting_of f) (waiting_of g) → Passes f → Passes g
any_order f g e d p =
    let n : g.waiting ≡ f.waiting = ap (λ (h : Farm). h.waiting) (sym e) in
    subst Passes e (fewer_pass f f.waiting [] g.jobs p.within.waiting (subst (λ (k : ℕ). Permᴰ (waiting_of f) (take k g.jobs)) n d) p)
