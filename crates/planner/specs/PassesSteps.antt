-- Question 11, part by part: what the functions of src/passing.rt need, and what is known of a farm that passes.
use Rattle.std.specs.Prelude.{◌≡◌, Bool, true, false, ◌&&◌, take}
use Rattle.lists.specs.Laws.{All, all_map}
use Rattle.limits.specs.Says.{Says, says_le, says_as, says_both, says_between, says_at_most, says_costs}
use Rattle.limits.specs.Tests.{and_both}
use Rattle.walk.specs.declared.Job.{Job}
use Rattle.walk.specs.View.{Few}
use Rattle.soundness.specs.Model.{jobs_pass, all_differ}
use Rattle.soundness.specs.Sound.{Usable, JobKept, says_jobs}
use Rattle.planner.specs.Model.{Farm}
use Rattle.planner.specs.Model.{greatest, most_held, waiting_of, free_times_of}
use Rattle.planner.specs.Passes.{counts_within, times_within, bounds_of, job_numbers, waiting_pass, passes_of, JobWithin, Within}

-- opened, and its figures within their limits
abbrev pub farm_within : Farm → Bool
farm_within f = f.opened && counts_within f && times_within f

-- The tests of the figures say that each is within its limits.
pub says_within : (f : Farm) → Says (counts_within f && times_within f) (Within f)
unfolding counts_within times_within
says_within f =
    says_as
    (λ h. record {
      nodes = h.0.0.0.0.0;
      costs = h.0.0.0.0.1;
      shows = h.0.0.0.1;
      allowances = h.0.0.1;
      held = h.0.1;
      clock = h.1.0.0.0.0;
      link = h.1.0.0.0.1;
      free = h.1.0.0.1;
      used = h.1.0.1;
      waiting = h.1.1;
    })
    (λ h. (((((h.nodes, h.costs), h.shows), h.allowances), h.held), ((((h.clock, h.link), h.free), h.used), h.waiting)))
    (says_both
    (says_both
    (says_both
    (says_both (says_both (says_between 1 f.nodes 64) (says_costs f.costs)) (says_between 1 f.shows 32))
    (says_at_most greatest (take f.shows f.allowances)))
    (says_at_most most_held (take f.shows f.held)))
    (says_both
    (says_both
    (says_both (says_both (says_le f.clock greatest) (says_le f.link greatest)) (says_at_most greatest (take f.nodes f.free)))
    (says_le f.used greatest))
    (says_le f.waiting 128)))

-- The figures of a farm that is within its limits.
pub farm_within_lem : (f : Farm) → farm_within f ≡ true → Within f
farm_within_lem f e =
    let p = and_both (f.opened && counts_within f) (times_within f) e in
    (says_within f).yields (go (counts_within f) (times_within f) (and_both f.opened (counts_within f) p.0).1 p.1)
  where
    go : (a b : Bool) → a ≡ true → b ≡ true → (a && b) ≡ true
    go a b p q = rw (p, q)

-- With them no sum of question 11 wraps.
pub usable : (f : Farm) → Within f → Usable (bounds_of f)
usable f w = record { nodes = w.nodes.1; costs = w.costs }

-- The test ends where the farm is not opened or a figure is not within its limits, and else goes on to the waiting jobs.
pub passes_out : (f : Farm) → farm_within f ≡ false → passes_of f ≡ false
unfolding passes_of
passes_out f e = rw e

pub passes_rest : (f : Farm) → farm_within f ≡ true → passes_of f ≡ waiting_pass (bounds_of f) (free_times_of f) (waiting_of f)
unfolding passes_of
passes_rest f e = rw e

-- ---- A farm that passes

module _ (f : Farm) (e : passes_of f ≡ true) where
  parts : (farm_within f ≡ true) × (waiting_pass (bounds_of f) (free_times_of f) (waiting_of f) ≡ true)
  unfolding passes_of
  parts = and_both (farm_within f) (waiting_pass (bounds_of f) (free_times_of f) (waiting_of f)) e

  -- Its figures are within their limits.
  pub passes_within : Within f
  passes_within = farm_within_lem f parts.0

  -- So are those of its waiting jobs, and each job by itself is kept.
  pub passes_jobs : All (λ (j : Job). JobWithin (bounds_of f) j × JobKept (bounds_of f) j) (waiting_of f)
  unfolding waiting_pass
  passes_jobs =
      (says_jobs (bounds_of f) (waiting_of f)).yields
      (and_both (jobs_pass (bounds_of f) (waiting_of f)) (all_differ (job_numbers (waiting_of f))) (and_both (jobs_pass (bounds_of f) (waiting_of f) && all_differ (job_numbers (waiting_of f))) _ parts.1).0).0

  -- None has more chunks than a row has cells.
  pub passes_few : All Few (waiting_of f)
  passes_few = all_map (λ j a. a.0.count.1) (waiting_of f) passes_jobs
