-- Question 11: is the farm opened, with each figure within its limits and its waiting bookings sound?
-- First the test that runs, then what the paper asks. `passes_iff` in the crate demands says that they are the same. What is asked of the waiting
-- jobs is defined in the crate soundness.
pub use Rattle.limits.specs.Model.{CostsWithin}
pub use Rattle.soundness.specs.Model.{job_numbers, JobWithin, JobSound, Sound}
unfoldable pub use Rattle.soundness.specs.Model.{waiting_pass}
use Rattle.std.specs.Prelude.{ℕ, ◌≤◌, ◌≡◌, Bool, true, ◌&&◌, leb, take}
use Rattle.lists.specs.Laws.{All}
use Rattle.soundness.specs.declared.JobBounds.{JobBounds}
use Rattle.planner.specs.Model.{Farm}
use Rattle.planner.specs.Model.{greatest, most_held, between, all_at_most, costs_within, waiting_of, free_times_of, walk_terms_of, Between}

-- ---- The test

-- the figures that are no times ..
unfoldable pub counts_within : Farm → Bool
counts_within f =
    between 1 f.nodes 64
    && costs_within f.costs
    && between 1 f.shows 32
    && all_at_most greatest (take f.shows f.allowances)
    && all_at_most most_held (take f.shows f.held)

-- .. and the times, with the counts of jobs
unfoldable pub times_within : Farm → Bool
times_within f =
    leb f.clock greatest && leb f.link greatest && all_at_most greatest (take f.nodes f.free) && leb f.used greatest && leb f.waiting 128

-- the figures that the waiting jobs are held against
abbrev pub bounds_of : Farm → JobBounds
bounds_of f = record { terms = walk_terms_of f; shows = f.shows; used = f.used }

-- the answer to question 11
unfoldable pub passes_of : Farm → Bool
passes_of f = f.opened && counts_within f && times_within f && waiting_pass (bounds_of f) (free_times_of f) (waiting_of f)

-- ---- What the paper asks

-- each figure within its limits, but for those of the waiting jobs
pub record Within (f : Farm) : Type 0 where
  pub nodes : Between 1 f.nodes 64
  pub costs : CostsWithin f.costs
  pub shows : Between 1 f.shows 32
  pub allowances : All (λ (x : ℕ). x ≤ greatest) (take f.shows f.allowances)
  pub held : All (λ (x : ℕ). x ≤ most_held) (take f.shows f.held)
  pub clock : f.clock ≤ greatest
  pub link : f.link ≤ greatest
  pub free : All (λ (x : ℕ). x ≤ greatest) (take f.nodes f.free)
  pub used : f.used ≤ greatest
  pub waiting : f.waiting ≤ 128

pub record Passes (f : Farm) : Type 0 where
  pub opened : f.opened ≡ true
  pub within : Within f
  -- the figures of each waiting job within their limits
  pub jobs : All (JobWithin (bounds_of f)) (waiting_of f)
  -- the waiting bookings sound
  pub sound : Sound (bounds_of f) (free_times_of f) (waiting_of f)
