-- The farm's figures, in the words and the order of document 01. Everything here is a definition; nothing is assumed.
-- Jobs, chunks, spans and the deadline walk are those of the crate walk, and the limits those of the crate limits.
pub use Rattle.limits.specs.Model.{most_held, between, Between}
unfoldable pub use Rattle.limits.specs.Model.{all_at_most, all_at_least, costs_within}
pub use Rattle.walk.specs.Model.{greatest, empty_job, no_job, costs_for, default_costs, own_costs, lines_of, finish_of, Span, spans_of, JobSized, Includes, Apart, after, in_order, by_time, deadline_of, start_of, by_deadline, by_start, request_of, booked, step, free_times_after}
unfoldable pub use Rattle.walk.specs.Model.{chunks_from, spans_of_all, afters, fit_all, keys_by, plan, books_all}
use Rattle.std.specs.Prelude.{ℕ, ◌≡◌, Bool, List, length, take}
use Rattle.lists.specs.Laws.{All}
use Rattle.limits.specs.declared.FarmCosts.{FarmCosts}
use Rattle.walk.specs.declared.Job.{Job}
use Rattle.walk.specs.declared.WalkTerms.{WalkTerms}
use Rattle.walk.specs.declared.FreeTimes.{FreeTimes}
use Rattle.walk.specs.View.{jobs_of}
use Rattle.planner.specs.declared.Figures.{Figures}
use Rattle.planner.specs.declared.Farm as stored

-- ---- A farm

-- the farm that document 01 speaks of: its figures, and the waiting jobs with their bookings. All that is asked,
-- answered and shown is said of it. How it lies in memory is not part of it
pub record Farm : Type 0 where
  pub opened : Bool
  pub nodes : ℕ
  pub costs : FarmCosts
  pub shows : ℕ
  pub allowances : List ℕ
  pub held : List ℕ
  pub clock : ℕ
  pub link : ℕ
  pub free : List ℕ
  pub used : ℕ
  pub waiting : ℕ
  pub jobs : List Job

-- the farm that figures and the rows of cells beside them mean: its jobs are the entries of the queue, each with the
-- cells of its row
abbrev pub farm_of : Figures → List ℕ → List ℕ → Farm
farm_of f ks xs = record {
  opened = f.opened;
  nodes = f.nodes;
  costs = f.costs;
  shows = f.shows;
  allowances = f.allowances;
  held = f.held;
  clock = f.clock;
  link = f.link;
  free = f.free;
  used = f.used;
  waiting = f.waiting;
  jobs = jobs_of ks xs f.jobs;
}

-- the farm that a value of the declared type means
abbrev pub meant : stored.Farm → Farm
meant f = farm_of f.figures f.cells.nodes f.cells.shares

-- ---- A farm's parts

abbrev pub waiting_of : Farm → List Job
waiting_of f = take f.waiting f.jobs

abbrev pub free_times_of : Farm → FreeTimes
free_times_of f = record { link = f.link; free = f.free }

abbrev pub walk_terms_of : Farm → WalkTerms
walk_terms_of f = record { costs = f.costs; nodes = f.nodes; clock = f.clock }

-- what a value of the declared type means has lists of these lengths
pub record Sized (f : Farm) : Type 0 where
  pub allowances : length f.allowances ≡ 32
  pub held : length f.held ≡ 32
  pub free : length f.free ≡ 64
  pub jobs : length f.jobs ≡ 128
  pub each : All JobSized f.jobs
