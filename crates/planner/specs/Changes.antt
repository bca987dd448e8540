-- How a call changes a farm: it sets what waits (an offer, a withdrawal), or the clock, the free times and the held ticks besides (a clock move). The
-- definitions come first; behind each stands what it keeps, that its figures are within their limits and that its arrays have their lengths.
use Rattle.std.specs.Prelude.{◌≡◌, refl, List, ◌++◌, ℕ, ◌≤◌, length, take, drop}
use Rattle.std.proofs.Common.{◌∙◌, arith, length-append, length-drop, take-append-drop, take_at}
use Rattle.lists.specs.Laws.{All, all_append, all_join}
use Rattle.walk.specs.declared.Job.{Job}
use Rattle.walk.specs.declared.FreeTimes.{FreeTimes}
use Rattle.planner.specs.Model.{Farm}
use Rattle.planner.specs.Model.{greatest, most_held, JobSized, Sized, waiting_of}
use Rattle.planner.specs.Passes.{Within}

-- ---- The changes

-- the farm with u numbers used and the first n of these jobs waiting
abbrev pub with_jobs : Farm → ℕ → ℕ → List Job → Farm
with_jobs f u n js = record {
  opened = f.opened;
  nodes = f.nodes;
  costs = f.costs;
  shows = f.shows;
  allowances = f.allowances;
  held = f.held;
  clock = f.clock;
  link = f.link;
  free = f.free;
  used = u;
  waiting = n;
  jobs = js;
}

-- the farm with u numbers used and these jobs waiting; the cells behind them hold what they held
abbrev pub with_queue : Farm → ℕ → List Job → Farm
with_queue f u js = with_jobs f u (length js) (js ++ drop (length js) f.jobs)

-- the farm at the tick t, with these free times and held ticks
abbrev pub at_time : Farm → ℕ → FreeTimes → List ℕ → Farm
at_time f t b hs = record {
  opened = f.opened;
  nodes = f.nodes;
  costs = f.costs;
  shows = f.shows;
  allowances = f.allowances;
  held = hs;
  clock = t;
  link = b.link;
  free = b.free;
  used = f.used;
  waiting = f.waiting;
  jobs = f.jobs;
}

-- ---- What they keep

-- no call changes these
pub record Keeps (f g : Farm) : Type 0 where
  pub opened : g.opened ≡ f.opened
  pub nodes : g.nodes ≡ f.nodes
  pub costs : g.costs ≡ f.costs
  pub shows : g.shows ≡ f.shows
  pub allowances : g.allowances ≡ f.allowances

-- A farm keeps its own.
pub keeps_same : (f : Farm) → Keeps f f
keeps_same f = record { opened = refl; nodes = refl; costs = refl; shows = refl; allowances = refl }

-- What two calls keep, both keep.
pub keeps_then : {f g h : Farm} → Keeps f g → Keeps g h → Keeps f h
keeps_then a b = record {
  opened = b.opened ∙ a.opened;
  nodes = b.nodes ∙ a.nodes;
  costs = b.costs ∙ a.costs;
  shows = b.shows ∙ a.shows;
  allowances = b.allowances ∙ a.allowances;
}

-- Other jobs keep them,
pub jobs_keep : (f : Farm) (u n : ℕ) (js : List Job) → Keeps f (with_jobs f u n js)
jobs_keep f u n js = record { opened = refl; nodes = refl; costs = refl; shows = refl; allowances = refl }

-- and so do other times.
pub time_keeps : (f : Farm) (t : ℕ) (b : FreeTimes) (hs : List ℕ) → Keeps f (at_time f t b hs)
time_keeps f t b hs = record { opened = refl; nodes = refl; costs = refl; shows = refl; allowances = refl }

-- ---- Within the limits

-- Other jobs leave the figures within their limits where there are at most 128,
pub jobs_within : (f : Farm) (u n : ℕ) (js : List Job) → Within f → u ≤ greatest → n ≤ 128 → Within (with_jobs f u n js)
jobs_within f u n js w used few = record {
  nodes = w.nodes;
  costs = w.costs;
  shows = w.shows;
  allowances = w.allowances;
  held = w.held;
  clock = w.clock;
  link = w.link;
  free = w.free;
  used = used;
  waiting = few;
}

-- and other times where they are in the time range.
pub time_within : (f : Farm) (t : ℕ) (b : FreeTimes) (hs : List ℕ) → Within f → t ≤ greatest → b.link ≤ greatest → All (λ (x : ℕ). x ≤ greatest) (take f.nodes b.free)
    → All (λ (x : ℕ). x ≤ most_held) (take f.shows hs) → Within (at_time f t b hs)
time_within f t b hs w clock link free held = record {
  nodes = w.nodes;
  costs = w.costs;
  shows = w.shows;
  allowances = w.allowances;
  held = held;
  clock = clock;
  link = link;
  free = free;
  used = w.used;
  waiting = w.waiting;
}

-- ---- The arrays

-- A queue that fits leaves the arrays their lengths,
pub queue_sized : (f : Farm) (u : ℕ) (js : List Job) → Sized f → length js ≤ 128 → All JobSized js → Sized (with_queue f u js)
queue_sized f u js z few each =
    let n = length js in
    let rest : All JobSized (drop n f.jobs) = (all_append JobSized (take n f.jobs) (drop n f.jobs) (rw take-append-drop z.each)).1 in
    record {
      allowances = z.allowances;
      held = z.held;
      free = z.free;
      jobs = omega (arith, length-append js (drop n f.jobs), length-drop n f.jobs, z.jobs);
      each = all_join JobSized js (drop n f.jobs) each rest;
    }

-- and so do other times that are as many.
pub time_sized : (f : Farm) (t : ℕ) (b : FreeTimes) (hs : List ℕ) → Sized f → length b.free ≡ 64 → length hs ≡ 32 → Sized (at_time f t b hs)
time_sized f t b hs z free held = record { allowances = z.allowances; held = held; free = free; jobs = z.jobs; each = z.each }

-- The jobs of the queue are those that wait.
pub queue_waits : (f : Farm) (u : ℕ) (js : List Job) → waiting_of (with_queue f u js) ≡ js
queue_waits f u js = take_at js (drop (length js) f.jobs) (length js) refl
