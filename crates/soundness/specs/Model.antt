-- Question 11 asked of the waiting jobs alone: first the test that runs, then what the paper asks. `says_waiting` in Sound.antt says that they are the
-- same. Everything here is a definition; nothing is assumed.
use Rattle.std.specs.Prelude.{ℕ, ◌≤◌, ◌≡◌, List, [], ◌∷◌, map, Bool, true, ◌&&◌, not, leb, eqb}
use Rattle.lists.specs.Laws.{All, Pairs, Differ}
use Rattle.limits.specs.declared.FarmCosts.{FarmCosts}
use Rattle.shares.specs.Model.{sum}
use Rattle.shares.specs.Lists.{Positive}
use Rattle.limits.specs.Model.{between, all_at_most, all_at_least, Between}
use Rattle.booking.specs.Best.{free_at, chosen, units}
use Rattle.walk.specs.declared.Job.{Job}
use Rattle.walk.specs.declared.FreeTimes.{FreeTimes}
use Rattle.walk.specs.Model.{greatest, finish_of, spans_of_all, by_start, fit_all, Apart}
use Rattle.soundness.specs.declared.JobBounds.{JobBounds}

-- ---- The test

-- x is none of a list
unfoldable pub none_of : ℕ → List ℕ → Bool
none_of x [] = true
none_of x (y ∷ ys) = not (eqb x y) && none_of x ys

unfoldable pub all_differ : List ℕ → Bool
all_differ [] = true
all_differ (x ∷ xs) = none_of x xs && all_differ xs

abbrev pub job_numbers : List Job → List ℕ
job_numbers js = map (λ (j : Job). j.number) js

-- every node is one of n
abbrev pub nodes_known : ℕ → List ℕ → Bool
nodes_known n ks = all_at_least 1 ks && all_at_most n ks

-- the bounds of a waiting job
unfoldable pub job_within : JobBounds → Job → Bool
job_within g j =
    between 1 j.number g.used
    && between 1 j.show g.shows
    && between 1 j.size 1_000_000
    && between 1 j.compute 1_000_000
    && leb j.deadline greatest
    && leb j.booking.start greatest
    && between 1 j.booking.count 64
    && nodes_known g.terms.nodes (chosen j.booking)

-- a job's shares: each at least 1, its size in all, and finished by its deadline
unfoldable pub shares_kept : FarmCosts → Job → Bool
shares_kept c j =
    all_at_least 1 (units j.booking) && eqb (sum (units j.booking)) j.size && leb (finish_of c j) j.deadline

-- a waiting job by itself: its start not before the clock, its shares, and its finish
unfoldable pub job_kept : JobBounds → Job → Bool
job_kept g j = leb g.terms.clock j.booking.start && shares_kept g.terms.costs j

unfoldable pub job_passes : JobBounds → Job → Bool
job_passes g j = job_within g j && job_kept g j

unfoldable pub jobs_pass : JobBounds → List Job → Bool
jobs_pass g [] = true
jobs_pass g (j ∷ js) = job_passes g j && jobs_pass g js

-- the waiting jobs: each by itself, their numbers, and in order of start each behind the free times and those before it
unfoldable pub waiting_pass : JobBounds → FreeTimes → List Job → Bool
waiting_pass g b js = jobs_pass g js && all_differ (job_numbers js) && fit_all b (spans_of_all g.terms.costs (by_start js))

-- ---- What the paper asks

-- a waiting job's bounds are within their limits
pub record JobWithin (g : JobBounds) (j : Job) : Type 0 where
  pub number : Between 1 j.number g.used
  pub show : Between 1 j.show g.shows
  pub size : Between 1 j.size 1_000_000
  pub compute : Between 1 j.compute 1_000_000
  pub deadline : j.deadline ≤ greatest
  pub start : j.booking.start ≤ greatest
  pub count : Between 1 j.booking.count 64
  pub nodes : All (λ (k : ℕ). Between 1 k g.terms.nodes) (chosen j.booking)

-- a waiting booking is sound: no start before the clock or the link's free time, no node taken before its free time, shares of at least 1
-- that add up to the size, every finish by its deadline. Sendable and finishes are as the job's own costs make them by construction: a booking stores its
-- start, nodes and shares, and the rest is worked out (`lines_of`).
pub record JobSound (g : JobBounds) (b : FreeTimes) (j : Job) : Type 0 where
  pub clock : g.terms.clock ≤ j.booking.start
  pub link : b.link ≤ j.booking.start
  pub free : All (λ (k : ℕ). free_at b.free k ≤ j.booking.start) (chosen j.booking)
  pub each : Positive (units j.booking)
  pub all : sum (units j.booking) ≡ j.size
  pub ends : finish_of g.terms.costs j ≤ j.deadline

pub record Sound (g : JobBounds) (b : FreeTimes) (js : List Job) : Type 0 where
  pub jobs : All (JobSound g b) js
  -- sends and node spans apart, pairwise
  pub apart : Pairs Apart (spans_of_all g.terms.costs js)
  -- job numbers all different (that they are among those used is in JobWithin)
  pub differ : Differ (job_numbers js)
