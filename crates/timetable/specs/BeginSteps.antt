-- What the functions of src/begin.rt promise each other, and their loops' steps.
use Rattle.std.specs.Prelude.{◌≡◌, refl, List, [], ◌∷◌, ◌++◌, ℕ, ◌+◌, ◌*◌, ◌-◌, ◌≤◌, ◌<◌, length, get_or, take, drop}
use Rattle.std.specs.List.{sum_by}
use Rattle.std.proofs.Common.{ap, sym, ◌∙◌, arith}
use Rattle.std.proofs.lemmas.List.Sums.{sum_by-cons}
use borrow.Author.Tests.{le-leb, lt-leb}
use Rattle.limits.specs.Model.{most_held}
use Rattle.lists.specs.Laws.{All, front_next}
use Rattle.lists.specs.Keep.{keep}
use Rattle.limits.specs.declared.FarmCosts.{FarmCosts}
use Rattle.walk.specs.declared.Job.{Job}
use Rattle.walk.specs.declared.FreeTimes.{FreeTimes}
use Rattle.walk.specs.declared.Chunk.{Chunk}
use Rattle.walk.specs.Model.{no_job, after, afters}
use Rattle.walk.specs.View.{Few}
use Rattle.walk.specs.Chunks.{Sendable}
use Rattle.timetable.specs.Model.{starts_after}

-- how many chunks jobs have
unfoldable pub chunks : List Job → ℕ
chunks [] = 0
chunks (j ∷ js) = j.booking.count + chunks js

-- They are the sum of the jobs' counts.
pub chunks_sum : (js : List Job) → chunks js ≡ sum_by (λ (j : Job). j.booking.count) js
unfolding chunks
chunks_sum [] = refl
chunks_sum (j ∷ js) = ap (λ (n : ℕ). j.booking.count + n) (chunks_sum js) ∙ sym (sum_by-cons (λ (i : Job). i.booking.count) j js)

pub chunks_few : (js : List Job) → All Few js → chunks js ≤ 64 * length js
unfolding chunks
chunks_few [] h = omega arith
chunks_few (j ∷ js) h = omega (arith, h.0, chunks_few js h.1)

-- a job that can begin: its chunks can be worked out, its show has a cell, and the cell has room for what they add
pub record Raises (c : FarmCosts) (held : List ℕ) (j : Job) : Type 0 where
  pub sends : Sendable c j
  pub show : (1 ≤ j.show) × (j.show ≤ 32)
  pub room : get_or held (j.show - 1) 0 ≤ 10_000_000_000_000_000

-- the same of several
pub record RaisesAll (c : FarmCosts) (held : List ℕ) (js : List Job) : Type 0 where
  pub sends : All (Sendable c) js
  pub shows : All (λ (j : Job). (1 ≤ j.show) × (j.show ≤ 32)) js
  pub room : All (λ (j : Job). get_or held (j.show - 1) 0 ≤ most_held) js

-- The free times behind two lists of lines, one after the other.
pub afters_append : (b : FreeTimes) (xs ys : List Chunk) → afters b (xs ++ ys) ≡ afters (afters b xs) ys
unfolding afters
afters_append b [] ys = refl
afters_append b (x ∷ xs) ys = afters_append (after b x) xs ys

-- ---- The first n jobs of an array, one by one

module _ (jobs : List Job) (n i : ℕ) (h : i < n) (f : n ≤ length jobs) where
  abbrev jobs_next : drop i (take n jobs) ≡ get_or jobs i no_job ∷ drop (i + 1) (take n jobs)
  jobs_next = front_next no_job jobs n i h f

  pub chunks_next : chunks (drop i (take n jobs)) ≡ (get_or jobs i no_job).booking.count + chunks (drop (i + 1) (take n jobs))
  unfolding chunks
  chunks_next = rw jobs_next

  -- It waits on, or has begun.
  pub keep_next : (t : ℕ) → t < (get_or jobs i no_job).booking.start
      → keep (starts_after t) (drop i (take n jobs)) ≡ get_or jobs i no_job ∷ keep (starts_after t) (drop (i + 1) (take n jobs))
  unfolding keep
  keep_next t k = rw (jobs_next, lt-leb (get_or jobs i no_job).booking.start t k)

  pub keep_past : (t : ℕ) → (get_or jobs i no_job).booking.start ≤ t
      → keep (starts_after t) (drop i (take n jobs)) ≡ keep (starts_after t) (drop (i + 1) (take n jobs))
  unfolding keep
  keep_past t k = rw (jobs_next, le-leb (get_or jobs i no_job).booking.start t k)
