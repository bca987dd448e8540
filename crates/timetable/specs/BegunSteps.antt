-- What jobs leave once they have begun, one after the other: what the loop of `begun_by` keeps.
use Rattle.std.specs.Prelude.{◌≡◌, List, [], ◌∷◌, ℕ, ◌+◌, ◌*◌, ◌-◌, ◌≤◌, ◌<◌, length, get_or}
use Rattle.std.proofs.Common.{sym, ◌∙◌, arith}
use Rattle.limits.specs.Model.{most_held}
use Rattle.limits.specs.declared.FarmCosts.{FarmCosts}
use Rattle.walk.specs.declared.Job.{Job}
use Rattle.walk.specs.declared.FreeTimes.{FreeTimes}
use Rattle.walk.specs.Model.{lines_of, afters}
use Rattle.walk.specs.Chunks.{Sendable}
use Rattle.timetable.specs.Model.{lines_of_all, raised}
use Rattle.timetable.specs.BeginSteps.{Raises, afters_append}
use Rattle.timetable.specs.HeldSteps.{job_most, raised_append, raised_length}

-- where a loop over these jobs stands once i of them have begun: the jobs left leave what all of them leave of the first free times and cells, and
-- each job passed has added at most 64 times the greatest tick
pub record Beginning (c : FarmCosts) (js : List Job) (first : FreeTimes) (held : List ℕ) (times : FreeTimes) (cells : List ℕ) (i : ℕ) (left : List Job) : Type 0 where
  pub size : length cells ≡ 32
  pub after : afters first (lines_of_all c js) ≡ afters times (lines_of_all c left)
  pub ticks : raised held (lines_of_all c js) ≡ raised cells (lines_of_all c left)
  pub most : (k : ℕ) → get_or cells k 0 ≤ get_or held k 0 + i * most_held

module _ (c : FarmCosts) (js : List Job) (first : FreeTimes) (held : List ℕ) (times : FreeTimes) (cells : List ℕ) (i : ℕ) (left : List Job) (x : Beginning c js first held times cells i left) where
  -- A job that comes behind fewer than 128 others can begin.
  pub beginning_raises : (j : Job) → i < 128 → Sendable c j → (1 ≤ j.show) × (j.show ≤ 32) → get_or held (j.show - 1) 0 ≤ most_held → Raises c cells j
  beginning_raises j m s p room = record { sends = s; show = p; room = omega (arith, x.most (j.show - 1)) }

  -- It has begun, and the others come next.
  pub beginning_next : (j : Job) (later : List Job) → left ≡ j ∷ later → Sendable c j → Beginning c js first held (afters times (lines_of c j)) (raised cells (lines_of c j)) (i + 1) later
  unfolding lines_of_all
  beginning_next j later e s = record {
    size = raised_length cells (lines_of c j) ∙ x.size;
    after = x.after ∙ rw e (afters_append times (lines_of c j) (lines_of_all c later));
    ticks = x.ticks ∙ rw e (raised_append cells (lines_of c j) (lines_of_all c later));
    most = λ k. omega (arith, x.most k, job_most c cells j k s);
  }

  -- At the end all have begun.
  pub beginning_all : left ≡ [] → (times ≡ afters first (lines_of_all c js)) × (cells ≡ raised held (lines_of_all c js)) × (length cells ≡ 32)
  unfolding lines_of_all afters raised
  beginning_all none = (sym (x.after ∙ rw none), sym (x.ticks ∙ rw none), x.size)
