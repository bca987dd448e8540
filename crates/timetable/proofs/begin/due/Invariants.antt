-- `timetable::begin::due` meets its contract: the jobs passed that start by the time, whatever the rows hold.
use mathlib.Core.List.{List}
use Prim.Native.Nat.{ℕ}
use lib.ListN.{length}
use Rattle.walk.specs.View.{jobs_of}
use Rattle.timetable.specs.DueSteps.{Finding}
use Rattle.timetable.proofs.begin.due.Given as goal

abbrev pub invariant-loop-place : goal.invariant-loop-place
invariant-loop-place l = (ks xs : List ℕ) → Finding (jobs_of ks xs l.jobs) (length l.jobs) l.time l.initial.keys l.keys l.count l.lines l.place
