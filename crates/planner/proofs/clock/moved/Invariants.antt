-- `clock::moved` meets its contract: the jobs kept so far stand in front of the old ones, and the other figures are as
-- they were.
use mathlib.Core.Path.{◌≡◌}
use Prim.Native.Nat.{◌≤◌}
use Rattle.planner.specs.Model.{meant}
use Rattle.planner.specs.Parts.{with_entries}
use Rattle.planner.specs.ClockSteps.{WaitsOn}
use Rattle.planner.proofs.clock.moved.Given as goal

abbrev pub invariant-loop-i : goal.invariant-loop-i
invariant-loop-i l = record {
  few : l.fn.farm.figures.waiting ≤ 128;
  same : l.farm.figures ≡ with_entries l.fn.farm.figures l.fn.farm.figures.used l.fn.farm.figures.waiting l.farm.figures.jobs;
  left : WaitsOn (meant l.fn.farm) l.time l.farm.cells.nodes l.farm.cells.shares l.farm.figures.jobs l.kept l.i;
}
