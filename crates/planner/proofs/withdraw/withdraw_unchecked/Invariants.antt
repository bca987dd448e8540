-- `withdraw::withdraw_unchecked` meets its contract: the jobs behind the one that leaves have moved up as far as the
-- loop has come, and the other figures are as they were.
use mathlib.Core.Path.{◌≡◌}
use Rattle.planner.specs.Model.{meant}
use Rattle.planner.specs.Parts.{with_entries}
use Rattle.planner.specs.WithdrawSteps.{Leaves}
use Rattle.planner.proofs.withdraw.withdraw_unchecked.Given as goal

abbrev pub invariant-loop-i : goal.invariant-loop-i
invariant-loop-i l = record {
  same : l.farm.figures ≡ with_entries l.fn.farm.figures l.fn.farm.figures.used l.fn.farm.figures.waiting l.farm.figures.jobs;
  left : Leaves (meant l.fn.farm) l.fn.number l.farm.cells.nodes l.farm.cells.shares l.farm.figures.jobs l.i;
}
