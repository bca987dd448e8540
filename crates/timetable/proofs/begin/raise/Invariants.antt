-- `timetable::begin::raise` meets its contract: the chunks left raise the cells to what all of them make of the held ticks.
use Rattle.walk.specs.Model.{lines_of}
use Rattle.walk.specs.View.{job_at}
use Rattle.timetable.specs.HeldSteps.{Raising}
use Rattle.timetable.proofs.begin.raise.Given as goal

abbrev pub invariant-loop-node : goal.invariant-loop-node
invariant-loop-node l =
    Raising l.terms l.cell l.initial.held (lines_of l.fn.costs (job_at l.fn.cells.nodes l.fn.cells.shares l.fn.place l.fn.job)) l.held l.last l.node-iterator.a.rest.now l.node-iterator.b.rest.now
