-- `timetable::begin::begun_by` meets its contract: the jobs left, behind those passed, leave what all of them leave.
use lib.ListN.{drop}
use Rattle.walk.specs.Model.{in_order}
use Rattle.walk.specs.View.{jobs_of}
use Rattle.timetable.specs.BegunSteps.{Beginning}
use Rattle.timetable.proofs.begin.begun_by.Given as goal

abbrev pub invariant-loop-key : goal.invariant-loop-key
invariant-loop-key l =
    let jobs = jobs_of l.cells.nodes l.cells.shares l.jobs in
    Beginning l.costs (in_order jobs l.keys) l.fn.times l.fn.held l.begun.times l.begun.held l.key-index (in_order jobs (drop l.key-index l.keys))
