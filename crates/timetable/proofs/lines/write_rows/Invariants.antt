-- `timetable::lines::write_rows` meets its contract: the rows left, behind those written, are all of them.
use lib.ListN.{drop}
use Rattle.walk.specs.Model.{in_order}
use Rattle.walk.specs.View.{jobs_of}
use Rattle.timetable.specs.Model.{chunk_row}
use Rattle.timetable.specs.LinesSteps.{Writing}
use Rattle.timetable.proofs.lines.write_rows.Given as goal

abbrev pub invariant-loop-key : goal.invariant-loop-key
invariant-loop-key l =
    let jobs = jobs_of l.cells.nodes l.cells.shares l.jobs in
    Writing chunk_row l.costs (in_order jobs l.keys) l.initial.rows l.rows l.at (in_order jobs (drop l.key-index l.keys))
