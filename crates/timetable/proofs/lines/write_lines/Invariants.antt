-- `timetable::lines::write_lines` meets its contract: the lines left, behind those written, are all of them.
use lib.ListN.{drop}
use Rattle.timetable.specs.LinesSteps.{Writing}
use Rattle.timetable.proofs.lines.write_lines.Given as goal

abbrev pub invariant-loop-job : goal.invariant-loop-job
invariant-loop-job l = Writing (λ line. line) l.costs l.jobs l.initial.out l.out l.at (drop l.job-index l.jobs)
