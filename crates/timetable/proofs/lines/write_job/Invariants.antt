-- `timetable::lines::write_job` meets its contract: the lines left, behind those written, are all of them.
use Rattle.std.proofs.Common.{◌≡◌, ◌+◌, ◌≤◌, map, length}
use Rattle.walk.specs.Model.{greatest, chunks_from, latest}
use Rattle.timetable.specs.LinesSteps.{Filled}
use Rattle.timetable.proofs.lines.write_job.Given as goal

abbrev pub invariant-loop-i : goal.invariant-loop-i
invariant-loop-i g l =
    let ks = l.i-iterator.iter.a.rest.now in
    let xs = l.i-iterator.iter.b.rest.now in
    let i = l.i-iterator.count in
    let end = l.at + length l.nodes in
    (Filled l.initial.out l.at (map g.L.Line.written (chunks_from l.terms l.start l.nodes l.shares)) end ≡ Filled l.out (l.at + i) (map g.L.Line.written (chunks_from l.terms l.last ks xs)) end)
    × (latest l.last (chunks_from l.terms l.last ks xs) ≤ greatest)
    × (i + length ks ≡ length l.nodes)
    × (length ks ≡ length xs)
