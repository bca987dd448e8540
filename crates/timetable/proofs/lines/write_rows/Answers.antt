use Rattle.std.proofs.Common.{◌∙◌, sym, arith, get_or}
use Rattle.keys.specs.Model.{no_key}
use Rattle.walk.specs.Model.{in_order}
use Rattle.walk.specs.View.{jobs_of, no_entry, row_lines}
use Rattle.walk.specs.Chunks.{Sendable}
use Rattle.timetable.specs.Model.{chunk_row}
use Rattle.timetable.specs.LinesSteps.{place_within, entry_next, entry_all, named_none, writing_room, writing_next, writing_all}
use Rattle.timetable.proofs.lines.write_rows.Goals as goal

pub row-requires : goal.row-requires
row-requires c =
    let a = c.args in
    let k = c.loop-key.key-index in
    let h = c.loop-key-test.true in
    let s = entry_all a.keys.now k h a.cells.now.nodes a.cells.now.shares a.jobs.now c.told-jobs c.requires.0 (Sendable a.costs) c.requires.1 in
    (place_within a.keys.now k h c.requires.0, s.few)

pub write_job-requires : goal.write_job-requires
write_job-requires c =
    let a = c.args in
    let l = c.loop-key in
    let h = c.loop-key-test.true in
    let ks = a.cells.now.nodes in
    let xs = a.cells.now.shares in
    let row = c.row.ensures in
    let place = (get_or a.keys.now l.key-index no_key).place in
    let s = entry_all a.keys.now l.key-index h ks xs a.jobs.now c.told-jobs c.requires.0 (Sendable a.costs) c.requires.1 in
    let next = entry_next a.keys.now l.key-index h ks xs a.jobs.now c.told-jobs c.requires.0 in
    let room = writing_room chunk_row a.costs (in_order (jobs_of ks xs a.jobs.now) a.keys.now) a.rows.now l.rows l.at _ l.invariant _ _ next in
    let lines = row_lines a.costs c.chunk_terms.result (get_or a.jobs.now place no_entry) place ks xs _ _ c.chunk_terms.ensures row.0 row.1 row.2 row.3 in
    (rw c.chunk_terms.ensures s.costs, rw c.chunk_terms.ensures s.compute, row.1 ∙ sym row.3, omega (arith, row.1, room, l.invariant.size, c.requires.2), rw lines at s.ends)

pub loop-key-preserved : goal.loop-key-preserved
loop-key-preserved c =
    let a = c.args in
    let l = c.loop-key in
    let h = c.loop-key-test.true in
    let ks = a.cells.now.nodes in
    let xs = a.cells.now.shares in
    let row = c.row.ensures in
    let place = (get_or a.keys.now l.key-index no_key).place in
    let s = entry_all a.keys.now l.key-index h ks xs a.jobs.now c.told-jobs c.requires.0 (Sendable a.costs) c.requires.1 in
    let next = entry_next a.keys.now l.key-index h ks xs a.jobs.now c.told-jobs c.requires.0 in
    let lines = row_lines a.costs c.chunk_terms.result (get_or a.jobs.now place no_entry) place ks xs _ _ c.chunk_terms.ensures row.0 row.1 row.2 row.3 in
    rw (c.write_job.ensures, row.1, ← lines) (writing_next chunk_row a.costs (in_order (jobs_of ks xs a.jobs.now) a.keys.now) a.rows.now l.rows l.at _ l.invariant _ _ next s (omega (arith, c.requires.2)))

pub returns : goal.returns
returns c =
    let a = c.args in
    let l = c.loop-key in
    let jobs = jobs_of a.cells.now.nodes a.cells.now.shares a.jobs.now in
    writing_all chunk_row a.costs (in_order jobs a.keys.now) a.rows.now l.rows l.at _ l.invariant (named_none jobs a.keys.now l.key-index c.loop-key-test.false)
