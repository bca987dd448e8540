use Rattle.std.proofs.Common.{◌≤◌, ap, sym, ◌∙◌, subst, length, arith, rules}
use Rattle.search.specs.Laws.{next_within}
use Rattle.lines.specs.Feeding.{stretch}
use Rattle.lines.specs.PendingLine.{kept_row}
use Rattle.lines.specs.Rows.{pending_of, FarmRow, row_farm, by_row}
use Rattle.protocol.specs.Promises.{day_farm}
use Rattle.protocol.specs.Blocks.{day_start, day_reachable, day_line, day_rest}
use Rattle.protocol.proofs.Session.answer_block.Goals as goal

pub loop-next-init : goal.loop-next-init
loop-next-init c =
    let s = c.args.self.now in
    day_start (day_farm s) s.rest c.args.block.now c.args.from c.args.out.now

pub loop-next-preserved-then-end-block : goal.loop-next-preserved-then-end-block
loop-next-preserved-then-end-block c =
    day_rest c.loop-next.invariant c.find-end.ensures c.push.ensures c.if-end-block.true

pub slice_bounds-ended-end : goal.slice_bounds-ended-end
slice_bounds-ended-end c =
    let f = c.find-end in
    let within : f.result ≤ length c.args.block.now =
    next_within _ c.args.block.now c.loop-next.next f.result f.ensures (omega arith) in
    search rules

pub put_line-at-requires-clause-reached : goal.put_line-at-requires-clause-reached
put_line-at-requires-clause-reached c = day_reachable c.loop-next.invariant c.requires

pub put_line-at-requires-clause-farm : goal.put_line-at-requires-clause-farm
put_line-at-requires-clause-farm c = subst FarmRow (sym c.ended-row.ensures.row) (row_farm _)

pub loop-next-preserved : goal.loop-next-preserved
loop-next-preserved c =
    let l = c.loop-next in
    let f = c.find-end in
    let p = c.put_line-at.ensures in
    let within : f.result ≤ length c.args.block.now =
    next_within _ c.args.block.now l.next f.result f.ensures (omega arith) in
    let said = kept_row (day_farm l.self) l.self.rest (stretch l.next f.result c.args.block.now)
    ∙ sym (ap (by_row (day_farm l.self)) c.ended-row.ensures.row) in
    day_line l.invariant f.ensures (omega (arith, within, c.if-end-block.false)) said p.farm (ap pending_of p.rest ∙ c.ended-row.ensures.left) p.wrote
    (omega (arith, p.wrote.within, l.invariant.size))
