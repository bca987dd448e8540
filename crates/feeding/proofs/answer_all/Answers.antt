-- `feeding::answer_all` meets its contract: the block up to `next` has been fed.
use Rattle.std.proofs.Common.{arith}
use Rattle.lines.specs.Rows.{pending_of}
use Rattle.protocol.specs.Promises.{day_farm}
use Rattle.feeding.specs.Fed.{leaves_reachable, fed_start, fed_more, fed_all, took_given}
use Rattle.feeding.proofs.answer_all.Goals as goal

pub loop-next-init : goal.loop-next-init
loop-next-init g c = fed_start c.args.day.now c.args.block.now

pub answer_block-done-requires : goal.answer_block-done-requires
answer_block-done-requires g c = leaves_reachable _ _ _ c.loop-next.day c.loop-next.invariant c.requires

pub returns-then-is_err : goal.returns-then-is_err
returns-then-is_err g c =
    let s = c.args.day.now in
    let l = c.loop-next in
    let b = c.answer_block-done in
    took_given (day_farm s) (pending_of s.rest) c.args.block.now l.day l.next l.out b.new.out b.result b.new.self _
    l.invariant b.ensures c.loop-next-test.true (omega arith)

pub loop-next-preserved : goal.loop-next-preserved
loop-next-preserved g c =
    let s = c.args.day.now in
    let l = c.loop-next in
    let b = c.answer_block-done in
    fed_more (day_farm s) (pending_of s.rest) c.args.block.now l.day l.next l.out b.new.out b.result b.new.self l.invariant b.ensures

pub returns : goal.returns
returns g c =
    let s = c.args.day.now in
    let l = c.loop-next in
    fed_all (day_farm s) (pending_of s.rest) c.args.block.now l.next l.day l.invariant (omega arith)
