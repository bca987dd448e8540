-- `lines::answer::put_move` meets its contract: the lines, and behind them the answer.
use Rattle.std.proofs.Common.{arith}
use Rattle.text.specs.Writing.{wrote_join}
use Rattle.lines.proofs.answer.put_move.Goals as goal

pub returns : goal.returns
returns c =
    let u = c.put_rows-place.ensures in
    let v = c.put_answer.ensures in
    let q = c.requires in
    record { wrote = wrote_join u.wrote (omega (arith, u.within, q.0, q.1)) v.wrote; within = omega (arith, u.within, v.within, q.0) }
