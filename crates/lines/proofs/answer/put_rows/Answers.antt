use Rattle.std.proofs.Common.{arith}
use Rattle.lines.specs.AnswerLines.{row_texts, row_next}
use Rattle.text.specs.Writing.{wrote_none}
use Rattle.lines.proofs.answer.put_rows.Goals as goal

pub loop-row-init : goal.loop-row-init
unfolding row_texts
loop-row-init c = record { wrote = wrote_none _ _; within = omega arith }

pub loop-row-preserved : goal.loop-row-preserved
loop-row-preserved c =
    let l = c.loop-row in
    row_next c.args.rows.now l.row-index c.loop-row-test.true (omega (arith, l.invariant.within, l.auto.out)) l.invariant
    c.put-place.ensures
