-- `lines::answer::put_rows` meets its contract: the lines of the records so far stand.
use Rattle.std.proofs.Common.{◌*◌, take}
use Rattle.lines.specs.AnswerLines.{row_texts}
use Rattle.text.specs.Writing.{WroteWithin}
use Rattle.lines.proofs.answer.put_rows.Given as goal

abbrev pub invariant-loop-row : goal.invariant-loop-row
invariant-loop-row l = WroteWithin (l.row-index * 176) (row_texts (take l.row-index l.rows)) l.at l.fn.out l.out l.place
