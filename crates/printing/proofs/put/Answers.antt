-- `printing::put` meets its contract: a word, numbers and a newline, one behind the other, are the line.
use Rattle.std.proofs.Common.{arith}
use Rattle.printing.specs.Model.{line_text}
use Rattle.text.specs.Writing.{wrote_same, wrote_join}
use Rattle.printing.proofs.put.Goals as goal

pub returns : goal.returns
unfolding line_text
returns c =
    let short = c.text.ensures.1 in
    let w = c.put_text-word_end.ensures in
    let n = c.put_numbers-line_end.ensures in
    let t = c.put_text.ensures in
    record {
      wrote = wrote_join (wrote_same c.text.ensures.0 w) (omega (arith, w.place, short))
          (wrote_join n.wrote (omega (arith, w.place, short, n.within, c.put_text-word_end.auto.out)) t);
      within = omega (arith, w.place, short, n.within, t.place);
    }
