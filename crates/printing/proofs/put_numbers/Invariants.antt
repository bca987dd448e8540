-- `printing::put_numbers` meets its contract: the numbers so far stand, each behind its tab.
use Rattle.std.proofs.Common.{◌*◌, take}
use Rattle.printing.specs.Model.{tabbed}
use Rattle.text.specs.Writing.{WroteWithin}
use Rattle.printing.proofs.put_numbers.Given as goal

abbrev pub invariant-loop-n : goal.invariant-loop-n
invariant-loop-n l = WroteWithin (21 * l.n-index) (tabbed (take l.n-index l.numbers)) l.at l.fn.out l.out l.place
