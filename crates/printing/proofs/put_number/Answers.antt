-- `printing::put_number` meets its contract: the tab, and behind it the digits that the library writes.
use Rattle.std.proofs.Common.{◌≡◌, ◌+◌, length, arith, rules}
use Rattle.std.specs.Fmt as std
use Rattle.text.specs.Writing.{wrote_same, wrote_join}
use Rattle.printing.specs.Decimal.{decimal_std, std_length}
use Rattle.printing.specs.Loops.{wrote_to}
use Rattle.printing.proofs.put_number.Goals as goal

pub write_digits-requires : goal.write_digits-requires
write_digits-requires c =
    let n = c.args.n in
    let q = c.ilog10.ensures in
    let long : length (std.decimal n) ≡ c.ilog10.result + 1 =
    std_length n c.max.result c.ilog10.result (search rules) c.max.ensures q.power_le q.next_power_gt in
    (omega arith, omega (arith, c.put_text-next.ensures.place, q.bound))

pub returns : goal.returns
returns c =
    let n = c.args.n in
    let q = c.ilog10.ensures in
    let w = c.write_digits.ensures in
    let long : length (std.decimal n) ≡ c.ilog10.result + 1 =
    std_length n c.max.result c.ilog10.result (search rules) c.max.ensures q.power_le q.next_power_gt in
    let text = decimal_std n (search rules) in
    record {
      wrote = wrote_join c.put_text-next.ensures (omega (arith, c.put_text-next.ensures.place))
          (wrote_same text (wrote_to (omega (arith, w.start, long)) (omega (arith, long)) w.before w.written));
      within = omega (arith, c.put_text-next.ensures.place, q.bound);
    }
