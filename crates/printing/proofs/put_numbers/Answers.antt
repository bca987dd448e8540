use Rattle.std.proofs.Common.{sym, arith}
use Rattle.printing.specs.Model.{tabbed}
use Rattle.text.specs.Writing.{wrote_none, wrote_same, wrote_join}
use Rattle.printing.specs.Loops.{tabbed_next}
use Rattle.printing.proofs.put_numbers.Goals as goal

pub loop-n-init : goal.loop-n-init
unfolding tabbed
loop-n-init c = record { wrote = wrote_none _ _; within = omega arith }

pub loop-n-preserved : goal.loop-n-preserved
loop-n-preserved c =
    let l = c.loop-n in
    let q = c.put_number-place.ensures in
    record {
      wrote = wrote_same (sym (tabbed_next c.args.numbers.now l.n-index c.loop-n-test.true))
          (wrote_join l.invariant.wrote (omega (arith, l.invariant.within, l.auto.out)) q.wrote);
      within = omega (arith, l.invariant.within, q.within);
    }
