use Rattle.std.proofs.Common.{arith, refl, ◌≤◌, length, length-set, ap, sym, ◌∙◌, ◌≡◌, ◌+◌, set}
use Rattle.std.proofs.Math.Seq.{set_out}
use Rattle.reading.specs.Separators.{end_none, field_known, gathered_broken}
use Rattle.reading.specs.Steps.{behind_next, behind_none, gathered_more, gathered_stop, gathered_none, answer_of}
use Rattle.reading.proofs.gather.Goals as goal
use Rattle.reading.proofs.gather.Goals.{then-count-lt39, else-count-lt39}

pub returns-in_err-end : goal.returns-in_err-end
returns-in_err-end c =
    let a = c.args in
    let l = c.loop-at in
    let b = gathered_broken l.count l.numbers a.line.now l.at _ c.loop-at-test.true refl (end_none _ c.in_err-end.ensures.place) in
    c.from_residual.ensures ∙ sym (ap answer_of (sym l.invariant.same ∙ b))

pub returns-in_err-value : goal.returns-in_err-value
returns-in_err-value c =
    let a = c.args in
    let l = c.loop-at in
    let e = c.in_ok-end.end in
    let whole = field_known a.line.now (l.at + 1) e c.in_ok-end.ensures.place in
    let cut = behind_next a.line.now l.at e c.loop-at-test.true whole in
    let s = gathered_stop l.count l.numbers _ _ _ cut c.in_err-value.ensures in
    c.from_residual-in_err-value.ensures ∙ sym (ap answer_of (sym l.invariant.same ∙ s))

pub loop-at-preserved : goal.loop-at-preserved
loop-at-preserved c =
    let a = c.args in
    let l = c.loop-at in
    let e = c.in_ok-end.end in
    let v = c.in_ok-value.value in
    let n : c.if-count-lt39.numbers ≡ set l.numbers l.count v =
    elim c.if-count-lt39.branch [
      | then-count-lt39 w ↦ w.numbers-is
      | else-count-lt39 w ↦
          let k : length l.numbers ≤ l.count = omega (arith, w.if-count-lt39.false, l.invariant.places) in
          w.numbers-is ∙ sym (set_out l.numbers l.count v k)
    ] in
    let whole = field_known a.line.now (l.at + 1) e c.in_ok-end.ensures.place in
    let cut = behind_next a.line.now l.at e c.loop-at-test.true whole in
    let m = gathered_more l.count l.numbers _ _ _ cut v c.if-count-lt39.numbers c.in_ok-value.ensures n in
    record {
      counted = omega arith;
      within = c.in_ok-end.ensures.within.1;
      places = rw (n, length-set) l.invariant.places;
      same = sym m ∙ l.invariant.same;
    }

pub returns : goal.returns
returns c =
    let a = c.args in
    let l = c.loop-at in
    sym (ap answer_of (sym l.invariant.same ∙ gathered_none l.count l.numbers _ (behind_none a.line.now l.at (omega arith))))
