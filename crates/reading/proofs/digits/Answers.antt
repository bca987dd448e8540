use Rattle.std.proofs.Common.{◌≡◌, ◌≤◌, length, ◌<◌, refl, ◌-◌, arith, sym, ◌∙◌, get_or}
use Rattle.reading.specs.Steps.{number_start, number_other, number_more, number_none, power_small, power_more}
use Rattle.reading.proofs.digits.Goals as goal

pub loop-b-init : goal.loop-b-init
loop-b-init c =
    let f = c.args.field.now in
    let l : 1 ≤ length f = grind arith in
    let h : length f ≤ 13 = grind arith in
    record { below = omega arith; same = number_start f l h }

pub returns-then-not-is_ascii_digit : goal.returns-then-not-is_ascii_digit
returns-then-not-is_ascii_digit c =
    let a = c.args in
    let l = c.loop-b in
    let o = c.if-not-is_ascii_digit.ensures.value in
    sym (sym l.invariant.same ∙ number_other l.value a.field.now l.b-index c.loop-b-test.true o)

pub overflow_mul-value : goal.overflow_mul-value
overflow_mul-value c =
    let n : c.loop-b.b-index < 13 = grind arith in
    omega (arith, power_small c.loop-b.b-index n)

pub overflow_add-value : goal.overflow_add-value
overflow_add-value c =
    let n : c.loop-b.b-index < 13 = grind arith in
    omega (arith, power_small c.loop-b.b-index n)

pub loop-b-preserved : goal.loop-b-preserved
loop-b-preserved c =
    let a = c.args in
    let l = c.loop-b in
    let f = a.field.now in
    let b = get_or f l.b-index 0 in
    let d = c.if-not-is_ascii_digit.ensures.cases in
    let e : c.from.result ≡ b - 48 = c.from.ensures in
    let m = number_more l.value f l.b-index c.loop-b-test.true b refl d.0 d.1 in
    rw e (record { below = power_more l.value b l.b-index l.invariant.below d.1; same = sym m ∙ l.invariant.same })

pub returns : goal.returns
returns c =
    let a = c.args in
    let l = c.loop-b in
    sym (sym l.invariant.same ∙ number_none l.value a.field.now l.b-index (omega arith))
