use mathlib.Core.Path.{◌≡◌, refl, sym, ap, ◌∙◌}
use native.Mathlib.Omega.{arith}
use lib.ListN.{length, take, length-set}
use Rattle.std.proofs.Common.{take_all, subst, ℕ}
use Rattle.soundness.specs.Model.{job_numbers}
use Rattle.soundness.specs.Steps.{pass_more, pass_stop, pass_none, numbers_more}
use Rattle.soundness.proofs.surveyed.Goals as goal

pub loop-i-init : goal.loop-i-init
loop-i-init c = (refl, refl, refl)

pub returns-then-not-job_passes : goal.returns-then-not-job_passes
returns-then-not-job_passes c =
    let a = c.args in
    let l = c.loop-i in
    l.invariant.0 ∙ pass_stop a.bounds a.jobs.now l.i c.loop-i-test.true (sym c.job_passes.ensures ∙ c.if-not-job_passes.true)

pub loop-i-preserved : goal.loop-i-preserved
loop-i-preserved c =
    let a = c.args in
    let l = c.loop-i in
    let h = c.loop-i-test.true in (
      l.invariant.0 ∙ pass_more a.bounds a.jobs.now l.i h (sym c.job_passes.ensures ∙ c.if-not-job_passes.false),
      simp length-set l.invariant.1,
      numbers_more a.jobs.now l.numbers l.i h (omega (arith, l.invariant.1, h, c.requires.1)) l.invariant.2,
    )

pub returns : goal.returns
returns c =
    let a = c.args in
    let l = c.loop-i in
    let all : l.i ≡ length a.jobs.now = omega arith in
    let written = subst (λ (k : ℕ). take k l.numbers ≡ job_numbers (take k a.jobs.now)) all l.invariant.2 in
    (l.invariant.0 ∙ pass_none a.bounds a.jobs.now l.i c.loop-i-test.false, written ∙ ap job_numbers (take_all (length a.jobs.now) a.jobs.now (omega arith)))
