use mathlib.Core.Path.{sym, ◌∙◌}
use Rattle.soundness.specs.Steps.{turn_next, turn_none}
use Rattle.soundness.proofs.jobs_fit.Goals as goal

pub returns-in_default : goal.returns-in_default
returns-in_default c =
    let a = c.args in
    let l = c.loop-key in
    sym (l.invariant ∙ turn_next a.costs l.left a.jobs.now a.keys.now l.key-index c.loop-key-test.true c.requires.1 c.job_fits.result c.job_fits.ensures ∙ rw c.in_default.is)

pub loop-key-preserved : goal.loop-key-preserved
loop-key-preserved c =
    let a = c.args in
    let l = c.loop-key in
    l.invariant ∙ turn_next a.costs l.left a.jobs.now a.keys.now l.key-index c.loop-key-test.true c.requires.1 c.job_fits.result c.job_fits.ensures ∙ rw c.in-Some.is

pub returns : goal.returns
returns c =
    let a = c.args in
    let l = c.loop-key in
    sym (l.invariant ∙ turn_none a.costs l.left a.jobs.now a.keys.now l.key-index c.loop-key-test.false)
