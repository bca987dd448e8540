use mathlib.Core.Path.{◌≡◌}
use native.Mathlib.Omega.{arith}
use lib.ListN.{length, length-set}
use Rattle.lists.specs.Places.{each_length}
use Rattle.std.proofs.Math.Seq.{take_all}
use mathlib.Core.Path.{◌∙◌}
use Rattle.walk.specs.View.{job_at, jobs_of, read_next}
use Rattle.queue.proofs.jobs_of.Goals as goal

pub loop-i-preserved : goal.loop-i-preserved
loop-i-preserved c =
    let a = c.args in
    let l = c.loop-i in
    (simp length-set l.invariant.0, rw c.job_at.ensures (read_next a.cells.now.nodes a.cells.now.shares a.jobs.now l.i l.out c.loop-i-test.true (omega arith) l.invariant.1))

pub returns : goal.returns
returns c =
    let a = c.args in
    let l = c.loop-i in
    let e : l.i ≡ length a.jobs.now = omega arith in
    let all = take_all (length a.jobs.now) (jobs_of a.cells.now.nodes a.cells.now.shares a.jobs.now) (omega (arith, each_length (job_at a.cells.now.nodes a.cells.now.shares) 0 a.jobs.now)) in
    (l.invariant.0, (rw e at l.invariant.1) ∙ all)
