-- `soundness::job_fits` meets its contract. The loop's invariant: the chunks that are left, behind the free times so far, decide.
use mathlib.Core.Path.{◌≡◌}
use lib.ListN.{length}
use Rattle.soundness.specs.Steps.{Fitting}
use Rattle.soundness.proofs.job_fits.Given as goal

abbrev pub invariant-loop-node : goal.invariant-loop-node
invariant-loop-node l =
    (length l.now.free ≡ 64) × Fitting l.fn.costs l.job l.terms l.initial.now l.now l.last l.node-iterator.a.rest.now l.node-iterator.b.rest.now
