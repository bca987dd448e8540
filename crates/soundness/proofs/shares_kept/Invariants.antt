-- `soundness::shares_kept` meets its contract. The loop's invariant: the shares that are left decide, behind the units and the sends so far; a send
-- takes a tick for each unit, so that no sum wraps.
use mathlib.Core.Path.{◌≡◌}
use Prim.Native.Nat.{◌≤◌}
use lib.ListN.{length}
use Rattle.walk.specs.Model.{greatest}
use Rattle.soundness.specs.Model.{shares_kept}
use Rattle.soundness.specs.Steps.{kept_from}
use Rattle.soundness.proofs.shares_kept.Given as goal

abbrev pub invariant-loop-node : goal.invariant-loop-node
invariant-loop-node l =
    let ks = l.node-iterator.a.rest.now in
    let xs = l.node-iterator.b.rest.now in
    (length ks ≡ length xs) × (l.total ≤ l.last) × (l.last ≤ greatest)
    × (shares_kept l.fn.costs l.job ≡ kept_from l.terms l.job.size l.job.deadline l.total l.last ks xs)
