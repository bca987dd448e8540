-- `shares::fewest_nodes` meets its contract. The loop's invariant: the nodes counted so far leave a rest of the size, which is
-- what they do not hold, and a window, which is what they leave.
use Rattle.std.proofs.Common.{◌≡◌, ◌+◌, ◌≤◌}
use Rattle.shares.specs.Model.{left_after, capacity}
use Rattle.shares.proofs.fewest_nodes.Given as goal

abbrev pub invariant-loop-count : goal.invariant-loop-count
invariant-loop-count l =
    (1 ≤ l.rest) × (l.rest + capacity l.costs l.count l.window ≡ l.size) × (l.left ≡ left_after l.costs l.count l.window)
