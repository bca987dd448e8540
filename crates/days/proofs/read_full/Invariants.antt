-- What was read is within the buffer, and each turn reads some more.
use Rattle.std.proofs.Common.{◌-◌, ◌≤◌, length}
use Rattle.days.proofs.read_full.Given as goal

abbrev pub invariant-loop-count : goal.invariant-loop-count
invariant-loop-count g l = l.done ≤ length l.buf

abbrev pub decreases-loop-count : goal.decreases-loop-count
decreases-loop-count g l = length l.fn.buf - l.done
