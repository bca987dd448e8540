-- The loop goes on behind each line that was found.
use Rattle.std.proofs.Common.{length, ◌-◌}
use Rattle.separators.proofs.cut.Given as goal

abbrev pub decreases-loop-at : goal.decreases-loop-at
decreases-loop-at g l = length l.text - l.at
