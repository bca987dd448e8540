-- The loop goes on behind each field that was found.
use Rattle.std.proofs.Common.{length, ◌-◌}
use Rattle.separators.proofs.part.Given as goal

abbrev pub decreases-loop-at : goal.decreases-loop-at
decreases-loop-at g l = length l.line - l.at
