-- `windows::check_counts` meets its contract: the checker works the two counts out from the definition of the fewest
-- nodes.
use Rattle.std.proofs.Common.{arith}
use Rattle.shares.specs.Model.{first, left, capacity, fewest, fewest_of}
use Rattle.windows.proofs.check_counts.Goals as goal

pub prove-unreachable-requires : goal.prove-unreachable-requires
unfolding first left capacity fewest fewest_of
prove-unreachable-requires c = grind arith

pub prove-unreachable-requires-2 : goal.prove-unreachable-requires-2
unfolding first left capacity fewest fewest_of
prove-unreachable-requires-2 c = grind arith
