-- `shares::capacity` meets its contract: a recursion over the nodes left. The measure is their count.
use Rattle.shares.proofs.+capacity.Given as goal

abbrev pub decreases-capacity : goal.decreases-capacity
decreases-capacity l = l.nodes
