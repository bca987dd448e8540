-- `planner::Farm::open` meets its contract.
use Rattle.planner.proofs.Farm.open.Goals as goal

pub returns : goal.returns
returns c = let o = c.open_figures-opening.ensures in record { says = o.says; hands = o.means _ _; nodes = rw c.empty.ensures; shares = rw c.empty.ensures }
