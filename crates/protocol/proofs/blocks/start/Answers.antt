-- `protocol::blocks::start` meets its contract.
use Rattle.planner.specs.Calls.{open_farm}
use Rattle.protocol.proofs.blocks.start.Goals as goal

pub returns : goal.returns
unfolding open_farm
returns c = (c.open_figures.ensures.means, c.empty-2.ensures)
