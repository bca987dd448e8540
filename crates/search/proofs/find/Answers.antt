-- `search::find` meets its contract: one byte, asked for twice.
use Rattle.search.specs.Steps.{before_same}
use Rattle.search.proofs.find.Goals as goal

pub returns : goal.returns
returns c = rw before_same c.next_of.ensures
