-- `protocol::Session::answer_block` meets its contract: the day is that of feeding the block so far.
use Rattle.std.proofs.Common.{◌-◌, length}
use Rattle.protocol.specs.Promises.{day_farm}
use Rattle.protocol.specs.Blocks.{DayAt}
use Rattle.protocol.proofs.Session.answer_block.Given as goal

abbrev pub invariant-loop-next : goal.invariant-loop-next
invariant-loop-next l =
    DayAt (day_farm l.fn.self) l.fn.self.rest l.block l.from l.fn.out (day_farm l.self) l.self.rest l.next l.at l.out

abbrev pub decreases-loop-next : goal.decreases-loop-next
decreases-loop-next l = length l.block - l.next
