-- The block up to `next` has been fed.
use Rattle.std.proofs.Common.{◌-◌, length}
use Rattle.lines.specs.Feeding.{stretch}
use Rattle.lines.specs.Rows.{pending_of}
use Rattle.protocol.specs.Promises.{day_farm}
use Rattle.feeding.specs.Fed.{Leaves}
use Rattle.feeding.proofs.answer_all.Given as goal

abbrev pub invariant-loop-next : goal.invariant-loop-next
invariant-loop-next g l =
    Leaves (day_farm l.fn.day) (pending_of l.fn.day.rest) (stretch 0 l.next l.block) l.day

abbrev pub decreases-loop-next : goal.decreases-loop-next
decreases-loop-next g l = length l.block - l.next
