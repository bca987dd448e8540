-- `queue::unbooked` meets its contract.
use mathlib.Core.Path.{refl}
use Rattle.booking.specs.Model.{booking_of}
use Rattle.queue.proofs.unbooked.Goals as goal

pub returns : goal.returns
unfolding booking_of
returns c = refl
