-- The farm of the day so far is reachable.
use Rattle.protocol.specs.Promises.{day_farm}
use Rattle.protocol.specs.Reachable.{Reachable}
use Rattle.feeding.proofs.answer_day.Given as goal

abbrev pub invariant-loop : goal.invariant-loop
invariant-loop g l = Reachable (day_farm l.day)
