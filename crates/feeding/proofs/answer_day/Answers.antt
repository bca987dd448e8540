-- `feeding::answer_day` is safe and ends: the farm of the day so far is reachable.
use Rattle.feeding.specs.Fed.{answers_reachable}
use Rattle.feeding.proofs.answer_day.Goals as goal

pub loop-preserved : goal.loop-preserved
loop-preserved g c =
    let a = c.answer_all in
    answers_reachable _ _ _ _ a.result a.new.day a.ensures c.loop.invariant
