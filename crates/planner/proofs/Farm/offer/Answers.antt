-- `Farm::offer` meets its contract: question 11 is answered no.
use mathlib.Core.Path.{sym, ◌∙◌}
use Rattle.planner.specs.CallsSteps.{offer_unsound}
use Rattle.planner.proofs.Farm.offer.Goals as goal

pub returns-then-not-passes : goal.returns-then-not-passes
returns-then-not-passes c =
    let a = c.args in
    offer_unsound a.self a.offer c.refused.result (sym c.passes.ensures ∙ c.if-not-passes.true) c.refused.ensures
