-- `Farm::withdraw` meets its contract: question 11 is answered no.
use mathlib.Core.Path.{sym, ◌∙◌}
use Rattle.planner.specs.WithdrawSteps.{withdraw_unsound}
use Rattle.planner.proofs.Farm.withdraw.Goals as goal

pub returns-then-not-passes : goal.returns-then-not-passes
returns-then-not-passes c =
    let a = c.args in
    withdraw_unsound a.self a.number c.refused.result (sym c.passes.ensures ∙ c.if-not-passes.true) c.refused.ensures
