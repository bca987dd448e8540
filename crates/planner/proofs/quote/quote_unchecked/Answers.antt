-- `quote::quote_unchecked` meets its contract: the offer decided, with the other word.
use mathlib.Core.Path.{ap, ◌∙◌}
use Rattle.std.proofs.lemmas.Result.{err_from_is_err_and}
use Rattle.planner.specs.Calls.{as_quote, quote_said}
use Rattle.planner.proofs.quote.quote_unchecked.Goals as goal

pub returns-in_err-decision : goal.returns-in_err-decision
unfolding quote_said
returns-in_err-decision c =
    let p = err_from_is_err_and c.from_residual.result c.from_residual.ensures.1 in
    rw (p.1, p.2) (ap as_quote c.in_err-decision.ensures.says)

pub returns : goal.returns
unfolding quote_said
returns c = c.as_quote.ensures ∙ ap as_quote c.in_ok-decision.ensures.says
