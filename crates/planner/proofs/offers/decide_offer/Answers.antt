-- `offers::decide_offer` meets its contract: a question before the walk, or the walk.
use mathlib.Core.Path.{◌≡◌, sym}
use Rattle.std.proofs.lemmas.Result.{err_from_is_err_and}
use Rattle.planner.specs.Model.{meant}
use Rattle.planner.specs.Calls.{offer_asked}
use Rattle.planner.specs.CallsSteps.{asked_passed}
use Rattle.planner.specs.OfferSteps.{plans_no, plans_walked, new_entry_is}
use Rattle.planner.proofs.offers.decide_offer.Goals as goal

pub returns-in_err-ask : goal.returns-in_err-ask
returns-in_err-ask c =
    let a = c.args in
    let f = meant a.farm.now in
    let p = err_from_is_err_and c.from_residual.result c.from_residual.ensures.1 in
    rw (p.1, p.2)
    (plans_no a.farm.now.figures a.farm.now.cells.nodes a.farm.now.cells.shares a.offer c.in_err-ask.field-0.0 _ _
    (asked_passed f a.offer _ _ c.requires c.compute_or-compute.ensures c.in_err-ask.ensures))

pub returns : goal.returns
returns c =
    let a = c.args in
    let f = meant a.farm.now in
    let none : offer_asked f a.offer ≡ 0 = sym (asked_passed f a.offer _ _ c.requires c.compute_or-compute.ensures c.in_ok-ask.ensures) in
    let n = c.new_job-job in
    plans_walked a.farm.now.figures a.farm.now.cells.nodes a.farm.now.cells.shares a.offer n.result c.planned.result _ _ none
    (new_entry_is f a.offer _ n.result n.ensures c.compute_or-compute.ensures) c.planned.ensures
