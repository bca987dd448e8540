-- `offers::planned` meets its contract: the walk, and the new job found in its plan.
use mathlib.Core.Path.{ap, sym, ◌∙◌}
use native.Mathlib.Omega.{arith}
use Rattle.planner.specs.Calls.{yes_of}
use Rattle.planner.specs.OfferSteps.{queued_ready, walk_refuses, new_found, new_place, new_within, planned_sends, walk_accepts}
use Rattle.planner.proofs.offers.planned.Goals as goal

pub walked-requires : goal.walked-requires
walked-requires c =
    let a = c.args in
    rw (c.walk_terms.ensures, c.free_times.ensures)
    (queued_ready a.farm.now.figures a.farm.now.cells.nodes a.farm.now.cells.shares a.job c.requires c.whole.ensures.0)

pub returns-in_default : goal.returns-in_default
returns-in_default c =
    let a = c.args in
    walk_refuses a.farm.now.figures a.farm.now.cells.nodes a.farm.now.cells.shares a.job c.requires c.whole.ensures.0 _ _
    (rw (c.walk_terms.ensures, c.free_times.ensures) at c.in_default.ensures)

pub unwrap-place-requires : goal.unwrap-place-requires
unwrap-place-requires c =
    let a = c.args in
    rw c.place_of.ensures
    (new_found a.farm.now.figures a.farm.now.cells.nodes a.farm.now.cells.shares a.job c.requires c.whole.ensures.0
    c.in-Some.jobs _ _ (rw (c.walk_terms.ensures, c.free_times.ensures) at c.in-Some.ensures))

pub yes-requires : goal.yes-requires
yes-requires c =
    let a = c.args in
    let w = rw (c.walk_terms.ensures, c.free_times.ensures) at c.in-Some.ensures in
    let z = c.whole.ensures.0 in
    let at = new_place a.farm.now.figures a.farm.now.cells.nodes a.farm.now.cells.shares a.job c.requires z c.in-Some.jobs _ _ w
    c.unwrap-place.result (sym c.place_of.ensures ∙ c.unwrap-place.ensures) in
    let inside = new_within a.farm.now.figures a.farm.now.cells.nodes a.farm.now.cells.shares a.job c.requires z c.in-Some.jobs _ _ w c.unwrap-place.result at in
    rw c.job_at-told.ensures
    (planned_sends a.farm.now.figures a.farm.now.cells.nodes a.farm.now.cells.shares a.job c.requires z c.in-Some.jobs _ _ w _ (omega (arith, inside)))

pub returns : goal.returns
returns c =
    let a = c.args in
    let w = rw (c.walk_terms.ensures, c.free_times.ensures) at c.in-Some.ensures in
    let z = c.whole.ensures.0 in
    let at = new_place a.farm.now.figures a.farm.now.cells.nodes a.farm.now.cells.shares a.job c.requires z c.in-Some.jobs _ _ w
    c.unwrap-place.result (sym c.place_of.ensures ∙ c.unwrap-place.ensures) in
    walk_accepts a.farm.now.figures a.farm.now.cells.nodes a.farm.now.cells.shares a.job c.requires z c.in-Some.jobs _ _ w
    c.unwrap-place.result at c.yes.result (c.yes.ensures ∙ ap (yes_of a.farm.now.figures.costs) c.job_at-told.ensures)
