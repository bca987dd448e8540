-- `Farm::clock` meets its contract: question 11, and then what the farm that passes decides.
use mathlib.Core.Path.{◌≡◌, refl, sym, ap, ◌∙◌}
use mathlib.Core.Bool.{true, not}
use Prim.Native.Nat.{◌≤◌}
use native.Mathlib.Omega.{arith}
use Rattle.std.proofs.Common.{rules}
use lib.ListN.{length}
use Rattle.std.proofs.lemmas.List.{length-take}
use Rattle.timetable.specs.BeginSteps.{chunks}
use Rattle.planner.specs.Model.{Farm, meant}
use Rattle.planner.specs.Passes.{passes_of}
use Rattle.planner.specs.Parts.{waiting_front}
use Rattle.planner.specs.ClockSteps.{Begins, waiting_few, move_unsound_stops, move_stops, move_taken, move_goes, due_front, due_asks, due_written, begins_keys, begins_places}
use Rattle.planner.proofs.Sizes.{farm_sized, stored_figures}
use Rattle.planner.proofs.Farm.clock.Goals as goal

pub returns-then-not-passes : goal.returns-then-not-passes
returns-then-not-passes c =
    let a = c.args in
    move_unsound_stops a.self a.time a.out.now c.refused.result c.refused.ensures (sym c.passes.ensures ∙ c.if-not-passes.true)

pub shared_ref_as_front-jobs_of : goal.shared_ref_as_front-jobs_of
shared_ref_as_front-jobs_of c = waiting_few (meant c.args.self) (farm_sized c.args.self c.well_formed.0) (sym c.passes.ensures ∙ c.if-not-passes.false)

pub jobs_of-waiting-requires : goal.jobs_of-waiting-requires
jobs_of-waiting-requires c =
    let few = waiting_few (meant c.args.self) (farm_sized c.args.self c.well_formed.0) (sym c.passes.ensures ∙ c.if-not-passes.false) in
    omega (arith, few, length-take c.args.self.figures.waiting c.args.self.figures.jobs)

pub gathered-jobs-requires : goal.gathered-jobs-requires
gathered-jobs-requires c =
    let f : Farm = meant c.args.self in
    let sized = farm_sized c.args.self c.well_formed.0 in
    let passed : passes_of f ≡ true = sym c.passes.ensures ∙ c.if-not-passes.false in
    let d = c.move_unchecked-step.result.due in
    let b : Begins f c.args.time d = record { passes = passed; due = c.move_unchecked-step.ensures.due } in
    (begins_keys f c.args.time d sized b, begins_places f c.args.time d sized b)

pub write_lines-requires : goal.write_lines-requires
unfolding chunks
write_lines-requires c =
    let a = c.args in
    let f : Farm = meant a.self in
    let sized = farm_sized a.self c.well_formed.0 in
    let passed : passes_of f ≡ true = sym c.passes.ensures ∙ c.if-not-passes.false in
    let d = c.move_unchecked-step.result.due in
    let b : Begins f a.time d = record { passes = passed; due = c.move_unchecked-step.ensures.due } in
    let j = c.jobs_of-waiting in
    let g = c.gathered-jobs in
    let few : a.self.figures.waiting ≤ length a.self.figures.jobs = omega (arith, waiting_few f sized passed, (stored_figures a.self c.well_formed.0).jobs) in
    let front = waiting_front a.self.figures a.self.cells.nodes a.self.cells.shares j.result few j.ensures.1 in
    let q = due_front f a.time d j.result g.result sized b j.ensures.0 front g.ensures in
    let asks = due_asks f a.time d sized b g.result q (length a.out.now) (move_taken f a.time (length a.out.now) _ c.move_unchecked-step.ensures (c.is_err.ensures.negation ∙ ap not c.if-is_err.false)).2 in
    (search (rules, asks.0), omega (arith, asks.1))

pub returns : goal.returns
returns c =
    let a = c.args in
    let f : Farm = meant a.self in
    let sized = farm_sized a.self c.well_formed.0 in
    let passed : passes_of f ≡ true = sym c.passes.ensures ∙ c.if-not-passes.false in
    let d = c.move_unchecked-step.result.due in
    let b : Begins f a.time d = record { passes = passed; due = c.move_unchecked-step.ensures.due } in
    let j = c.jobs_of-waiting in
    let g = c.gathered-jobs in
    let few : a.self.figures.waiting ≤ length a.self.figures.jobs = omega (arith, waiting_few f sized passed, (stored_figures a.self c.well_formed.0).jobs) in
    let front = waiting_front a.self.figures a.self.cells.nodes a.self.cells.shares j.result few j.ensures.1 in
    let q = due_front f a.time d j.result g.result sized b j.ensures.0 front g.ensures in
    move_goes a.self a.time a.out.now _ _ _ c.move_unchecked-step.ensures (c.is_err.ensures.negation ∙ ap not c.if-is_err.false) c.moved.ensures
    (c.write_lines.ensures ∙ due_written f a.time d sized b g.result q a.out.now)

pub returns-then-is_err : goal.returns-then-is_err
returns-then-is_err c =
    let a = c.args in
    let x = c.move_unchecked-step.ensures in
    move_stops a.self a.time a.out.now c.move_unchecked-step.result.answer _ refl x.says (sym x.granted ∙ c.is_err.ensures.negation ∙ ap not c.if-is_err.true)
