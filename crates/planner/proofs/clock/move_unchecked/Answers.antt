-- `clock::move_unchecked` meets its contract, one return a question.
use mathlib.Core.Path.{◌≡◌, refl}
use mathlib.Core.Bool.{true, false}
use native.Mathlib.Omega.{arith}
use Rattle.std.proofs.Common.{rules}
use Rattle.planner.specs.Model.{between, greatest, meant}
use Rattle.planner.specs.Parts.{parts_sized}
use Rattle.planner.specs.PassesSteps.{passes_within}
use Rattle.timetable.specs.DueSteps.{due_front}
use Rattle.planner.specs.ClockSteps.{due_asked, decides_untimely, decides_unheld, decides_granted}
use Rattle.planner.proofs.clock.move_unchecked.Goals as goal

pub shared_ref_as_front-due : goal.shared_ref_as_front-due
shared_ref_as_front-due c = (passes_within (meant c.args.farm.now) c.requires).waiting

pub due-due-requires : goal.due-due-requires
due-due-requires c =
    let a = c.args in
    let z = parts_sized a.farm.now.figures a.farm.now.cells.nodes a.farm.now.cells.shares c.whole.ensures.0 c.whole.ensures.1 in
    due_asked (meant a.farm.now) z c.requires a.farm.now.cells.nodes a.farm.now.cells.shares a.farm.now.figures.jobs refl

pub returns-then-not-contains : goal.returns-then-not-contains
returns-then-not-contains c =
    let d = c.due-due in
    let a = c.args in
    let f = meant a.farm.now in
    let time : between a.farm.now.figures.clock a.time greatest ≡ false = search rules in
    let z = parts_sized a.farm.now.figures a.farm.now.cells.nodes a.farm.now.cells.shares c.whole.ensures.0 c.whole.ensures.1 in
    let few = (passes_within f c.requires).waiting in
    let due = due_front a.farm.now.cells.nodes a.farm.now.cells.shares a.farm.now.figures.jobs a.farm.now.figures.waiting a.time d.result (omega (arith, few, c.whole.ensures.0.jobs)) (d.ensures a.farm.now.cells.nodes a.farm.now.cells.shares) in
    decides_untimely f a.time a.room d.result z (record { passes = c.requires; due = due }) time

pub returns-then-room-due : goal.returns-then-room-due
returns-then-room-due c =
    let d = c.due-due in
    let a = c.args in
    let f = meant a.farm.now in
    let time : between a.farm.now.figures.clock a.time greatest ≡ true = search rules in
    let z = parts_sized a.farm.now.figures a.farm.now.cells.nodes a.farm.now.cells.shares c.whole.ensures.0 c.whole.ensures.1 in
    let few = (passes_within f c.requires).waiting in
    let due = due_front a.farm.now.cells.nodes a.farm.now.cells.shares a.farm.now.figures.jobs a.farm.now.figures.waiting a.time d.result (omega (arith, few, c.whole.ensures.0.jobs)) (d.ensures a.farm.now.cells.nodes a.farm.now.cells.shares) in
    decides_unheld f a.time a.room d.result z (record { passes = c.requires; due = due }) time c.if-room-due.true

pub returns : goal.returns
returns c =
    let d = c.due-due in
    let a = c.args in
    let f = meant a.farm.now in
    let time : between a.farm.now.figures.clock a.time greatest ≡ true = search rules in
    let z = parts_sized a.farm.now.figures a.farm.now.cells.nodes a.farm.now.cells.shares c.whole.ensures.0 c.whole.ensures.1 in
    let few = (passes_within f c.requires).waiting in
    let due = due_front a.farm.now.cells.nodes a.farm.now.cells.shares a.farm.now.figures.jobs a.farm.now.figures.waiting a.time d.result (omega (arith, few, c.whole.ensures.0.jobs)) (d.ensures a.farm.now.cells.nodes a.farm.now.cells.shares) in
    decides_granted f a.time a.room d.result z (record { passes = c.requires; due = due }) time c.if-room-due.false
