use mathlib.Core.Path.{◌≡◌, refl, ap, sym, ◌∙◌}
use Rattle.std.specs.Prelude.{◌-◌, get_or, set}
use Rattle.walk.specs.View.{no_entry}
use Rattle.std.proofs.Common.{Some, None}
use native.Mathlib.Omega.{arith}
use lib.Seq.{length-take-le}
use Rattle.planner.specs.declared.Figures.{Figures}
use Rattle.planner.specs.Model.{Farm, meant, waiting_of}
use Rattle.planner.specs.Parts.{parts_sized, with_entries}
use Rattle.planner.specs.PassesSteps.{passes_within, passes_few}
use Rattle.planner.specs.PlaceSteps.{searched, place_has}
use Rattle.planner.specs.WithdrawSteps.{withdraws_none, withdraws_one, leaves_first, leaves_few, leaves_moved, leaves_all}
use Rattle.planner.proofs.withdraw.withdraw_unchecked.Goals as goal

pub shared_ref_as_front-place_of : goal.shared_ref_as_front-place_of
shared_ref_as_front-place_of c = (passes_within (meant c.args.farm.now) c.requires).waiting

pub returns-in_default : goal.returns-in_default
returns-in_default c =
    let a = c.args in
    withdraws_none a.farm.now a.number c.requires (searched a.number a.farm.now.cells.nodes a.farm.now.cells.shares a.farm.now.figures.waiting a.farm.now.figures.jobs None (sym c.place_of.ensures ∙ c.in_default.is))

pub loop-i-init : goal.loop-i-init
loop-i-init c =
    let a = c.args in
    let f : Farm = meant a.farm.now in
    let few = (passes_within f c.requires).waiting in
    let z = parts_sized a.farm.now.figures a.farm.now.cells.nodes a.farm.now.cells.shares c.whole.ensures.0 c.whole.ensures.1 in
    let at = searched a.number a.farm.now.cells.nodes a.farm.now.cells.shares a.farm.now.figures.waiting a.farm.now.figures.jobs (Some c.in-Some.place) (sym c.place_of.ensures ∙ c.in-Some.is) in
    record {
      same = refl;
      left = leaves_first f a.number z.jobs few a.farm.now.cells.nodes a.farm.now.cells.shares a.farm.now.figures.jobs c.in-Some.place refl (record { entries = c.whole.ensures.0.jobs; nodes = c.whole.ensures.1.0; shares = c.whole.ensures.1.1 }) at.0 at.1;
    }

pub row_moved-requires : goal.row_moved-requires
row_moved-requires c =
    let a = c.args in
    let l = c.loop-i in
    let f : Farm = meant a.farm.now in
    let few = (passes_within f c.requires).waiting in
    let z = parts_sized a.farm.now.figures a.farm.now.cells.nodes a.farm.now.cells.shares c.whole.ensures.0 c.whole.ensures.1 in
    let x = l.invariant.left in
    (omega (arith, x.some), omega (arith, few, c.loop-i-test.true), omega (arith, leaves_few f a.number z.jobs few l.farm.cells.nodes l.farm.cells.shares l.farm.figures.jobs l.i x c.loop-i-test.true (passes_few f c.requires)))

pub loop-i-preserved : goal.loop-i-preserved
loop-i-preserved c =
    let a = c.args in
    let l = c.loop-i in
    let f : Farm = meant a.farm.now in
    let few = (passes_within f c.requires).waiting in
    let z = parts_sized a.farm.now.figures a.farm.now.cells.nodes a.farm.now.cells.shares c.whole.ensures.0 c.whole.ensures.1 in
    record {
      same = ap (λ (x : Figures). with_entries x x.used x.waiting (set l.farm.figures.jobs (l.i - 1) (get_or l.farm.figures.jobs l.i no_entry))) l.invariant.same;
      left = leaves_moved f a.number z.jobs few l.farm.cells.nodes l.farm.cells.shares l.farm.figures.jobs l.i l.invariant.left c.loop-i-test.true _ _ (passes_few f c.requires) c.row_moved.ensures;
    }

pub returns : goal.returns
returns c =
    let a = c.args in
    let l = c.loop-i in
    let f : Farm = meant a.farm.now in
    let few = (passes_within f c.requires).waiting in
    let z = parts_sized a.farm.now.figures a.farm.now.cells.nodes a.farm.now.cells.shares c.whole.ensures.0 c.whole.ensures.1 in
    let at = searched a.number a.farm.now.cells.nodes a.farm.now.cells.shares a.farm.now.figures.waiting a.farm.now.figures.jobs (Some c.in-Some.place) (sym c.place_of.ensures ∙ c.in-Some.is) in
    let has = place_has a.number (waiting_of f) (omega (arith, at.0, at.1)) in
    let end : l.i ≡ a.farm.now.figures.waiting = omega (arith, at.0, length-take-le a.farm.now.figures.waiting f.jobs (omega (arith, z.jobs, few)), c.loop-i.auto.i-end, c.loop-i-test.false) in
    let all = leaves_all f a.number z.jobs few l.farm.cells.nodes l.farm.cells.shares l.farm.figures.jobs l.i l.invariant.left end in
    withdraws_one a.farm.now a.number c.requires _ l.farm.figures l.farm.cells.nodes l.farm.cells.shares has l.invariant.same all.0 all.1
