use mathlib.Core.Path.{◌≡◌, refl, ap, sym, subst, ◌∙◌}
use mathlib.Core.List.{List}
use Prim.Native.Nat.{ℕ, ◌+◌}
use native.Mathlib.Omega.{arith}
use Rattle.std.specs.Prelude.{get_or, set}
use Rattle.walk.specs.declared.QueueEntry.{QueueEntry}
use Rattle.planner.specs.declared.Figures.{Figures}
use Rattle.planner.specs.declared.Farm.{Farm}
use Rattle.planner.specs.Changes.{with_jobs, at_time}
use Rattle.planner.specs.Model.{farm_of, meant}
use Rattle.planner.specs.Parts.{parts_sized, with_entries}
use Rattle.planner.specs.PassesSteps.{passes_few}
use Rattle.planner.specs.ClockSteps.{WaitsOn, waits_same, moved_is, waiting_few, begins_few, begins_keys, begins_places, begins_raises, waits_first, waits_few, waits_past, waits_stay, waits_moved, waits_all}
use Rattle.walk.specs.View.{jobs_of, no_entry}
use Rattle.planner.proofs.clock.moved.Goals as goal
use Rattle.planner.proofs.clock.moved.Goals.{then-time-job, then-kept-i, else-kept-i, else-time-job}

-- what the loop changes of a farm
abbrev nodes : Farm → List ℕ
nodes f = f.cells.nodes

abbrev shares : Farm → List ℕ
shares f = f.cells.shares

abbrev entries : Farm → List QueueEntry
entries f = f.figures.jobs

-- a farm whose figures but for its jobs are these
abbrev Other : Figures → Farm → Type 0
Other g f = f.figures ≡ with_entries g g.used g.waiting f.figures.jobs

pub shared_ref_as_front-begun_by : goal.shared_ref_as_front-begun_by
shared_ref_as_front-begun_by c =
    let a = c.args in
    let f = meant a.farm.now in
    let z = parts_sized a.farm.now.figures a.farm.now.cells.nodes a.farm.now.cells.shares c.whole.ensures.0 c.whole.ensures.1 in
    begins_few f a.time a.due z c.requires

pub begun_by-link-requires : goal.begun_by-link-requires
begun_by-link-requires c =
    let a = c.args in
    let f = meant a.farm.now in
    let z = parts_sized a.farm.now.figures a.farm.now.cells.nodes a.farm.now.cells.shares c.whole.ensures.0 c.whole.ensures.1 in
    let x = c.requires in
    (begins_keys f a.time a.due z x, begins_places f a.time a.due z x, begins_raises f a.time a.due z x)

pub loop-i-init : goal.loop-i-init
loop-i-init c =
    let a = c.args in
    let f = meant a.farm.now in
    let z = parts_sized a.farm.now.figures a.farm.now.cells.nodes a.farm.now.cells.shares c.whole.ensures.0 c.whole.ensures.1 in
    let most = waiting_few f z c.requires.passes in
    record {
      few = most;
      same = refl;
      left = waits_first f a.time z.jobs most a.farm.now.cells.nodes a.farm.now.cells.shares a.farm.now.figures.jobs refl (record { entries = c.whole.ensures.0.jobs; nodes = c.whole.ensures.1.0; shares = c.whole.ensures.1.1 });
    }

pub row_moved-requires : goal.row_moved-requires
row_moved-requires c =
    let a = c.args in
    let f = meant a.farm.now in
    let z = parts_sized a.farm.now.figures a.farm.now.cells.nodes a.farm.now.cells.shares c.whole.ensures.0 c.whole.ensures.1 in
    let l = c.loop-i in
    let x = l.invariant.left in
    let h = c.loop-i-test.true in
    let few = waits_few f a.time z.jobs l.invariant.few l.farm.cells.nodes l.farm.cells.shares l.farm.figures.jobs l.kept l.i x h (passes_few f c.requires.passes) in
    (omega (arith, c.if-kept-i.true), omega (arith, l.invariant.few, h), omega (arith, few))

pub loop-i-preserved : goal.loop-i-preserved
loop-i-preserved c =
    let a = c.args in
    let f = meant a.farm.now in
    let z = parts_sized a.farm.now.figures a.farm.now.cells.nodes a.farm.now.cells.shares c.whole.ensures.0 c.whole.ensures.1 in
    let l = c.loop-i in
    let h = c.loop-i-test.true in
    let t = a.time in
    let most = l.invariant.few in
    let other : Other a.farm.now.figures l.farm = l.invariant.same in
    record {
      few = most;
      same = elim c.if-time-job.branch [
        | then-time-job w ↦
            let y = w.if-kept-i in
            let next : Other a.farm.now.figures y.farm =
            elim y.branch [
              | then-kept-i u ↦ subst (Other a.farm.now.figures) (sym u.farm-is) (ap (λ (x : Figures). with_entries x x.used x.waiting (set l.farm.figures.jobs l.kept (get_or l.farm.figures.jobs l.i no_entry))) other)
              | else-kept-i u ↦ subst (Other a.farm.now.figures) (sym u.farm-is) other
            ] in
            subst (Other a.farm.now.figures) (sym w.farm-is) next
        | else-time-job w ↦ subst (Other a.farm.now.figures) (sym w.farm-is) other
      ];
      left = elim c.if-time-job.branch [
        | then-time-job w ↦
            let k = w.if-time-job.true in
            let y = w.if-kept-i in
            let next : WaitsOn f t y.farm.cells.nodes y.farm.cells.shares y.farm.figures.jobs (l.kept + 1) (l.i + 1) =
            elim y.branch [
              | then-kept-i u ↦
                  waits_same (ap nodes u.farm-is) (ap shares u.farm-is) (ap entries u.farm-is) refl
                  (waits_moved f t z.jobs most l.farm.cells.nodes l.farm.cells.shares l.farm.figures.jobs l.kept l.i l.invariant.left h k _ _
                  (passes_few f c.requires.passes) u.if-kept-i.true u.row_moved.ensures)
              | else-kept-i u ↦
                  waits_same (ap nodes u.farm-is) (ap shares u.farm-is) (ap entries u.farm-is) refl
                  (waits_stay f t z.jobs most l.farm.cells.nodes l.farm.cells.shares l.farm.figures.jobs l.kept l.i l.invariant.left h k u.if-kept-i.false)
            ] in
            waits_same (ap nodes w.farm-is) (ap shares w.farm-is) (ap entries w.farm-is) w.kept-is next
        | else-time-job w ↦
            waits_same (ap nodes w.farm-is) (ap shares w.farm-is) (ap entries w.farm-is) w.kept-is
            (waits_past f t z.jobs most l.farm.cells.nodes l.farm.cells.shares l.farm.figures.jobs l.kept l.i l.invariant.left h w.if-time-job.false)
      ];
    }

pub returns : goal.returns
returns c =
    let a = c.args in
    let f = meant a.farm.now in
    let z = parts_sized a.farm.now.figures a.farm.now.cells.nodes a.farm.now.cells.shares c.whole.ensures.0 c.whole.ensures.1 in
    let l = c.loop-i in
    let b = c.begun_by-link in
    let e = waits_all f a.time z.jobs l.invariant.few l.farm.cells.nodes l.farm.cells.shares l.farm.figures.jobs l.kept l.i l.invariant.left c.loop-i-test.false in
    ap (λ (x : Figures). with_jobs (at_time (farm_of x l.farm.cells.nodes l.farm.cells.shares) a.time b.result.times b.result.held) x.used l.kept (jobs_of l.farm.cells.nodes l.farm.cells.shares x.jobs)) l.invariant.same
    ∙ moved_is f a.time _ b.result.times b.result.held l.kept (jobs_of l.farm.cells.nodes l.farm.cells.shares l.farm.figures.jobs) c.requires.due.jobs (rw c.free_times.ensures at b.ensures.0) b.ensures.1 e.0 e.1
