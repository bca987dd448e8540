-- `Farm::show` meets its contract, one return a question.
use mathlib.Core.Path.{◌≡◌, refl, sym, subst, ◌∙◌}
use mathlib.Core.Bool.{true}
use Prim.Native.Nat.{◌≤◌, ◌<◌}
use native.Mathlib.Omega.{arith}
use borrow.Author.Tests.{le-leb, lt-leb}
use lib.ListN.{length, take}
use Rattle.lists.specs.Laws.{All}
use Rattle.planner.specs.Model.{Farm, meant}
use Rattle.planner.specs.Passes.{passes_of}
use Rattle.planner.specs.Clock.{shown}
use Rattle.planner.specs.ClockSteps.{CanBegin, waiting_few, by_start_can_begin, ordered_front, can_begin_few, shown_unsound, shown_unheld, shown_asked_lem, shown_lines_lem, shown_sends, shown_written, show_stops, show_goes}
use Rattle.planner.specs.Parts.{waiting_front}
use Rattle.std.proofs.lemmas.List.{length-take}
use Rattle.planner.proofs.Sizes.{farm_sized, stored_figures}
use Rattle.planner.proofs.Farm.show.Goals as goal

pub returns-then-not-passes : goal.returns-then-not-passes
returns-then-not-passes c =
    let a = c.args in
    show_stops a.self a.out.now 10 _ c.refused.result c.refused.ensures (shown_unsound (meant a.self) (length a.out.now) (sym c.passes.ensures ∙ c.if-not-passes.true)) refl

pub shared_ref_as_front-jobs_of : goal.shared_ref_as_front-jobs_of
shared_ref_as_front-jobs_of c = waiting_few (meant c.args.self) (farm_sized c.args.self c.well_formed.0) (sym c.passes.ensures ∙ c.if-not-passes.false)

pub jobs_of-jobs-requires : goal.jobs_of-jobs-requires
jobs_of-jobs-requires c =
    let few = waiting_few (meant c.args.self) (farm_sized c.args.self c.well_formed.0) (sym c.passes.ensures ∙ c.if-not-passes.false) in
    omega (arith, few, length-take c.args.self.figures.waiting c.args.self.figures.jobs)

pub by_start-ordered-requires : goal.by_start-ordered-requires
by_start-ordered-requires c = waiting_few (meant c.args.self) (farm_sized c.args.self c.well_formed.0) (sym c.passes.ensures ∙ c.if-not-passes.false)

pub line_count-total-requires : goal.line_count-total-requires
line_count-total-requires c =
    let f : Farm = meant c.args.self in
    let sized = farm_sized c.args.self c.well_formed.0 in
    let passed : passes_of f ≡ true = sym c.passes.ensures ∙ c.if-not-passes.false in
    let few = waiting_few f sized passed in
    let b = c.by_start-ordered in
    let front = ordered_front f c.jobs_of-jobs.result b.result sized few (waiting_front c.args.self.figures c.args.self.cells.nodes c.args.self.cells.shares c.jobs_of-jobs.result (omega (arith, few, (stored_figures c.args.self c.well_formed.0).jobs)) c.jobs_of-jobs.ensures.1) b.ensures in
    let ready = subst (All (CanBegin f)) (sym front) (by_start_can_begin f sized passed) in
    (omega (arith, few, length-take f.waiting b.result), can_begin_few f (take f.waiting b.result) ready)

pub returns-then-out-total : goal.returns-then-out-total
returns-then-out-total c =
    let f : Farm = meant c.args.self in
    let sized = farm_sized c.args.self c.well_formed.0 in
    let passed : passes_of f ≡ true = sym c.passes.ensures ∙ c.if-not-passes.false in
    let few = waiting_few f sized passed in
    let b = c.by_start-ordered in
    let front = ordered_front f c.jobs_of-jobs.result b.result sized few (waiting_front c.args.self.figures c.args.self.cells.nodes c.args.self.cells.shares c.jobs_of-jobs.result (omega (arith, few, (stored_figures c.args.self c.well_formed.0).jobs)) c.jobs_of-jobs.ensures.1) b.ensures in
    let ready = subst (All (CanBegin f)) (sym front) (by_start_can_begin f sized passed) in
    let room = length c.args.out.now in
    let more : room < length (shown f) = omega (arith, shown_lines_lem f _ front ready, c.line_count-total.ensures.0, c.if-out-total.true) in
    show_stops c.args.self c.args.out.now 9 _ c.refused-then-out-total.result c.refused-then-out-total.ensures (shown_unheld f room passed (lt-leb (length (shown f)) room more)) refl

pub write_lines-requires : goal.write_lines-requires
write_lines-requires c =
    let f : Farm = meant c.args.self in
    let sized = farm_sized c.args.self c.well_formed.0 in
    let passed : passes_of f ≡ true = sym c.passes.ensures ∙ c.if-not-passes.false in
    let few = waiting_few f sized passed in
    let b = c.by_start-ordered in
    let front = ordered_front f c.jobs_of-jobs.result b.result sized few (waiting_front c.args.self.figures c.args.self.cells.nodes c.args.self.cells.shares c.jobs_of-jobs.result (omega (arith, few, (stored_figures c.args.self c.well_formed.0).jobs)) c.jobs_of-jobs.ensures.1) b.ensures in
    let ready = subst (All (CanBegin f)) (sym front) (by_start_can_begin f sized passed) in
    (shown_sends f b.result front ready, omega (arith, c.line_count-total.ensures.0, c.if-out-total.false))

pub returns : goal.returns
returns c =
    let f : Farm = meant c.args.self in
    let sized = farm_sized c.args.self c.well_formed.0 in
    let passed : passes_of f ≡ true = sym c.passes.ensures ∙ c.if-not-passes.false in
    let few = waiting_few f sized passed in
    let b = c.by_start-ordered in
    let front = ordered_front f c.jobs_of-jobs.result b.result sized few (waiting_front c.args.self.figures c.args.self.cells.nodes c.args.self.cells.shares c.jobs_of-jobs.result (omega (arith, few, (stored_figures c.args.self c.well_formed.0).jobs)) c.jobs_of-jobs.ensures.1) b.ensures in
    let ready = subst (All (CanBegin f)) (sym front) (by_start_can_begin f sized passed) in
    let room = length c.args.out.now in
    let lines = shown_lines_lem f _ front ready in
    let fits : length (shown f) ≤ room = omega (arith, lines, c.line_count-total.ensures.0, c.if-out-total.false) in
    show_goes c.args.self c.args.out.now _ _ (shown_asked_lem f room passed (le-leb (length (shown f)) room fits)) (c.line_count-total.ensures.0 ∙ sym lines)
    (c.write_lines.ensures ∙ shown_written f b.result front ready c.args.out.now)
