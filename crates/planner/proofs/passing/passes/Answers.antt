-- `passing::passes` meets its contract: the figures, and past them the waiting jobs.
use mathlib.Core.Path.{◌≡◌, ap, sym, ◌∙◌}
use mathlib.Core.Bool.{true}
use Prim.Native.Nat.{◌≤◌}
use native.Mathlib.Omega.{arith}
use lib.ListN.{length}
use Rattle.std.proofs.Common.{length-take-le}
use Rattle.planner.specs.Model.{meant, free_times_of}
use Rattle.planner.specs.Passes.{waiting_pass, bounds_of}
use Rattle.planner.specs.PassesSteps.{farm_within, farm_within_lem, usable, passes_out, passes_rest}
use Rattle.planner.specs.Parts.{waiting_front}
use Rattle.planner.proofs.passing.passes.Goals as goal

pub returns-then-not-within : goal.returns-then-not-within
returns-then-not-within c =
    let f = c.args.farm.now in
    sym (passes_out (meant f) (sym (c.within.ensures f.cells.nodes f.cells.shares) ∙ c.if-not-within.true))

pub shared_ref_as_front-jobs_of : goal.shared_ref_as_front-jobs_of
shared_ref_as_front-jobs_of c =
    let f = c.args.farm.now in
    let within : farm_within (meant f) ≡ true = sym (c.within.ensures f.cells.nodes f.cells.shares) ∙ c.if-not-within.false in
    (farm_within_lem (meant f) within).waiting

pub jobs_of-jobs-requires : goal.jobs_of-jobs-requires
jobs_of-jobs-requires c =
    let f = c.args.farm.now in
    let within : farm_within (meant f) ≡ true = sym (c.within.ensures f.cells.nodes f.cells.shares) ∙ c.if-not-within.false in
    let few = (farm_within_lem (meant f) within).waiting in
    omega (arith, few, length-take-le f.figures.waiting f.figures.jobs (omega (arith, few)))

pub waiting_pass-requires : goal.waiting_pass-requires
waiting_pass-requires c =
    let f = c.args.farm.now in
    let within : farm_within (meant f) ≡ true = sym (c.within.ensures f.cells.nodes f.cells.shares) ∙ c.if-not-within.false in
    let w = farm_within_lem (meant f) within in
    let few = w.waiting in
    (rw c.walk_terms.ensures (usable (meant f) w), omega (arith, few, length-take-le f.figures.waiting c.jobs_of-jobs.result (omega (arith, few, c.jobs_of-jobs.ensures.0))))

pub returns : goal.returns
returns c =
    let f = c.args.farm.now in
    let within : farm_within (meant f) ≡ true = sym (c.within.ensures f.cells.nodes f.cells.shares) ∙ c.if-not-within.false in
    let few = (farm_within_lem (meant f) within).waiting in
    let all : f.figures.waiting ≤ length f.figures.jobs = omega (arith, few) in
    c.waiting_pass.ensures
    ∙ rw (c.walk_terms.ensures, c.free_times.ensures) (ap (waiting_pass (bounds_of (meant f)) (free_times_of (meant f))) (waiting_front f.figures f.cells.nodes f.cells.shares c.jobs_of-jobs.result all c.jobs_of-jobs.ensures.1))
    ∙ sym (passes_rest (meant f) within)
