use Prim.Native.Nat.{◌≤◌}
use native.Mathlib.Omega.{arith}
use Rattle.std.proofs.Common.{rules}
use Rattle.std.specs.List.{sum_by}
use Rattle.walk.specs.declared.Job.{Job}
use Rattle.timetable.specs.BeginSteps.{chunks_sum, chunks_few}
use Rattle.timetable.proofs.begin.line_count.Goals as goal

pub sum-requires-clause-fits : goal.sum-requires-clause-fits
sum-requires-clause-fits c =
    let most : sum_by (λ (j : Job). j.booking.count) c.args.jobs.now ≤ 8192 = omega (arith, chunks_sum c.args.jobs.now, chunks_few c.args.jobs.now c.requires.1, c.requires.0) in
    search rules

pub returns : goal.returns
returns c =
    let same = chunks_sum c.args.jobs.now in
    let most : sum_by (λ (j : Job). j.booking.count) c.args.jobs.now ≤ 8192 = omega (arith, chunks_few c.args.jobs.now c.requires.1, c.requires.0) in
    search rules
