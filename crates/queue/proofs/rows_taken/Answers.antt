use Prim.Native.Nat.{◌≤◌}
use native.Mathlib.Omega.{arith}
use Rattle.std.proofs.lemmas.Grind.{common_steps}
use Rattle.lists.specs.Laws.{all_nth}
use Rattle.lists.specs.Rows.{alike_next}
use Rattle.walk.specs.View.{no_entry, Short, use_of}
use Rattle.queue.proofs.rows_taken.Goals as goal

pub loop-i-preserved : goal.loop-i-preserved
loop-i-preserved c =
    let jobs = c.args.jobs.now in
    let l = c.loop-i in
    let few : use_of jobs l.i ≤ 64 = all_nth no_entry Short jobs l.i c.requires.1 c.loop-i-test.true in (
      alike_next 64 (use_of jobs) l.i c.args.cells.now.nodes c.args.other.now.nodes l.cells.nodes _ (omega (arith, l.invariant.0.size)) (omega arith) few l.invariant.0 (grind (arith, common_steps)),
      alike_next 64 (use_of jobs) l.i c.args.cells.now.shares c.args.other.now.shares l.cells.shares _ (omega (arith, l.invariant.1.size)) (omega arith) few l.invariant.1 (grind (arith, common_steps)),
    )
