-- `queue::rows_taken` meets its contract.
use Rattle.lists.specs.Rows.{Alike}
use Rattle.walk.specs.View.{use_of}
use Rattle.queue.proofs.rows_taken.Given as goal

abbrev pub invariant-loop-i : goal.invariant-loop-i
invariant-loop-i l = Alike 64 (use_of l.jobs) l.i l.initial.cells.nodes l.other.nodes l.cells.nodes × Alike 64 (use_of l.jobs) l.i l.initial.cells.shares l.other.shares l.cells.shares
