-- `queue::jobs_of` meets its contract.
use mathlib.Core.Path.{◌≡◌}
use lib.ListN.{length, take}
use Rattle.walk.specs.View.{jobs_of}
use Rattle.queue.proofs.jobs_of.Given as goal

abbrev pub invariant-loop-i : goal.invariant-loop-i
invariant-loop-i l = (length l.out ≡ 128) × (take l.i l.out ≡ take l.i (jobs_of l.cells.nodes l.cells.shares l.jobs))
