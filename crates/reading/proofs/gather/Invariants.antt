-- `reading::gather` meets its contract. The loop's invariant: the fields left, behind the numbers stored, decide. The
-- measure is how much is left.
use Rattle.std.proofs.Common.{◌≡◌, ◌-◌, ◌≤◌, length, drop, replicate}
use Rattle.reading.specs.Steps.{behind, gathered}
use Rattle.reading.proofs.gather.Given as goal

abbrev pub invariant-loop-at : goal.invariant-loop-at
invariant-loop-at l = record {
  counted : l.count ≤ l.at;
  within : l.at ≤ length l.line;
  places : length l.numbers ≡ 39;
  same : gathered l.count l.numbers (behind (drop l.at l.line))
      ≡ gathered 0 (replicate 39 0) (behind (drop l.from l.line));
}

abbrev pub decreases-loop-at : goal.decreases-loop-at
decreases-loop-at l = length l.line - l.at
