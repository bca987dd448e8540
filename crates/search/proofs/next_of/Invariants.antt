-- `search::next_of` meets its contract. The loop's invariant: what is left is the text from i on, and what is wanted
-- stands next where it stands next from i on.
use Rattle.std.proofs.Common.{◌≡◌, ◌+◌, length, drop}
use Rattle.search.specs.Model.{either, next_place}
use Rattle.search.proofs.next_of.Given as goal

abbrev pub invariant-loop-bytes : goal.invariant-loop-bytes
invariant-loop-bytes l = record {
  left : l.rest ≡ drop l.i l.text;
  size : l.i + length l.rest ≡ length l.text;
  same : next_place (either l.a l.b) l.text l.from ≡ next_place (either l.a l.b) l.text l.i;
}

abbrev pub decreases-loop-bytes : goal.decreases-loop-bytes
decreases-loop-bytes l = length l.rest
