-- `reading::digits` meets its contract. The loop's invariant: what is left of the digits, behind those read, decides;
-- so many digits stay below that power of 10.
use Rattle.std.proofs.Common.{◌≡◌, ◌^◌, ◌<◌, drop}
use Rattle.reading.specs.Steps.{number_in, number_from}
use Rattle.reading.proofs.digits.Given as goal

abbrev pub invariant-loop-b : goal.invariant-loop-b
invariant-loop-b l = record {
  below : l.value < 10 ^ l.b-index;
  same : number_from l.value (drop l.b-index l.field) ≡ number_in l.field;
}
