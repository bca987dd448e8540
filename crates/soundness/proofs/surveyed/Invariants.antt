-- `soundness::surveyed` meets its contract. The loop's invariant: the jobs that are left decide, and the first i numbers are written.
use mathlib.Core.Path.{◌≡◌}
use lib.ListN.{length, take, drop}
use Rattle.soundness.specs.Model.{jobs_pass, job_numbers}
use Rattle.soundness.proofs.surveyed.Given as goal

abbrev pub invariant-loop-i : goal.invariant-loop-i
invariant-loop-i l =
    (jobs_pass l.bounds l.jobs ≡ jobs_pass l.bounds (drop l.i l.jobs))
    × (length l.numbers ≡ 128)
    × (take l.i l.numbers ≡ job_numbers (take l.i l.jobs))
