-- `soundness::jobs_fit` meets its contract. The loop's invariant: the jobs that are left, behind the free times so far, decide.
use mathlib.Core.Path.{◌≡◌}
use lib.ListN.{drop}
use Rattle.walk.specs.Model.{spans_of_all, in_order, fit_all}
use Rattle.soundness.proofs.jobs_fit.Given as goal

abbrev pub invariant-loop-key : goal.invariant-loop-key
invariant-loop-key l =
    fit_all l.initial.left (spans_of_all l.costs (in_order l.jobs l.keys)) ≡ fit_all l.left (spans_of_all l.costs (in_order l.jobs (drop l.key-index l.keys)))
