-- `calls::account_unchecked` meets its contract: past question 4 the show has its columns.
use native.Mathlib.Omega.{arith}
use Rattle.planner.specs.Model.{meant}
use Rattle.planner.specs.PassesSteps.{passes_within}
use Rattle.planner.proofs.calls.account_unchecked.Goals as goal

pub columns-requires : goal.columns-requires
columns-requires c =
    let a = c.args in
    let shows = (passes_within (meant a.farm.now) c.requires).shows in
    (grind (arith, c.contains.ensures), grind (arith, c.contains.ensures, shows.1))
