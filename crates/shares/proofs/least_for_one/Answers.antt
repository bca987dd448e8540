-- `shares::least_for_one` meets its contract. What the first share of the window holds takes both setups and its units, so no sum wraps.
use Rattle.std.proofs.Common.{◌≤◌, sym, arith}
use Rattle.shares.specs.Model.{first}
use Rattle.shares.specs.Least.{earliest_is, one_within, one_least}
use Rattle.shares.proofs.least_for_one.Goals as goal

pub overflow_add-result : goal.overflow_add-result
overflow_add-result c =
    let a = c.args in
    omega (arith, one_within a.costs c.requires.0 a.size a.window c.requires.1 (omega arith))

pub overflow_add-result-2 : goal.overflow_add-result-2
overflow_add-result-2 c =
    let a = c.args in
    omega (arith, one_within a.costs c.requires.0 a.size a.window c.requires.1 (omega arith))

pub returns : goal.returns
returns c =
    let a = c.args in
    let sends : 1 ≤ a.costs.send = c.requires.0 in
    let some : 1 ≤ a.size = c.requires.1 in
    let fits : a.size ≤ first a.costs a.window = omega arith in
    sym (earliest_is a.costs sends 1 a.size a.window _ (one_least a.costs sends a.size some) (one_within a.costs sends a.size a.window some fits).0)
