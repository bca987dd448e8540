-- `shares::greedy_shares` meets its contract. The loop's invariant: the shares so far, and then the greedy list of the nodes and the
-- window that are left, are the greedy list; behind them the array is 0.
use Rattle.std.proofs.Common.{◌≡◌, ◌-◌, ◌++◌, length, take, drop, replicate}
use Rattle.shares.specs.Model.{greedy}
use Rattle.shares.proofs.greedy_shares.Given as goal

abbrev pub invariant-loop-count : goal.invariant-loop-count
invariant-loop-count l =
    (length l.units ≡ 64) × (greedy l.costs l.nodes l.window ≡ take l.count l.units ++ greedy l.costs (l.nodes - l.count) l.left) × (drop l.count l.units ≡ replicate (64 - l.count) 0)
