-- `shares::Search::least_window` meets its contract. The loop's invariant: `turn` counts below 4, the least window is not above
-- `high`, and every window below `low` is too short. The measure is what lies between them.
use Rattle.std.proofs.Common.{◌≡◌, ℕ, ◌-◌, ◌<◌, ◌≤◌}
use Rattle.shares.specs.Model.{capacity, earliest}
use Rattle.shares.proofs.Search.least_window.Given as goal

abbrev pub invariant-loop-low : goal.invariant-loop-low
invariant-loop-low l =
    (l.turn < 4) × (l.low ≤ l.high) × (l.high ≤ l.window) × (earliest l.self.costs l.self.nodes l.size l.high ≡ earliest l.self.costs l.self.nodes l.size l.window) × ((v : ℕ) → v < l.low → capacity l.self.costs l.self.nodes v < l.size)

abbrev pub decreases-loop-low : goal.decreases-loop-low
decreases-loop-low l = l.high - l.low
