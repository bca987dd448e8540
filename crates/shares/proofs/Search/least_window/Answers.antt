use Rattle.std.proofs.Common.{◌+◌, ◌-◌, ◌≤◌, sym, arith}
use Rattle.shares.specs.Least.{earliest_is}
use Rattle.shares.specs.Slack.{settled_found}
use Rattle.shares.proofs.Search.least_window.Goals as goal

pub overflow_sub-result : goal.overflow_sub-result
overflow_sub-result c =
    let a = c.args in
    let sends : 1 ≤ a.self.costs.send = a.self.sends in
    let middle = c.next_window-middle.result in
    let r = c.try_window-next.result in
    omega (
      arith,
      (settled_found a.self.costs sends a.self.nodes a.size middle 18446744073709551615 (a.self.costs.send + a.self.costs.compute) r.units r.spare r.gap
          c.settles.result c.requires (omega arith) c.try_window-next.ensures c.settles.ensures c.if-settles.true).0,
    )

pub returns-then-settles : goal.returns-then-settles
returns-then-settles c =
    let a = c.args in
    let sends : 1 ≤ a.self.costs.send = a.self.sends in
    let middle = c.next_window-middle.result in
    let r = c.try_window-next.result in
    let least = settled_found a.self.costs sends a.self.nodes a.size middle 18446744073709551615 (a.self.costs.send + a.self.costs.compute) r.units r.spare r.gap
    c.settles.result c.requires (omega arith) c.try_window-next.ensures c.settles.ensures c.if-settles.true in
    sym (earliest_is a.self.costs sends a.self.nodes a.size a.window (middle - r.spare) least.1 (omega arith))
