-- The shares found so far and what they leave, node by node: each case is a lemma of specs/Slack.antt.
use Rattle.std.proofs.Common.{arith}
use Rattle.shares.specs.Slack.{costs_of, found_no_node, found_none, found_next}
use Rattle.shares.proofs.+capacity.Goals as goal

pub returns-then-nodes-eq0 : goal.returns-then-nodes-eq0
returns-then-nodes-eq0 t c =
    let a = c.args in
    found_no_node (costs_of a.send a.compute a.link a.node) c.requires.0 a.nodes a.window a.spare.now a.gap.now c.if-nodes-eq0.true

pub returns-then-room-each : goal.returns-then-room-each
returns-then-room-each t c =
    let a = c.args in
    found_none (costs_of a.send a.compute a.link a.node) c.requires.0 a.nodes a.window a.spare.now a.gap.now
    c.saturating_sub.result c.saturating_sub-room.result c.min.result (omega arith) c.saturating_sub.ensures c.saturating_sub-room.ensures
    c.if-room-each.true (omega (arith, c.min.ensures))

pub returns : goal.returns
returns t c =
    let a = c.args in
    found_next (costs_of a.send a.compute a.link a.node) c.requires.0 a.nodes a.window a.spare.now a.gap.now
    c.saturating_sub.result c.saturating_sub-room.result c.saturating_sub-left.result c.min-2.result c.min-3.result
    c.capacity.result c.capacity.new.spare c.capacity.new.gap
    (omega arith) c.saturating_sub.ensures c.saturating_sub-room.ensures (omega arith) c.saturating_sub-left.ensures
    (omega (arith, c.min-2.ensures)) (omega (arith, c.min-3.ensures)) c.capacity.ensures
