use Rattle.std.proofs.Common.{◌≡◌, ◌-◌, ◌≤◌, sym, ap, ◌∙◌, arith, length-set}
use Rattle.shares.specs.declared.Share.{Share}
use Rattle.shares.specs.Model.{first, next_of, stored}
use Rattle.shares.specs.Answers.{answered_is, shares_refused, stored_more, greedy_stops, greedy_more, greedy_whole, greedy_no_node}
use Rattle.shares.proofs.greedy_shares.Goals as goal

pub returns-then-not-answerable : goal.returns-then-not-answerable
unfolding stored
returns-then-not-answerable c =
    let a = c.args in
    sym (shares_refused a.costs a.nodes a.window (sym c.answerable.ensures ∙ c.if-not-answerable.true))

pub returns-then-share-eq0 : goal.returns-then-share-eq0
unfolding next_of
returns-then-share-eq0 c =
    let a = c.args in
    let l = c.loop-count in
    let answered = sym c.answerable.ensures ∙ c.if-not-answerable.false in
    let few : a.nodes ≤ 64 = (answered_is a.costs a.nodes answered).1 in
    let units : c.next_share-share.result.units ≡ first a.costs l.left = ap (λ (x : Share). x.units) c.next_share-share.ensures in
    sym (greedy_whole a.costs a.nodes a.window l.count (a.nodes - l.count) l.left l.units answered l.invariant.0 (omega arith) l.invariant.2 l.invariant.1
    (greedy_stops a.costs (a.nodes - l.count) l.left (sym units ∙ c.if-share-eq0.true)))

pub loop-count-preserved : goal.loop-count-preserved
unfolding next_of
loop-count-preserved c =
    let a = c.args in
    let l = c.loop-count in
    let few : a.nodes ≤ 64 = (answered_is a.costs a.nodes (sym c.answerable.ensures ∙ c.if-not-answerable.false)).1 in
    let next = c.next_share-share in (
      simp length-set l.invariant.0,
      rw next.ensures (greedy_more a.costs a.nodes a.window l.count l.left l.units (omega arith) (omega (arith, l.invariant.0)) (omega (arith, ap (λ (x : Share). x.units) next.ensures)) l.invariant.1),
      stored_more l.units l.count next.result.units l.invariant.0 (omega arith) l.invariant.2,
    )

pub returns : goal.returns
returns c =
    let a = c.args in
    let l = c.loop-count in
    let answered = sym c.answerable.ensures ∙ c.if-not-answerable.false in
    let few : a.nodes ≤ 64 = (answered_is a.costs a.nodes answered).1 in
    let end : l.count ≡ a.nodes = omega arith in
    let i = rw end at l.invariant in
    sym (greedy_whole a.costs a.nodes a.window a.nodes (a.nodes - a.nodes) l.left l.units answered i.0 few i.2 i.1
    (greedy_no_node a.costs (a.nodes - a.nodes) l.left (omega arith)))
