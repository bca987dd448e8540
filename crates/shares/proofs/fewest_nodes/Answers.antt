use Rattle.std.proofs.Common.{sym, ◌∙◌, arith}
use Rattle.shares.specs.Model.{next_of}
use Rattle.shares.specs.Answers.{fewest_found, fewest_never}
use Rattle.shares.proofs.fewest_nodes.Goals as goal

pub returns-then-rest-next : goal.returns-then-rest-next
unfolding next_of
returns-then-rest-next c =
    let a = c.args in
    let l = c.loop-count in
    sym (fewest_found a.costs a.nodes a.size a.window l.count l.rest (sym c.answerable.ensures ∙ c.if-not-answerable.false) c.loop-count-test.true l.invariant.0 l.invariant.1 (grind arith))

pub returns : goal.returns
returns c =
    let a = c.args in
    sym (fewest_never a.costs a.nodes a.size a.window c.loop-count.rest (sym c.answerable.ensures ∙ c.if-not-answerable.false) c.loop-count.invariant.0 (grind arith))
