use mathlib.Core.Path.{sym, ap, ◌∙◌}
use native.Mathlib.Omega.{arith}
use lib.ListN.{length}
use borrow.Author.Tests.{eq-eqb, ne_eqb}
use Rattle.std.proofs.Common.{inl, inr, ⊎_elim, rules}
use Rattle.walk.specs.Chunks.{finish_next}
use Rattle.soundness.specs.Steps.{kept_start, kept_more, kept_small, kept_late, kept_none, sent_units}
use Rattle.soundness.proofs.shares_kept.Goals as goal

pub loop-node-init : goal.loop-node-init
loop-node-init c =
    let a = c.args in
    let w = c.chunk_terms-terms in
    let start = kept_start a.costs a.job.now w.result w.ensures in
    search rules

pub returns-then-units-lt1 : goal.returns-then-units-lt1
returns-then-units-lt1 c =
    sym (c.loop-node.invariant.3 ∙ kept_small _ _ _ _ _ _ _ _ _ c.in-Some.ensures.steps.1 c.if-units-lt1.true)

pub chunk_on-chunk-requires : goal.chunk_on-chunk-requires
chunk_on-chunk-requires c =
    rw c.chunk_terms-terms.ensures (c.requires.costs, c.requires.compute, c.loop-node.invariant.2)

pub returns-then-job-chunk : goal.returns-then-job-chunk
returns-then-job-chunk c =
    sym (c.loop-node.invariant.3 ∙ kept_late _ _ _ _ _ c.chunk_on-chunk.result _ _ _ _ _ _ c.chunk_on-chunk.ensures c.in-Some.ensures.steps c.if-job-chunk.true)

pub loop-node-preserved : goal.loop-node-preserved
loop-node-preserved c =
    let l = c.loop-node in
    let w = c.chunk_terms-terms in
    let e = c.in-Some.ensures.steps in
    let u = c.from-total in
    let x = c.chunk_on-chunk in (
      omega (arith, l.invariant.0, ap length e.0, ap length e.1),
      omega (arith, l.invariant.1, u.ensures, sent_units w.result _ _ _ x.result x.ensures (rw w.ensures c.requires.costs.send.0)),
      omega (arith, (finish_next w.result _ x.result _ _ _ _ _ _ x.ensures e).1, c.if-job-chunk.false, c.requires.deadline),
      l.invariant.3 ∙ kept_more w.result _ _ _ _ x.result _ _ _ _ _ _ x.ensures e u.result u.ensures c.if-units-lt1.false c.if-job-chunk.false,
    )

pub returns-then-total-from : goal.returns-then-total-from
returns-then-total-from c =
    let l = c.loop-node in
    let none = kept_none _ _ _ _ _ _ _ l.invariant.0 (⊎_elim (λ x. inl x.1.0) (λ x. inr x.1.0) c.in-None.ensures.steps) in
    sym (l.invariant.3 ∙ none ∙ rw (eq-eqb l.total c.args.job.now.size (c.if-total-from.true ∙ c.from.ensures)))

pub returns-else-total-from : goal.returns-else-total-from
returns-else-total-from c =
    let l = c.loop-node in
    let none = kept_none _ _ _ _ _ _ _ l.invariant.0 (⊎_elim (λ x. inl x.1.0) (λ x. inr x.1.0) c.in-None.ensures.steps) in
    sym (l.invariant.3 ∙ none ∙ rw (c.from.ensures, ne_eqb l.total c.args.job.now.size (λ q. c.if-total-from.false (q ∙ sym c.from.ensures))))
