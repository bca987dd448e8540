use lib.ListN.{length-set}
use Rattle.std.proofs.Common.{inl, inr, ⊎_elim}
use Rattle.soundness.specs.Steps.{fitting_sends, fitting_more, fitting_link, fitting_node, fitting_all}
use Rattle.soundness.proofs.job_fits.Goals.{then-chunk-now-via-then-chunk-now, then-chunk-now-via-else-chunk-now+then-booking-now}
use Rattle.soundness.proofs.job_fits.Goals as goal

pub chunk_on-chunk-requires : goal.chunk_on-chunk-requires
chunk_on-chunk-requires c =
    rw c.chunk_terms-terms.ensures (c.requires.costs, c.requires.compute, fitting_sends _ _ _ _ _ _ _ _ c.loop-node.invariant.1)

pub returns-then-chunk-now : goal.returns-then-chunk-now
returns-then-chunk-now c =
    let u = c.loop-node.invariant.1 in
    let x = c.chunk_on-chunk in
    let e = c.in-Some.ensures.steps in
    elim c.then-chunk-now.branch [
      | then-chunk-now-via-then-chunk-now p ↦ fitting_link _ _ _ _ _ _ _ _ u x.result _ _ _ _ x.ensures e _ c.from-place.ensures p.if-chunk-now.true
      | then-chunk-now-via-else-chunk-now+then-booking-now p ↦ fitting_node _ _ _ _ _ _ _ _ u x.result _ _ _ _ x.ensures e _ c.from-place.ensures p.if-booking-now.true
    ]

pub loop-node-preserved : goal.loop-node-preserved
loop-node-preserved c =
    let l = c.loop-node in
    let x = c.chunk_on-chunk in
    (simp length-set l.invariant.0, fitting_more _ _ _ _ _ _ _ _ l.invariant.1 x.result _ _ _ _ x.ensures c.in-Some.ensures.steps _ c.from-place.ensures c.if-chunk-now.false c.if-booking-now.false)

pub returns : goal.returns
returns c = fitting_all _ _ _ _ _ _ _ _ c.loop-node.invariant.1 (⊎_elim (λ x. inl x.1.0) (λ x. inr x.1.0) c.in-None.ensures.steps)
