use Rattle.std.proofs.Common.{rules, ◌≡◌, ◌-◌, ◌∙◌, sym, arith, ap, inl, inr, ⊎_elim}
use Rattle.walk.specs.Model.{chunks_from}
use Rattle.walk.specs.View.{row_lines}
use Rattle.walk.specs.Chunks.{latest_after, chunks_done}
use Rattle.timetable.specs.Model.{raised}
use Rattle.timetable.specs.HeldSteps.{raising_next}
use Rattle.timetable.proofs.begin.raise.Goals as goal

-- The check finds this alone; where it stands here, other costs in the terms fail at it first.
pub loop-node-init : goal.loop-node-init
loop-node-init c =
    let a = c.args in
    let row = c.row.ensures in
    let own : c.into_iter-node-iterator.result.a.rest.now ≡ c.row.result.0.now = search rules in
    let parts : c.into_iter-node-iterator.result.b.rest.now ≡ c.row.result.1.now = search rules in
    let lines = row_lines a.costs c.chunk_terms-terms.result a.job a.place a.cells.now.nodes a.cells.now.shares _ _ c.chunk_terms-terms.ensures row.0 row.1 row.2 row.3 in
    rw (own, parts) (record { same = ap (raised a.held.now) lines; ends = rw lines at c.requires.1.sends.ends; most = omega (arith, row.1, c.requires.1.sends.few) })

pub chunk_on-chunk-requires : goal.chunk_on-chunk-requires
chunk_on-chunk-requires c =
    let s = c.requires.1.sends in
    let l = c.loop-node in
    rw c.chunk_terms-terms.ensures (s.costs, s.compute, omega (arith, l.invariant.ends, latest_after l.last (chunks_from c.chunk_terms-terms.result l.last l.node-iterator.a.rest.now l.node-iterator.b.rest.now)))

pub overflow_add-held : goal.overflow_add-held
overflow_add-held c =
    let l = c.loop-node in
    let w = c.chunk_terms-terms in
    let x = c.chunk_on-chunk in
    let next = raising_next w.result (c.args.job.show - 1) (rw w.ensures) c.args.held.now _ l.held l.last x.result _ _ _ _ _ _ x.ensures c.in-Some.ensures.steps l.invariant in
    omega (arith, c.saturating_sub.ensures, next.0, next.1, l.invariant.most, c.requires.1.room)

pub loop-node-preserved : goal.loop-node-preserved
loop-node-preserved c =
    let l = c.loop-node in
    let w = c.chunk_terms-terms in
    let x = c.chunk_on-chunk in
    let next = raising_next w.result (c.args.job.show - 1) (rw w.ensures) c.args.held.now _ l.held l.last x.result _ _ _ _ _ _ x.ensures c.in-Some.ensures.steps l.invariant in
    rw c.saturating_sub.ensures next.2

pub returns : goal.returns
unfolding raised
returns c =
    let l = c.loop-node in
    let none = chunks_done c.chunk_terms-terms.result l.last _ _ (⊎_elim (λ x. inl x.1.0) (λ x. inr x.1.0) c.in-None.ensures.steps) in
    sym (l.invariant.same ∙ ap (raised l.held) none)
