use Rattle.std.proofs.Common.{◌≡◌, ◌+◌, length, arith, ap, inl, ⊎_elim}
use Rattle.walk.specs.Model.{chunks_from}
use Rattle.walk.specs.Chunks.{latest_after, finish_next, chunks_done}
use Rattle.timetable.specs.LinesSteps.{line_next, line_done}
use Rattle.timetable.proofs.lines.write_job.Goals as goal

pub chunk_on-line-requires : goal.chunk_on-line-requires
chunk_on-line-requires g c =
    let l = c.loop-i in
    let left = chunks_from c.args.terms l.last l.i-iterator.iter.a.rest.now l.i-iterator.iter.b.rest.now in
    (c.requires.0, c.requires.1, omega (arith, l.invariant.1, latest_after l.last left))

pub loop-i-preserved : goal.loop-i-preserved
loop-i-preserved g c =
    let a = c.args in
    let l = c.loop-i in
    let x = c.chunk_on-line in
    let s = c.in-Some.ensures.steps in
    let late = finish_next a.terms l.last x.result _ _ _ _ _ _ x.ensures s.0 in
    let one = ap length s.0.0 in
    let two = ap length s.0.1 in
    rw (c.written.ensures, s.1, s.2) (
      line_next g.L.Line.written _ l.out a.at l.i-iterator.count (a.at + length a.nodes.now) a.terms l.last x.result _ _ _ _ _ _ x.ensures s.0 (omega (arith, one, l.invariant.2)) (omega (arith, c.requires.3, l.auto.out)) l.invariant.0,
      omega (arith, late, l.invariant.1),
      omega (arith, one, l.invariant.2),
      omega (arith, one, two, l.invariant.3),
    )

pub returns : goal.returns
returns g c =
    let a = c.args in
    let l = c.loop-i in
    let ks = l.i-iterator.iter.a.rest.now in
    let xs = l.i-iterator.iter.b.rest.now in
    let end = a.at + length a.nodes.now in
    let past : length ks ≡ 0 = ⊎_elim (λ x. x.1.0) (λ x. omega (arith, x.1.0, l.invariant.3)) c.in-None.ensures.steps.0 in
    let none = chunks_done a.terms l.last ks xs (inl past) in
    let full : a.at + l.i-iterator.count ≡ end = omega (arith, past, l.invariant.2) in
    line_done g.L.Line.written _ l.out (a.at + l.i-iterator.count) end _ none full l.invariant.0
