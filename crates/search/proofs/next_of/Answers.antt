use Rattle.std.proofs.Common.{arith, ◌≡◌, ◌<◌, drop, take, length, ◌∙◌, ap, refl, drop-drop}
use Rattle.search.specs.Model.{either}
use Rattle.search.specs.Words.{bytes_of}
use Rattle.search.specs.Laws.{next_past}
use Rattle.search.specs.Steps.{rest_is, word_found, word_passed}
use Rattle.search.proofs.next_of.Goals as goal

pub returns-in_default : goal.returns-in_default
returns-in_default c =
    let a = c.args in
    let l : length a.text.now < a.from = grind arith in
    omega (arith, next_past (either a.a a.b) a.text.now a.from (omega arith))

pub loop-bytes-init : goal.loop-bytes-init
loop-bytes-init c =
    let a = c.args in
    let h = c.in-Some.ensures.lookup.0 in
    record { left = h.2 ∙ rest_is a.text.now a.from; size = omega (arith, h.3); same = refl }

pub returns-then-t-ne0 : goal.returns-then-t-ne0
returns-then-t-ne0 c =
    let a = c.args in
    let l = c.loop-bytes in
    let m = c.marks-t in
    let w = c.eight in
    let h = c.in-Some-split_first_chunk.ensures.cases in
    let e : bytes_of 8 w.result ≡ take 8 (drop l.i a.text.now) = w.ensures ∙ h.0 ∙ ap (take 8) l.invariant.left in
    let p = word_found (either a.a a.b) a.text.now l.i w.result m.result e m.ensures c.if-t-ne0.true in
    omega (arith, p, c.mark_place.ensures, l.invariant.same)

pub loop-bytes-preserved : goal.loop-bytes-preserved
loop-bytes-preserved c =
    let a = c.args in
    let l = c.loop-bytes in
    let m = c.marks-t in
    let w = c.eight in
    let h = c.in-Some-split_first_chunk.ensures.cases in
    let e : bytes_of 8 w.result ≡ take 8 (drop l.i a.text.now) = w.ensures ∙ h.0 ∙ ap (take 8) l.invariant.left in
    let p = word_passed (either a.a a.b) a.text.now l.i w.result m.result e m.ensures c.if-t-ne0.false in
    record {
      left = h.1 ∙ ap (drop 8) l.invariant.left ∙ drop-drop 8 l.i a.text.now;
      size = omega (arith, h.2, l.invariant.size);
      same = l.invariant.same ∙ omega (arith, p);
    }
