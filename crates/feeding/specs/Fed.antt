-- What a block leaves of a day: the farm and the pending line are those of feeding all of it, however often its answers
-- were written on the way.
use Rattle.std.specs.Prelude.{◌≡◌, refl, List, [], ℕ, Result, Ok, Err, IsOk, ◌+◌, ◌-◌, ◌≤◌, ◌<◌, length, take, drop}
use Rattle.std.proofs.Common.{ap, ap₂, sym, subst, ◌∙◌, zero-le, arith, take_all}
use Rattle.std.proofs.Math.Nat.{sub-zero}
use Rattle.std.proofs.Math.Decide.{dec_le}
use Rattle.std.proofs.lemmas.Bool.{false≢true}
use Rattle.std.specs.Result.{MatchResult}
use Rattle.planner.specs.Model.{Farm}
use Rattle.feeding.specs.declared.GivenUp.{GivenUp}
use Rattle.protocol.specs.declared.Session.{Session}
use Rattle.protocol.specs.declared.Progress.{Progress}
use Rattle.lines.specs.Model.{Pending, Fed, behind, feed}
use Rattle.lines.specs.Feeding.{feed_append, stretch, stretch_join}
use Rattle.lines.specs.Rows.{pending_of}
use Rattle.lines.specs.AnswerLines.{largest}
use Rattle.protocol.specs.Promises.{day_farm, Took}
use Rattle.protocol.specs.Reachable.{Reachable, feed_reachable}

-- the day t is what feeding these bytes to a farm and a pending line comes to
pub record Leaves (f : Farm) (p : Pending) (bytes : List ℕ) (t : Session) : Type 0 where
  pub farm : day_farm t ≡ (feed f p bytes).farm
  pub pending : pending_of t.rest ≡ (feed f p bytes).pending

-- A farm that was reachable still is.
pub leaves_reachable : (f : Farm) (p : Pending) (bytes : List ℕ) (t : Session) → Leaves f p bytes t → Reachable f → Reachable (day_farm t)
leaves_reachable f p bytes t x r = subst Reachable (sym x.farm) (feed_reachable f p bytes r)

-- the day is that of feeding a block up to a place, so much room being lent for answers: not its start, where an answer
-- has room
pub record FedTo (f : Farm) (p : Pending) (block : List ℕ) (room next : ℕ) (t : Session) : Type 0 where
  pub day : Leaves f p (stretch 0 next block) t
  pub some : largest ≤ room → 0 < next

-- what comes of a block, so much room being lent for answers: where all answers could be written the day is that of
-- feeding it, and otherwise that of feeding it up to the place told: it gives up only behind answers that it handed on
abbrev pub Answers : Farm → Pending → List ℕ → ℕ → Result Unit GivenUp → Session → Type 0
Answers f p block room r t = MatchResult r (λ _. Leaves f p block t) (λ g. FedTo f p block room g.next t)

-- Either way a farm that was reachable still is.
pub answers_reachable : (f : Farm) (p : Pending) (block : List ℕ) (room : ℕ) (r : Result Unit GivenUp) (t : Session) → Answers f p block room r t → Reachable f → Reachable (day_farm t)
answers_reachable f p block room (Ok u) t x h = leaves_reachable f p block t x h
answers_reachable f p block room (Err g) t x h = leaves_reachable f p (stretch 0 g.next block) t x.day h

-- Nothing has been fed yet.
pub fed_start : (s : Session) (block : List ℕ) → Leaves (day_farm s) (pending_of s.rest) (stretch 0 0 block) s
unfolding feed
fed_start s block = record { farm = refl; pending = refl }

-- Some more of the block is fed.
pub fed_more : (f : Farm) (p : Pending) (block : List ℕ) (s : Session) (i : ℕ) (entry exit : List ℕ) (r : Progress) (t : Session) → Leaves f p (stretch 0 i block) s
    → Took (day_farm s) (pending_of s.rest) block i entry exit r t → Leaves f p (stretch 0 r.next block) t
fed_more f p block s i entry exit r t x k =
    let bs = stretch 0 i block in
    let cs = stretch i r.next block in
    let whole : feed f p (stretch 0 r.next block) ≡ behind (feed f p bs).text (feed (day_farm s) (pending_of s.rest) cs) =
    ap (feed f p) (sym (stretch_join 0 i r.next block zero-le k.onward))
    ∙ feed_append f p bs cs
    ∙ ap₂ (λ (g : Farm) (q : Pending). behind (feed f p bs).text (feed g q cs)) (sym x.farm) (sym x.pending) in
    record { farm = k.farm ∙ sym (ap (λ (z : Fed). z.farm) whole); pending = k.pending ∙ sym (ap (λ (z : Fed). z.pending) whole) }

-- Up to its end all of it is fed.
pub fed_all : (f : Farm) (p : Pending) (block : List ℕ) (i : ℕ) (t : Session) → Leaves f p (stretch 0 i block) t → length block ≤ i → Leaves f p block t
fed_all f p block i t x h =
    subst (λ (l : List ℕ). Leaves f p l t) (ap (λ (n : ℕ). take n block) (sub-zero i) ∙ take_all i block h) x

-- A block whose answers could all be written leaves the day of feeding all of it.
pub answers_all : (f : Farm) (p : Pending) (block : List ℕ) (room : ℕ) (r : Result Unit GivenUp) (t : Session) → Answers f p block room r t → IsOk r → Leaves f p block t
answers_all f p block room (Ok u) t x e = x
answers_all f p block room (Err u) t x e = absurd (false≢true e)

-- Where an answer has room, some bytes are taken.
pub took_some : (f : Farm) (p : Pending) (block : List ℕ) (i : ℕ) (entry exit : List ℕ) (r : Progress) (t : Session) → Took f p block i entry exit r t → i < length block → largest ≤ length entry → i < r.next
unfolding feed
took_some f p block i entry exit r t k h room = elim (dec_le r.next i) [ no d ↦ omega arith | yes d ↦ absurd (none d) ]
  where
    none : r.next ≤ i → ⊥
    none d =
        let same : r.next ≡ i = omega (arith, k.onward) in
        let zero-apart : i - i ≡ 0 = omega arith in
        let empty : stretch i r.next block ≡ [] = ap (λ (n : ℕ). stretch i n block) same ∙ ap (λ (n : ℕ). take n (drop i block)) zero-apart in
        let nothing : r.written ≡ 0 = k.wrote.wrote.place ∙ ap (λ (bs : List ℕ). 0 + length (feed f p bs).text) empty in
        omega (arith, k.stops (omega arith), nothing)

-- So it may be given up there.
pub took_given : (f : Farm) (p : Pending) (block : List ℕ) (s : Session) (i : ℕ) (entry exit : List ℕ) (r : Progress) (t : Session) (room : ℕ) → Leaves f p (stretch 0 i block) s
    → Took (day_farm s) (pending_of s.rest) block i entry exit r t → i < length block → room ≡ length entry → FedTo f p block room r.next t
took_given f p block s i entry exit r t room x k h e = record {
  day = fed_more f p block s i entry exit r t x k;
  some = λ g. let on = took_some (day_farm s) (pending_of s.rest) block i entry exit r t k h (omega (arith, e, g)) in omega arith;
}
