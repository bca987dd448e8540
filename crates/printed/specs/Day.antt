-- A whole day: feeding it, in one block or in many, and ending it prints the answers of its lines one after the other.
use Rattle.std.specs.Prelude.{◌≡◌, refl, List, [], ◌∷◌, ◌++◌, Bool, true, false, cond, ℕ, leb, eqb, length}
use Rattle.std.proofs.Common.{ap, sym, ◌∙◌, append-nil, append_assoc, arith, leb-true, leb-false}
use Rattle.planner.specs.Model.{Farm}
use Rattle.planner.specs.Calls.{unopened}
use Rattle.text.specs.Model.{newline}
use Rattle.reading.specs.Model.{on_first}
use Rattle.lines.specs.Model.{line_asks, Answered, answered_text, answered_as, answered, Pending, part, kept, ended, Fed, behind, feed, at_end, longest}
use Rattle.lines.specs.Feeding.{feed_append, kept_all}
use Rattle.lines.specs.PendingLine.{kept_fits, kept_over}
use Rattle.printed.specs.Model.{lines_in, answers, day_text}

-- ---- Bytes in front of the first line

unfoldable prefixed : List ℕ → List (List ℕ) → List (List ℕ)
prefixed [] ls = ls
prefixed (b ∷ q) ls = on_first b (prefixed q ls)

prefixed_cons : (q l : List ℕ) (ls : List (List ℕ)) → prefixed q (l ∷ ls) ≡ (q ++ l) ∷ ls
unfolding prefixed
prefixed_cons [] l ls = refl
prefixed_cons (b ∷ q) l ls = ap (on_first b) (prefixed_cons q l ls)

prefixed_nil : (b : ℕ) (q : List ℕ) → prefixed (b ∷ q) [] ≡ (b ∷ q) ∷ []
unfolding prefixed
prefixed_nil b [] = refl
prefixed_nil b (c ∷ q) = ap (on_first b) (prefixed_nil c q)

prefixed_on : (q : List ℕ) (b : ℕ) (ls : List (List ℕ)) → prefixed q (on_first b ls) ≡ prefixed (q ++ b ∷ []) ls
unfolding prefixed
prefixed_on [] b ls = refl
prefixed_on (c ∷ q) b ls = ap (on_first c) (prefixed_on q b ls)

-- ---- A line kept byte by byte

kept_snoc : (p : Pending) (q : List ℕ) (b : ℕ) → kept (kept_all p q) b ≡ kept_all p (q ++ b ∷ [])
unfolding kept_all
kept_snoc p [] b = refl
kept_snoc p (c ∷ q) b = kept_snoc (kept p c) q b

-- What is kept of a line is answered as the line is.
pub ended_kept : (f : Farm) (q : List ℕ) → ended f (kept_all (part []) q) ≡ answered f q
unfolding answered line_asks answered_as
ended_kept f q = go (leb (length q) longest) refl
  where
    go : (t : Bool) → leb (length q) longest ≡ t → ended f (kept_all (part []) q) ≡ answered f q
    go true e = ap (ended f) (kept_fits [] q (omega (arith, leb-true (length q) longest e)))
    go false e = ap (ended f) (kept_over [] q (omega arith) (omega (arith, leb-false (length q) longest e))) ∙ rw e

at_end_kept : (f : Farm) (q : List ℕ) → at_end f (kept_all (part []) q) ≡ answers f (prefixed q [])
unfolding answers answered line_asks answered_as prefixed kept_all
at_end_kept f [] = refl
at_end_kept f (b ∷ q) =
    go (leb (length (b ∷ q)) longest) refl ∙ sym (append-nil (answered_text (answered f (b ∷ q)))) ∙ ap (answers f) (sym (prefixed_nil b q))
  where
    go : (t : Bool) → leb (length (b ∷ q)) longest ≡ t
        → at_end f (kept_all (part []) (b ∷ q)) ≡ answered_text (answered f (b ∷ q))
    go true e = ap (at_end f) (kept_fits [] (b ∷ q) (omega (arith, leb-true (length (b ∷ q)) longest e)))
    go false e = ap (at_end f) (kept_over [] (b ∷ q) (omega arith) (omega (arith, leb-false (length (b ∷ q)) longest e))) ∙ rw e

-- ---- The day

-- what is printed once the input has ended
abbrev pub whole : Fed → List ℕ
whole x = x.text ++ at_end x.farm x.pending

day_ends : (f : Farm) (q bs : List ℕ) (p : Pending) → ended f p ≡ answered f q → ((g : Farm) → whole (feed g (part []) bs) ≡ answers g (lines_in bs))
    → whole (behind (answered_text (ended f p)) (feed (ended f p).farm (part []) bs))
    ≡ answers f (prefixed q ([] ∷ lines_in bs))
unfolding answers
day_ends f q bs p e h =
    append_assoc (answered_text (ended f p)) (feed (ended f p).farm (part []) bs).text _
    ∙ ap (λ (l : List ℕ). answered_text (ended f p) ++ l) (h (ended f p).farm)
    ∙ ap (λ (x : Answered). answered_text x ++ answers x.farm (lines_in bs)) e
    ∙ ap (answers f) (sym (prefixed_cons q [] (lines_in bs) ∙ ap (λ (l : List ℕ). l ∷ lines_in bs) (append-nil q)))

day_from : (f : Farm) (q bs : List ℕ) → whole (feed f (kept_all (part []) q) bs) ≡ answers f (prefixed q (lines_in bs))
unfolding feed lines_in kept_all prefixed
day_from f q [] = at_end_kept f q
day_from f q (b ∷ bs) = go (eqb b newline) (λ (g : Farm). day_from g [] bs) (day_from f (q ++ b ∷ []) bs)
  where
    go : (t : Bool) → ((g : Farm) → whole (feed g (part []) bs) ≡ answers g (lines_in bs))
        → whole (feed f (kept_all (part []) (q ++ b ∷ [])) bs) ≡ answers f (prefixed (q ++ b ∷ []) (lines_in bs))
        → whole (cond t (behind (answered_text (ended f (kept_all (part []) q))) (feed (ended f (kept_all (part []) q)).farm (part []) bs)) (feed f (kept (kept_all (part []) q) b) bs))
        ≡ answers f (prefixed q (cond t ([] ∷ lines_in bs) (on_first b (lines_in bs))))
    go true h k = day_ends f q bs (kept_all (part []) q) (ended_kept f q) h
    go false h k = ap (λ (p : Pending). whole (feed f p bs)) (kept_snoc (part []) q b) ∙ k ∙ ap (answers f) (sym (prefixed_on q b (lines_in bs)))

-- Feeding a whole input from an unopened farm and ending it prints the answers of its lines.
pub day_text_lem : (bs : List ℕ) → whole (feed unopened (part []) bs) ≡ day_text bs
unfolding kept_all prefixed
day_text_lem bs = day_from unopened [] bs

-- ---- In blocks

-- the bytes of all blocks
unfoldable pub all_bytes : List (List ℕ) → List ℕ
all_bytes [] = []
all_bytes (b ∷ bs) = b ++ all_bytes bs

-- one block after the other
unfoldable pub feed_all : Farm → Pending → List (List ℕ) → Fed
feed_all f p [] = record { farm = f; pending = p; text = [] }
feed_all f p (b ∷ bs) = behind (feed f p b).text (feed_all (feed f p b).farm (feed f p b).pending bs)

-- Where the blocks end does not matter.
pub feed_all_lem : (f : Farm) (p : Pending) (bs : List (List ℕ)) → feed_all f p bs ≡ feed f p (all_bytes bs)
unfolding feed_all all_bytes feed
feed_all_lem f p [] = refl
feed_all_lem f p (b ∷ bs) =
    ap (behind (feed f p b).text) (feed_all_lem (feed f p b).farm (feed f p b).pending bs) ∙ sym (feed_append f p b (all_bytes bs))

-- Fed in any blocks and ended, a day prints the answers of its lines.
pub blocks_text : (bs : List (List ℕ)) → whole (feed_all unopened (part []) bs) ≡ day_text (all_bytes bs)
blocks_text bs = ap whole (feed_all_lem unopened (part []) bs) ∙ day_text_lem (all_bytes bs)
