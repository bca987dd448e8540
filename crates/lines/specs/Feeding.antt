-- Bytes fed to a day: where a block ends does not matter, and the bytes up to a newline are a line.
use Rattle.std.specs.Prelude.{◌≡◌, refl, List, [], ◌∷◌, ◌++◌, Bool, true, false, cond, ℕ, suc, ◌+◌, ◌-◌, ◌≤◌, ◌<◌, eqb, length, take, drop}
use Rattle.std.proofs.Common.{ap, sym, ◌∙◌, append-nil, append_assoc, arith, length-drop, take-add, drop-drop, take_all}
use Rattle.planner.specs.Model.{Farm}
use Rattle.text.specs.Model.{newline}
use Rattle.search.specs.Model.{this, before, next_place}
use Rattle.lines.specs.Model.{answered_text, Pending, part, kept, ended, Fed, behind, feed}

-- ---- Blocks

abbrev fed_with : Farm → Pending → List ℕ → Fed
fed_with f p t = record { farm = f; pending = p; text = t }

behind_behind : (t u : List ℕ) (x : Fed) → behind t (behind u x) ≡ behind (t ++ u) x
behind_behind t u x = ap (fed_with x.farm x.pending) (sym (append_assoc t u x.text))

abbrev onward : List ℕ → Fed → Fed
onward ys x = behind x.text (feed x.farm x.pending ys)

onward_case : (t : Bool) (e ys : List ℕ) (l m x y : Fed) → l ≡ onward ys x → m ≡ onward ys y
    → cond t (behind e l) m ≡ onward ys (cond t (behind e x) y)
onward_case true e ys l m x y h k = ap (behind e) h ∙ behind_behind e x.text (feed x.farm x.pending ys)
onward_case false e ys l m x y h k = k

-- Feeding two blocks one after the other is feeding both at once.
pub feed_append : (f : Farm) (p : Pending) (xs ys : List ℕ)
    → feed f p (xs ++ ys) ≡ behind (feed f p xs).text (feed (feed f p xs).farm (feed f p xs).pending ys)
unfolding feed
feed_append f p [] ys = refl
feed_append f p (b ∷ xs) ys =
    onward_case (eqb b newline) (answered_text (ended f p)) ys _ _ (feed (ended f p).farm (part []) xs) (feed f (kept p b) xs)
    (feed_append (ended f p).farm (part []) xs ys) (feed_append f (kept p b) xs ys)

-- ---- Up to a newline, and what has none

-- several bytes more
unfoldable pub kept_all : Pending → List ℕ → Pending
kept_all p [] = p
kept_all p (b ∷ bs) = kept_all (kept p b) bs

-- bytes without a newline are kept
pub feed_rest : (f : Farm) (p : Pending) (xs : List ℕ) → before (this newline) xs ≡ length xs → feed f p xs ≡ record { farm = f; pending = kept_all p xs; text = [] }
unfolding feed before kept_all
feed_rest f p [] e = refl
feed_rest f p (b ∷ xs) e = go (eqb b newline) e (feed_rest f (kept p b) xs)
  where
    go : (t : Bool) → cond t 0 (suc (before (this newline) xs)) ≡ suc (length xs)
        → (before (this newline) xs ≡ length xs → feed f (kept p b) xs ≡ record { farm = f; pending = kept_all (kept p b) xs; text = [] })
        → cond t (behind (answered_text (ended f p)) (feed (ended f p).farm (part []) xs)) (feed f (kept p b) xs)
        ≡ record { farm = f; pending = kept_all (kept p b) xs; text = [] }
    go true e r = absurd (omega arith)
    go false e r = r (omega arith)

-- a line that has ended
abbrev pub ended_fed : Farm → Pending → Fed
ended_fed f p = record { farm = (ended f p).farm; pending = part []; text = answered_text (ended f p) }

-- bytes up to a newline, and the newline, are a line
pub feed_line : (f : Farm) (p : Pending) (xs : List ℕ) → before (this newline) xs < length xs
    → feed f p (take (suc (before (this newline) xs)) xs) ≡ ended_fed f (kept_all p (take (before (this newline) xs) xs))
unfolding feed before kept_all
feed_line f p [] h = absurd (omega arith)
feed_line f p (b ∷ xs) h = go (eqb b newline) refl h (feed_line f (kept p b) xs)
  where
    go : (t : Bool) → eqb b newline ≡ t → cond t 0 (suc (before (this newline) xs)) < suc (length xs)
        → (before (this newline) xs < length xs → feed f (kept p b) (take (suc (before (this newline) xs)) xs) ≡ ended_fed f (kept_all (kept p b) (take (before (this newline) xs) xs)))
        → feed f p (take (suc (cond t 0 (suc (before (this newline) xs)))) (b ∷ xs)) ≡ ended_fed f (kept_all p (take (cond t 0 (suc (before (this newline) xs))) (b ∷ xs)))
    go true e h r = rw e (ap (fed_with (ended f p).farm (part [])) (append-nil (answered_text (ended f p))))
    go false e h r = rw e (r (omega arith))

-- ---- A stretch of a block

-- the bytes from one place up to another
abbrev pub stretch : ℕ → ℕ → List ℕ → List ℕ
stretch i j l = take (j - i) (drop i l)

pub stretch_join : (i j k : ℕ) (l : List ℕ) → i ≤ j → j ≤ k → stretch i j l ++ stretch j k l ≡ stretch i k l
stretch_join i j k l h g =
    let e : k - i ≡ (j - i) + (k - j) = omega arith in
    let o : i + (j - i) ≡ j = omega arith in
    sym (rw (e, take-add (j - i) (k - j) (drop i l), drop-drop (j - i) i l, o))

module _ (f : Farm) (p : Pending) (block : List ℕ) (from i end : ℕ) (x : Fed) (h : from ≤ i) (e : end ≡ next_place (this newline) block i) (r : feed f p (stretch from i block) ≡ x) where
  -- The bytes up to the next newline, and that newline, end a line.
  pub fed_line : end < length block → feed f p (stretch from (end + 1) block) ≡ behind x.text (ended_fed x.farm (kept_all x.pending (stretch i end block)))
  fed_line k =
      let n = before (this newline) (drop i block) in
      let inside : n < length (drop i block) = omega (arith, length-drop i block) in
      let to : end + 1 - i ≡ suc n = omega arith in
      let at : end - i ≡ n = omega arith in
      ap (feed f p) (sym (stretch_join from i (end + 1) block h (omega arith)))
      ∙ feed_append f p (stretch from i block) (stretch i (end + 1) block)
      ∙ ap (onward (stretch i (end + 1) block)) r
      ∙ ap (behind x.text) (rw (to, at) (feed_line x.farm x.pending (drop i block) inside))

  -- Where no newline is left the bytes are kept.
  pub fed_rest : end ≡ length block → feed f p (stretch from end block) ≡ behind x.text (record { farm = x.farm; pending = kept_all x.pending (stretch i end block); text = [] })
  fed_rest k =
      let n = before (this newline) (drop i block) in
      let all : n ≡ length (drop i block) = omega (arith, length-drop i block) in
      let whole : stretch i end block ≡ drop i block = take_all (end - i) (drop i block) (omega arith) in
      ap (feed f p) (sym (stretch_join from i end block h (omega arith)))
      ∙ feed_append f p (stretch from i block) (stretch i end block)
      ∙ ap (onward (stretch i end block)) r
      ∙ ap (behind x.text) (rw whole (feed_rest x.farm x.pending (drop i block) all))
