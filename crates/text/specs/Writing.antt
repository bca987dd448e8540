-- Text written into memory at a place, and one text behind another.
use Rattle.std.specs.Prelude.{◌≡◌, refl, List, [], ◌∷◌, ◌++◌, ℕ, ◌+◌, ◌≤◌, ◌<◌, length, get_or, take, drop, set}
use Rattle.std.proofs.Common.{sym, ap, ◌∙◌, subst, append_assoc, add-one, arith, length-append, length-take, length-drop, take-append-drop, take_at, drop_at, drop-drop, take-suc}
use Rattle.std.proofs.lemmas.List.{set_split}

-- the text stands from place `at` to place r, and the rest of the memory is as it was at entry
pub record Wrote (text : List ℕ) (at : ℕ) (entry exit : List ℕ) (r : ℕ) : Type 0 where
  pub place : r ≡ at + length text
  pub memory : exit ≡ take at entry ++ (text ++ drop r entry)

-- the same, and r is at most so many bytes on
pub record WroteWithin (most : ℕ) (text : List ℕ) (at : ℕ) (entry exit : List ℕ) (r : ℕ) : Type 0 where
  pub wrote : Wrote text at entry exit r
  pub within : r ≤ at + most

-- Nothing is written.
pub wrote_none : (at : ℕ) (entry : List ℕ) → Wrote [] at entry entry at
wrote_none at e = record { place = omega arith; memory = sym (take-append-drop at e) }

-- What is written of a text is written of an equal one.
pub wrote_same : {t u : List ℕ} {at : ℕ} {e x : List ℕ} {r : ℕ} → t ≡ u → Wrote t at e x r → Wrote u at e x r
wrote_same {at = at} {e = e} {x = x} {r = r} q a = subst (λ (t : List ℕ). Wrote t at e x r) q a

pub within_same : {m : ℕ} {t u : List ℕ} {at : ℕ} {e x : List ℕ} {r : ℕ} → t ≡ u → WroteWithin m t at e x r → WroteWithin m u at e x r
within_same q a = record { wrote = wrote_same q a.wrote; within = a.within }

module _ {t : List ℕ} {at : ℕ} {e x : List ℕ} {r : ℕ} (a : Wrote t at e x r) (h : r ≤ length e) where
  front_length : length (take at e ++ t) ≡ r
  front_length = simp (length-append, length-take) (omega (arith, a.place))

  front : x ≡ (take at e ++ t) ++ drop r e
  front = a.memory ∙ sym (append_assoc (take at e) t (drop r e))

  -- The memory is as long as it was.
  pub wrote_length : length x ≡ length e
  wrote_length = ap length front ∙ omega (arith, length-append (take at e ++ t) (drop r e), front_length, length-drop r e)

  -- A text and then another behind it is both put together.
  pub wrote_join : {u y : List ℕ} {s : ℕ} → Wrote u r x y s → Wrote (t ++ u) at e y s
  wrote_join {u} {y} {s} b =
      let first : take r x ≡ take at e ++ t = ap (take r) front ∙ take_at (take at e ++ t) (drop r e) r front_length in
      let rest : drop r x ≡ drop r e = ap (drop r) front ∙ drop_at (take at e ++ t) (drop r e) r front_length in
      let back : drop s x ≡ drop s e =
      ap (λ (i : ℕ). drop i x) b.place ∙ sym (drop-drop (length u) r x) ∙ ap (drop (length u)) rest ∙ drop-drop (length u) r e ∙ ap (λ (i : ℕ). drop i e) (sym b.place) in
      record {
        place = omega (arith, a.place, b.place, length-append t u);
        memory = b.memory ∙ rw (first, back) (simp append_assoc);
      }

-- A store is a text of one byte.
pub wrote_byte : (e : List ℕ) (i b : ℕ) → i < length e → Wrote (b ∷ []) i e (set e i b) (i + 1)
wrote_byte e i b h = record { place = refl; memory = rw (set_split e i b h, add-one i) }

-- A copy of a text, one byte further.
pub wrote_next : (text : List ℕ) {at i : ℕ} {e x : List ℕ} → i < length text → at + length text ≤ length e → Wrote (take i text) at e x (at + i)
    → Wrote (take (i + 1) text) at e (set x (at + i) (get_or text i 0)) (at + (i + 1))
wrote_next text {at} {i} {e} {x} h k a =
    let l : length x ≡ length e = wrote_length a (omega arith) in
    let b = wrote_join a (omega arith) (wrote_byte x (at + i) (get_or text i 0) (omega arith)) in
    let q : at + (i + 1) ≡ at + i + 1 = omega arith in
    rw (q, add-one i, take-suc text i 0 h) b
