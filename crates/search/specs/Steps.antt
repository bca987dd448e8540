-- What each turn of the loops keeps: by bytes and by words.
use Rattle.std.specs.Prelude.{◌≡◌, ℕ, suc, ◌+◌, ◌-◌, ◌/◌, ◌<◌, Bool, true, false, cond, ◌||◌, List, [], ◌∷◌, length, take, drop, ◌==◌, ◌≢◌, slice_index, position, refl}
use Rattle.std.proofs.Math.Nat.{div-div-eq-div-mul}
use Rattle.std.specs.Option.{unwrap_or}
use Rattle.std.specs.Int.{w64, to_le_bytes, from_le_bytes}
use Rattle.std.proofs.lemmas.Nat.{le_bytes_8}
use Rattle.std.proofs.Common.{sym, ap, ◌∙◌, arith, eq-eqb, ne_eqb, length-drop, take_all, take-append-drop, not, drop-drop}
use Rattle.std.specs.Int.Count.{count_trailing_zeros}
use Rattle.std.proofs.lemmas.List.Folds.{prefix_len-append}
use Rattle.search.specs.Model.{this, either, before}
use Rattle.search.specs.Laws.{before_counted, before_length}
use Rattle.search.specs.Words.{bytes_of, Exact, bytes_length}

-- ---- One byte

-- It is the place that the library finds, or the length.
pub before_position : (p : ℕ → Bool) (xs : List ℕ) → before p xs ≡ unwrap_or (position p xs) (length xs)
before_position p xs = let l = before_length p xs in grind (arith, before_counted p xs)

-- What `get` lends of a text from a place on.
pub rest_is : (xs : List ℕ) (from : ℕ) → take (length xs - from) (drop from xs) ≡ drop from xs
rest_is xs from = take_all (length xs - from) (drop from xs) (omega (arith, length-drop from xs))

same_step : (w : Bool) (m n : ℕ) → m ≡ n → cond w 0 (suc m) ≡ cond (w || w) 0 (suc n)
same_step true m n e = refl
same_step false m n e = ap suc e

-- One byte is asked for twice.
pub before_same : (b : ℕ) (xs : List ℕ) → before (this b) xs ≡ before (either b b) xs
unfolding before
before_same b [] = refl
before_same b (x ∷ xs) = same_step (x == b) (before (this b) xs) (before (either b b) xs) (before_same b xs)

-- ---- Eight bytes

-- What the library makes of eight bytes is a word of these bytes.
pub eight_bytes : (bs : List ℕ) (w : ℕ) → length bs ≡ 8 → ((i : ℕ) → slice_index bs i < 256) → w ≡ from_le_bytes w64 bs → bytes_of 8 w ≡ bs
unfolding bytes_of
eight_bytes bs w h small e =
    let s : bytes_of 8 w ≡ to_le_bytes w64 w = simp div-div-eq-div-mul refl in s ∙ le_bytes_8 bs w h small e

-- what is wanted stands among the first n, or behind them
before_split : (p : ℕ → Bool) (n : ℕ) (xs : List ℕ)
    → before p xs ≡ cond (before p (take n xs) == length (take n xs)) (length (take n xs) + before p (drop n xs)) (before p (take n xs))
before_split p n xs =
    rw (take-append-drop, ← before_counted p xs, ← before_counted p (take n xs), ← before_counted p (drop n xs)) at (prefix_len-append (λ x. not (p x)) (take n xs) (drop n xs))

module _ (p : ℕ → Bool) (xs : List ℕ) (i w t : ℕ) (word : bytes_of 8 w ≡ take 8 (drop i xs)) (marks : Exact p (bytes_of 8 w) t) where
  eight_long : length (take 8 (drop i xs)) ≡ 8
  eight_long = rw word at (bytes_length 8 w)

  -- Some mark: what is wanted stands in the word, at the lowest mark.
  pub word_found : (t ≢ 0) → count_trailing_zeros 64 t / 8 ≡ before p (drop i xs)
  word_found n =
      let l : before p (take 8 (drop i xs)) < 8 = rw word at (marks.some n) in
      let o : before p (take 8 (drop i xs)) ≢ length (take 8 (drop i xs)) = omega (arith, eight_long) in
      let e : before p (drop i xs) ≡ before p (take 8 (drop i xs)) = rw (ne_eqb _ _ o) at (before_split p 8 (drop i xs)) in
      let f : count_trailing_zeros 64 t / 8 ≡ before p (take 8 (drop i xs)) = rw word at (marks.first n) in
      f ∙ sym e

  -- No mark: it stands behind the word.
  pub word_passed : t ≡ 0 → before p (drop i xs) ≡ 8 + before p (drop (i + 8) xs)
  word_passed z =
      let f : before p (take 8 (drop i xs)) ≡ 8 = rw word at (marks.none z) in
      let o : before p (take 8 (drop i xs)) ≡ length (take 8 (drop i xs)) = f ∙ sym eight_long in
      rw (eq-eqb _ _ o, eight_long, drop-drop) at (before_split p 8 (drop i xs))
