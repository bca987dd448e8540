-- What the definitions of Model say: the place found is the first wanted one, or there is none.
use Rattle.std.specs.Prelude.{◌≡◌, ℕ, ◌+◌, ◌-◌, ◌<◌, ◌≤◌, Bool, true, false, List, length, drop, slice_index, refl}
use Rattle.std.specs.List.{position_or_len}
use Rattle.std.proofs.Common.{arith, one-add, length-drop, get_or-drop}
use Rattle.std.proofs.lemmas.List.Recursion.{is_position_or_len}
use Rattle.std.proofs.lemmas.List.Sums.{prefix_len-le-length, fails_before_first, passes_at_first}
use Rattle.search.specs.Model.{before, next_place}

-- It is what the library counts.
pub before_counted : (p : ℕ → Bool) (xs : List ℕ) → before p xs ≡ position_or_len p xs
unfolding before
before_counted p xs = is_position_or_len (before p) p refl (λ x ys. rw one-add refl) xs

-- At most all bytes stand before the first wanted one.
pub before_length : (p : ℕ → Bool) (xs : List ℕ) → before p xs ≤ length xs
before_length p xs = rw before_counted (prefix_len-le-length _ xs)

-- At the end, and past it, there is none.
pub before_end : (p : ℕ → Bool) (xs : List ℕ) (i : ℕ) → length xs ≤ i → before p (drop i xs) ≡ 0
before_end p xs i h = omega (arith, before_length p (drop i xs), length-drop i xs)

-- Searched from past the end, the place is that one.
pub next_past : (p : ℕ → Bool) (xs : List ℕ) (from : ℕ) → length xs ≤ from → next_place p xs from ≡ from
next_past p xs from h = omega (arith, before_end p xs from h)

-- Searched from within the text, the place r is at most the length.
pub next_within : (p : ℕ → Bool) (xs : List ℕ) (from r : ℕ) → r ≡ next_place p xs from → from ≤ length xs → r ≤ length xs
next_within p xs from r e h = omega (arith, before_length p (drop from xs), length-drop from xs)

-- r is the first wanted place at or after `from`, or the end where there is none
pub record First (p : ℕ → Bool) (xs : List ℕ) (from r : ℕ) : Type 0 where
  pub start : from ≤ r
  pub within : r ≤ length xs
  pub earlier : (k : ℕ) → from ≤ k → k < r → p (slice_index xs k) ≡ false
  pub wanted : r < length xs → p (slice_index xs r) ≡ true

-- Searched from within the text, that is the place.
pub next_first : (p : ℕ → Bool) (xs : List ℕ) (from : ℕ) → from ≤ length xs → First p xs from (next_place p xs from)
next_first p xs from h =
    let c = before_counted p (drop from xs) in
    record {
      start = omega arith;
      within = next_within p xs from (next_place p xs from) refl h;
      earlier = λ k l m.
          let z : from + (k - from) ≡ k = omega arith in
          rw (get_or-drop, z) at (fails_before_first p (drop from xs) (k - from) 0 (omega (arith, c)));
      wanted = λ l. rw (← c, get_or-drop) at (passes_at_first p (drop from xs) 0 (omega (arith, c, length-drop from xs)));
    }
