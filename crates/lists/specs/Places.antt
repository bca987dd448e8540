-- A list made of another, each element with its place: the laws by which an array of small records and what lies at
-- their places elsewhere are one array. Over any two types.
use Rattle.std.specs.Prelude.{◌≡◌, length, get_or, take, drop, set}
use Rattle.std.proofs.Math.Path.{refl, ap, ap₂, subst}
use Rattle.std.proofs.Common.{◌∙◌}
use mathlib.Core.List.{List, [], ◌∷◌}
use Prim.Native.Nat.{ℕ, zero, suc, ◌+◌, ◌≤◌, ◌<◌}
use native.Mathlib.Omega.{arith}

-- f of each element and its place, the first of which is a
unfoldable pub each_at : {A B : Type 0} → (ℕ → A → B) → ℕ → List A → List B
each_at f a [] = []
each_at f a (x ∷ xs) = f a x ∷ each_at f (suc a) xs

module _ {A B : Type 0} where
  pub each_length : (f : ℕ → A → B) (a : ℕ) (xs : List A) → length (each_at f a xs) ≡ length xs
  unfolding each_at
  each_length f a [] = refl
  each_length f a (x ∷ xs) = ap suc (each_length f (suc a) xs)

  -- Functions that agree from place a on make the same list.
  pub each_same : (f g : ℕ → A → B) (a : ℕ) (xs : List A) → ((k : ℕ) (z : A) → a ≤ k → f k z ≡ g k z) → each_at f a xs ≡ each_at g a xs
  unfolding each_at
  each_same f g a [] e = refl
  each_same f g a (x ∷ xs) e = ap₂ ◌∷◌ (e a x (omega arith)) (each_same f g (suc a) xs (λ k z h. e k z (omega arith)))

  -- An element written, and what lies at its place, is an element of the made list written, if all else that lies
  -- elsewhere is kept.
  pub each_set : (f g : ℕ → A → B) (a : ℕ) (xs : List A) (i : ℕ) (x : A) (y : B) → g (a + i) x ≡ y → ((k : ℕ) (z : A) → (k ≡ a + i → ⊥) → g k z ≡ f k z)
      → each_at g a (set xs i x) ≡ set (each_at f a xs) i y
  unfolding each_at
  each_set f g a [] i x y e k = refl
  each_set f g a (z ∷ xs) zero x y e k =
      let s : a + 0 ≡ a = omega arith in
      ap₂ ◌∷◌ (subst (λ (m : ℕ). g m x ≡ y) s e) (each_same g f (suc a) xs (λ j w h. k j w (λ q. omega arith)))
  each_set f g a (z ∷ xs) (suc i) x y e k =
      let s : a + suc i ≡ suc a + i = omega arith in
      ap₂ ◌∷◌ (k a z (λ q. omega arith)) (each_set f g (suc a) xs i x y (subst (λ (m : ℕ). g m x ≡ y) s e) (λ j w h. k j w (λ q. h (q ∙ s))))

  pub each_take : (f : ℕ → A → B) (a n : ℕ) (xs : List A) → take n (each_at f a xs) ≡ each_at f a (take n xs)
  unfolding each_at
  each_take f a zero [] = refl
  each_take f a zero (x ∷ xs) = refl
  each_take f a (suc n) [] = refl
  each_take f a (suc n) (x ∷ xs) = ap (λ (l : List B). f a x ∷ l) (each_take f (suc a) n xs)

  pub each_get : (f : ℕ → A → B) (a i : ℕ) (xs : List A) (d : A) (e : B) → i < length xs → get_or (each_at f a xs) i e ≡ f (a + i) (get_or xs i d)
  unfolding each_at
  each_get f a i [] d e h = absurd (omega arith)
  each_get f a zero (x ∷ xs) d e h = let s : a ≡ a + 0 = omega arith in ap (λ (m : ℕ). f m x) s
  each_get f a (suc i) (x ∷ xs) d e h =
      let s : suc a + i ≡ a + suc i = omega arith in
      each_get f (suc a) i xs d e (omega arith) ∙ ap (λ (m : ℕ). f m (get_or xs i d)) s

  pub each_drop : (f : ℕ → A → B) (a n : ℕ) (xs : List A) → drop n (each_at f a xs) ≡ each_at f (a + n) (drop n xs)
  unfolding each_at
  each_drop f a zero xs = let s : a ≡ a + 0 = omega arith in ap (λ (m : ℕ). each_at f m xs) s
  each_drop f a (suc n) [] = refl
  each_drop f a (suc n) (x ∷ xs) = let s : suc a + n ≡ a + suc n = omega arith in each_drop f (suc a) n xs ∙ ap (λ (m : ℕ). each_at f m (drop n xs)) s

  -- Functions that agree on the first n elements at their places make the same first n.
  pub each_front : (f g : ℕ → A → B) (d : A) (a n : ℕ) (xs : List A) → ((k : ℕ) → k < n → k < length xs → f (a + k) (get_or xs k d) ≡ g (a + k) (get_or xs k d)) → take n (each_at f a xs) ≡ take n (each_at g a xs)
  unfolding each_at
  each_front f g d a zero xs e = refl
  each_front f g d a (suc n) [] e = refl
  each_front f g d a (suc n) (x ∷ xs) e =
      let s : a + 0 ≡ a = omega arith in
      ap₂ ◌∷◌ (subst (λ (m : ℕ). f m x ≡ g m x) s (e 0 (omega arith) (omega arith)))
      (each_front f g d (suc a) n xs
      (λ k h l. let t : a + suc k ≡ suc a + k = omega arith in subst (λ (m : ℕ). f m (get_or xs k d) ≡ g m (get_or xs k d)) t (e (suc k) (omega arith) (omega arith))))
