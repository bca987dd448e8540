-- The elements of a list that pass a test; and inputs answered one after the other, of which those that change nothing can be left out.
use Rattle.std.specs.Prelude.{◌≡◌, Bool, cond}
use Rattle.std.proofs.Math.Path.{refl, subst}
use Rattle.std.proofs.Common.{ap, sym, ◌∙◌}
use mathlib.Core.List.Permᴰ
use mathlib.Core.List.{List, [], ◌∷◌, Permᴰ}
use Rattle.std.proofs.Math.Bool.{true, false}
use Prim.Native.Nat.{suc, ◌≤◌}
use native.Mathlib.Omega.{arith}
use Rattle.std.proofs.Math.ListN.{length}
use Rattle.lists.specs.Laws.{All}

-- the elements of a list that pass a test, in their order
unfoldable pub keep : {A : Type 0} → (A → Bool) → List A → List A
keep p [] = []
keep p (x ∷ xs) = cond (p x) (x ∷ keep p xs) (keep p xs)

-- each input with what it is answered in the state that the one before it leaves
unfoldable pub answers_to : {S A B : Type 0} → (S → A → S) → (S → A → B) → S → List A → List (A × B)
answers_to next said s [] = []
answers_to next said s (x ∷ xs) = (x, said s x) ∷ answers_to next said (next s x) xs

module _ {A : Type 0} (p : A → Bool) where
  -- What holds of all holds of those that pass, and they pass.
  pub keep_all : (P : A → Type 0) (js : List A) → All P js → All (λ (j : A). P j × (p j ≡ true)) (keep p js)
  unfolding keep
  keep_all P [] h = tt
  keep_all P (j ∷ js) h = go (p j) refl (keep_all P js h.1)
    where
      go : (b : Bool) → p j ≡ b → All (λ (j : A). P j × (p j ≡ true)) (keep p js) → All (λ (j : A). P j × (p j ≡ true)) (cond b (j ∷ keep p js) (keep p js))
      go true e r = ((h.0, e), r)
      go false e r = r

  -- None pass where each fails.
  pub keep_none : (js : List A) → All (λ (j : A). p j ≡ false) js → keep p js ≡ []
  unfolding keep
  keep_none [] h = refl
  keep_none (j ∷ js) h = rw h.0 (keep_none js h.1)

  pub keep_every : (js : List A) → All (λ (j : A). p j ≡ true) js → keep p js ≡ js
  unfolding keep
  keep_every [] h = refl
  keep_every (j ∷ js) h = rw h.0 (ap (λ (l : List A). j ∷ l) (keep_every js h.1))

  -- Those that pass are no more.
  pub keep_length : (js : List A) → length (keep p js) ≤ length js
  unfolding keep
  keep_length [] = omega arith
  keep_length (j ∷ js) = go (p j) (keep_length js)
    where
      go : (b : Bool) → length (keep p js) ≤ length js → length (cond b (j ∷ keep p js) (keep p js)) ≤ suc (length js)
      go true h = omega arith
      go false h = omega arith

  cond_cons : (b : Bool) (j : A) (xs ys : List A) → Permᴰ xs ys → Permᴰ (cond b (j ∷ xs) xs) (cond b (j ∷ ys) ys)
  cond_cons true j xs ys d = Permᴰ.cons refl d
  cond_cons false j xs ys d = d

  cond_swap : (a b : Bool) (i j : A) (xs : List A) → Permᴰ (cond a (i ∷ cond b (j ∷ xs) xs) (cond b (j ∷ xs) xs)) (cond b (j ∷ cond a (i ∷ xs) xs) (cond a (i ∷ xs) xs))
  cond_swap true true i j xs = Permᴰ.swap refl refl
  cond_swap true false i j xs = Permᴰ.refl (i ∷ xs)
  cond_swap false true i j xs = Permᴰ.refl (j ∷ xs)
  cond_swap false false i j xs = Permᴰ.refl xs

  -- Of the same in another order the same pass.
  pub keep_perm : {xs ys : List A} → Permᴰ xs ys → Permᴰ (keep p xs) (keep p ys)
  unfolding keep
  keep_perm Permᴰ.nil = Permᴰ.nil
  keep_perm (Permᴰ.cons {a = a} {b = b} {l₁ = l₁} {l₂ = l₂} e d) =
      subst (λ (x : A). Permᴰ (keep p (a ∷ l₁)) (keep p (x ∷ l₂))) e (cond_cons (p a) a (keep p l₁) (keep p l₂) (keep_perm d))
  keep_perm (Permᴰ.swap {a = a} {b = b} {a' = a'} {b' = b'} {l = l} e g) =
      subst (λ (x : A). Permᴰ (keep p (a ∷ b ∷ l)) (keep p (x ∷ b' ∷ l))) g
      (subst (λ (y : A). Permᴰ (keep p (a ∷ b ∷ l)) (keep p (b ∷ y ∷ l))) e (cond_swap (p a) (p b) a b (keep p l)))
  keep_perm (Permᴰ.trans d₁ d₂) = Permᴰ.trans (keep_perm d₁) (keep_perm d₂)

-- ---- Leaving out what changes nothing

module _ {S A B : Type 0} (p : A → Bool) (next : S → A → S) (said : S → A → B) (same : (s : S) (x : A) → p x ≡ false → next s x ≡ s) where
  -- Where an input that fails the test leaves the state as it is, the others are answered without it what they are answered with it.
  pub answers_keep : (s : S) (xs : List A) → answers_to next said s (keep p xs) ≡ keep (λ (a : A × B). p a.0) (answers_to next said s xs)
  unfolding keep answers_to
  answers_keep s [] = refl
  answers_keep s (x ∷ xs) = go (p x) refl (answers_keep (next s x) xs)
    where
      rest : List (A × B)
      rest = keep (λ (a : A × B). p a.0) (answers_to next said (next s x) xs)

      go : (b : Bool) → p x ≡ b → answers_to next said (next s x) (keep p xs) ≡ rest → answers_to next said s (cond b (x ∷ keep p xs) (keep p xs)) ≡ cond b ((x, said s x) ∷ rest) rest
      go true e r = ap (λ (l : List (A × B)). (x, said s x) ∷ l) r
      go false e r = ap (λ (t : S). answers_to next said t (keep p xs)) (sym (same s x e)) ∙ r
