-- Lists of shares: each of at least 1, and which of two has the larger shares.
use Rattle.std.specs.Prelude.{◌≡◌, ℕ, ◌<◌, ◌≤◌, ◌⊎◌, List, [], ◌∷◌, refl}
use Rattle.std.proofs.Common.{ap₂, inl, inr, arith}
use Rattle.lists.specs.Laws.{All}

-- every share is at least 1
abbrev pub Positive : List ℕ → Type 0
Positive = All (λ (a : ℕ). 1 ≤ a)

-- xs is nowhere larger: at the first place where they differ, ys has the larger share (a missing share is the smallest)
abbrev pub NoLarger : List ℕ → List ℕ → Type 0
NoLarger [] ys = Unit
NoLarger (a ∷ xs) [] = ⊥
NoLarger (a ∷ xs) (b ∷ ys) = (a < b) ⊎ ((a ≡ b) × NoLarger xs ys)

-- Two lists of which neither is larger are the same.
pub no_larger_both : (xs ys : List ℕ) → NoLarger xs ys → NoLarger ys xs → xs ≡ ys
no_larger_both [] [] h k = refl
no_larger_both [] (b ∷ ys) h k = absurd k
no_larger_both (a ∷ xs) [] h k = absurd h
no_larger_both (a ∷ xs) (b ∷ ys) (inl h) (inl k) = absurd (omega arith)
no_larger_both (a ∷ xs) (b ∷ ys) (inl h) (inr k) = absurd (omega arith)
no_larger_both (a ∷ xs) (b ∷ ys) (inr h) (inl k) = absurd (omega arith)
no_larger_both (a ∷ xs) (b ∷ ys) (inr h) (inr k) = ap₂ ◌∷◌ h.0 (no_larger_both xs ys h.1 k.1)
