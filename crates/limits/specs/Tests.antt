-- The tests that the code puts together.
use Rattle.std.specs.Prelude.{ℕ, zero, suc, min, ◌≤◌, ◌≡◌, refl, List, [], ◌∷◌, Bool, true, false, ◌&&◌, leb, length, get_or, take}
use Rattle.std.proofs.Common.{ap, arith, leb-true}
use Rattle.std.proofs.lemmas.List.{take_min}
use Rattle.std.specs.List.{list_all}
use Rattle.limits.specs.Model.{all_at_most}

-- ---- Conjunctions

-- Both of a conjunction hold.
pub and_both : (a b : Bool) → a && b ≡ true → (a ≡ true) × (b ≡ true)
and_both true b e = (refl, e)
and_both false b e = absurd (let z : ◌≡◌ {A = ℕ} 0 1 = cc in omega arith)

pub both : {a b c d : Bool} → a ≡ c → b ≡ d → a && b ≡ c && d
both e f = rw (e, f)

-- ---- Numbers of an array

-- A front is the front that there is.
pub take_least : {A : Type 0} (n : ℕ) (xs : List A) → take (min n (length xs)) xs ≡ take n xs
take_least n xs = take_min n xs

-- A list passes if each of its numbers does, as the code asks it.
pub at_most_each : (b : ℕ) (xs : List ℕ) → list_all (λ (x : ℕ). leb x b) xs ≡ all_at_most b xs
unfolding all_at_most
at_most_each b [] = refl
at_most_each b (x ∷ xs) = ap (λ (r : Bool). leb x b && r) (at_most_each b xs)

-- Every number of a list that is at most b, also past its end.
pub at_most_at : (b : ℕ) (xs : List ℕ) (i : ℕ) → all_at_most b xs ≡ true → get_or xs i 0 ≤ b
unfolding all_at_most
at_most_at b [] i e = omega arith
at_most_at b (x ∷ xs) zero e = leb-true x b (and_both (leb x b) (all_at_most b xs) e).0
at_most_at b (x ∷ xs) (suc i) e = at_most_at b xs i (and_both (leb x b) (all_at_most b xs) e).1
