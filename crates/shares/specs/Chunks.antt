-- A share list's chunk finishes and its finish, as the paper writes them.
use Rattle.std.specs.Prelude.{◌≡◌, ℕ, zero, suc, ◌+◌, ◌*◌, ◌<◌, ◌≤◌, ◌↔◌, List, [], ◌∷◌, length, take, slice_index, refl}
use Rattle.std.proofs.Common.{ap, arith}
use Rattle.shares.specs.declared.Costs.{Costs}
use Rattle.shares.specs.Model.{send_end, finishes, finish, sum}
use Rattle.lists.specs.Laws.{All}

-- There are as many chunk finishes as shares.
pub finishes_length : (c : Costs) (t : ℕ) (xs : List ℕ) → length (finishes c t xs) ≡ length xs
unfolding finishes
finishes_length c t [] = refl
finishes_length c t (a ∷ xs) = ap suc (finishes_length c (send_end c t a) xs)

-- The finish of chunk j is j·ST + (a1 + … + aj)·m + SC + aj·p after the start (j counts from 1; the place in a list from 0).
pub chunk_finish_lem : (c : Costs) (t : ℕ) (xs : List ℕ) (i : ℕ) → i < length xs
    → slice_index (finishes c t xs) i ≡ t + (suc i * c.linksetup + sum (take (suc i) xs) * c.send + c.nodesetup + slice_index xs i * c.compute)
unfolding finishes sum
chunk_finish_lem c t [] i h = absurd (omega arith)
chunk_finish_lem c t (a ∷ xs) zero h = omega arith
chunk_finish_lem c t (a ∷ xs) (suc i) h = omega (arith, chunk_finish_lem c (send_end c t a) xs i (omega arith))

-- The finish is the latest chunk finish: it is by w exactly when each chunk's is (and the start, where there is no chunk).
pub finish_latest : (c : Costs) (t w : ℕ) (xs : List ℕ) → (finish c t xs ≤ w) ↔ ((t ≤ w) × All (λ (f : ℕ). f ≤ w) (finishes c t xs))
unfolding finish finishes
finish_latest c t w [] = (λ h. (h, tt), λ h. h.0)
finish_latest c t w (a ∷ xs) =
    let rest = finish_latest c (send_end c t a) w xs in
    (λ h. (omega arith, (omega arith, (rest.0 (omega arith)).1)), λ h. omega (arith, rest.1 (omega arith, h.1.1)))

-- A finish shifts with its start.
pub finish_shift : (c : Costs) (s t : ℕ) (xs : List ℕ) → finish c (s + t) xs ≡ s + finish c t xs
unfolding finish
finish_shift c s t [] = refl
finish_shift c s t (a ∷ xs) =
    let e : send_end c (s + t) a ≡ s + send_end c t a = omega arith in
    omega (arith, ap (λ (x : ℕ). finish c x xs) e, finish_shift c s (send_end c t a) xs)
