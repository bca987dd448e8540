-- That no earlier start and no fewer nodes do: any choice of nodes free at s has the last of as many nodes in order free by s.
use Rattle.std.specs.Prelude.{◌≡◌, refl, true, ℕ, zero, suc, ◌≤◌, ◌<◌, length, take, drop}
use Rattle.std.proofs.Common.{ap, sym, subst, ◌∙◌, inl, inr, ⊎_elim, arith, take-append-drop, length-take-le}
use mathlib.Core.List.Memᴰ
use mathlib.Core.List.{List, [], ◌∷◌, map, Memᴰ}
use Rattle.std.proofs.Math.Decide.{dec_le}
use Rattle.std.proofs.lemmas.List.{length-map}
use Rattle.lists.specs.Laws.{All, Pairs, Differ, all_map, all_nth, all_both, all_mem, all_image, pairs_map, pairs_image, pairs_across, mem_image, pigeon}
use Rattle.keys.specs.declared.Key.{Key}
use Rattle.keys.specs.Model.{no_key, no_later}
use Rattle.keys.specs.Sorted.{Sorted, no_later_refl, no_later_prior}
use Rattle.booking.specs.Search.{key_at}
use Rattle.booking.specs.Best.{free_at, Before}
use Rattle.booking.specs.Rank.{key_of, IsKey, IsRank}

-- A key that stands no later has no later time.
pub no_later_time : (a b : Key) → no_later a b ≡ true → a.time ≤ b.time
no_later_time a b e = ⊎_elim (λ h. omega arith) (λ h. omega arith) (no_later_prior a b e)

-- In a list in order, what stands at or behind a place is no earlier than what stands there.
pub sorted_late : (ks : List Key) (i : ℕ) (x : Key) → Sorted ks → i < length ks → Memᴰ x (drop i ks) → no_later (key_at ks i) x ≡ true
sorted_late [] i x s h m = absurd (omega arith)
sorted_late (k ∷ ks) zero x s h m =
    ⊎_elim (λ e. subst (λ (y : Key). no_later k y ≡ true) (sym e) (no_later_refl k)) (λ n. all_mem n s.0 (λ y e p. subst (λ (z : Key). no_later k z ≡ true) (sym e) p)) (Memᴰ.cases_cons m)
sorted_late (k ∷ ks) (suc i) x s h m = sorted_late ks i x s.1 (omega arith) m

-- In a list in order, what stands at or before a place is no later than what stands there.
pub sorted_early : (ks : List Key) (i : ℕ) → Sorted ks → i < length ks → All (λ (x : Key). x.time ≤ (key_at ks i).time) (take (suc i) ks)
sorted_early [] i s h = absurd (omega arith)
sorted_early (k ∷ ks) zero s h = (omega arith, take_none ks)
  where
    take_none : (ls : List Key) → All (λ (x : Key). x.time ≤ k.time) (take 0 ls)
    take_none [] = tt
    take_none (l ∷ ls) = tt
sorted_early (k ∷ ks) (suc i) s h =
    (no_later_time k (key_at ks i) (all_nth no_key (λ (x : Key). no_later k x ≡ true) ks i s.0 (omega arith)), sorted_early ks i s.1 (omega arith))

-- Different nodes map to different keys.
keys_differ : (free ks : List ℕ) → Differ ks → Pairs (λ (x y : Key). x ≡ y → ⊥) (map (key_of free) ks)
keys_differ free ks d = pairs_image (λ (x y : Key). x ≡ y → ⊥) (key_of free) ks (pairs_map (λ a b f e. f (ap (λ (x : Key). x.number) e)) ks d)

module _ (n : ℕ) (free : List ℕ) (rank : List Key) (is : IsRank n free rank) where
  -- Different nodes are no more than there are.
  pub no_more : (ks : List ℕ) → All (λ (k : ℕ). (1 ≤ k) × (k ≤ n)) ks → Differ ks → length ks ≤ n
  no_more ks h d =
      omega (
        arith,
        length-map ks (key_of free),
        is.long,
        pigeon (map (key_of free) ks) rank (keys_differ free ks d) (all_image (λ (x : Key). Memᴰ x rank) (key_of free) ks (all_map (λ k a. is.every k a.0 a.1) ks h)),
      )

  -- If j + 1 different nodes are free at s, so is the one at place j.
  pub free_by : (s j : ℕ) (ks : List ℕ) → All (λ (k : ℕ). (1 ≤ k) × (k ≤ n)) ks → All (λ (k : ℕ). free_at free k ≤ s) ks → Differ ks → length ks ≡ suc j
      → (key_at rank j).time ≤ s
  free_by s j ks h f d l = elim (dec_le (key_at rank j).time s) [ yes a ↦ a | no a ↦ absurd (go (omega arith)) ]
    where
      few : j < length rank
      few = omega (arith, no_more ks h d, is.long)

      early : (x : Key) → x.time ≤ s → s < (key_at rank j).time → Memᴰ x rank → Memᴰ x (take j rank)
      early x a b m =
          ⊎_elim (λ p. p) (λ p. absurd (omega (arith, no_later_time (key_at rank j) x (sorted_late rank j x is.sorted few p))))
          (Memᴰ.append_cases (take j rank) (subst (Memᴰ x) (sym (take-append-drop j rank)) m))

      go : s < (key_at rank j).time → ⊥
      go a =
          omega (
            arith,
            length-map ks (key_of free),
            length-take-le j rank (omega (arith, few)),
            pigeon (map (key_of free) ks) (take j rank) (keys_differ free ks d)
                (all_image (λ (x : Key). Memᴰ x (take j rank)) (key_of free) ks (all_both (λ k b t. early (key_of free k) t a (is.every k b.0 b.1)) ks h f)),
          )

  -- Nodes in order stand before one another in the paper's sense.
  pub before_all : Pairs (λ (x y : Key). Before free x.number y.number) rank
  before_all = go rank is.sorted is.keys is.differ
    where
      one : (x y : Key) → x ≡ key_of free x.number → y ≡ key_of free y.number → no_later x y ≡ true → (x.number ≡ y.number → ⊥) → Before free x.number y.number
      one x y p q e d =
          let a : x.time ≡ free_at free x.number = ap (λ (z : Key). z.time) p in
          let b : y.time ≡ free_at free y.number = ap (λ (z : Key). z.time) q in
          ⊎_elim (λ h. inl (omega arith)) (λ h. ⊎_elim (λ k. inr (sym a ∙ h.0 ∙ b, k)) (λ k. absurd (d k.0)) h.1) (no_later_prior x y e)

      go : (ks : List Key) → Sorted ks → All (IsKey free 0 n) ks → Pairs (λ (x y : Key). x.number ≡ y.number → ⊥) ks → Pairs (λ (x y : Key). Before free x.number y.number) ks
      go [] s k d = tt
      go (x ∷ xs) s k d =
          let told : All (λ (y : Key). no_later x y ≡ true → Before free x.number y.number) xs =
          all_both (λ y p f e. one x y k.0.2 p.2 e f) xs k.1 d.0 in
          (all_both (λ y (f : no_later x y ≡ true → Before free x.number y.number) e. f e) xs told s.0, go xs s.1 k.1 d.1)

  -- A node that is not among the first stands after each of them.
  pub first_before : (j k : ℕ) → 1 ≤ k → k ≤ n → (Memᴰ k (map (λ (x : Key). x.number) (take j rank)) → ⊥)
      → All (λ (m : ℕ). Before free m k) (map (λ (x : Key). x.number) (take j rank))
  first_before j k a b out =
      all_image (λ (m : ℕ). Before free m k) (λ (x : Key). x.number) (take j rank)
      (all_map (λ x h. all_mem behind h (λ y e p. subst (λ (z : Key). Before free x.number z.number) (sym e) p)) (take j rank)
      (pairs_across (λ (x y : Key). Before free x.number y.number) (take j rank) (drop j rank) (rw (take-append-drop j rank) before_all)))
    where
      behind : Memᴰ (key_of free k) (drop j rank)
      behind =
          ⊎_elim (λ m. absurd (out (mem_image (λ (x : Key). x.number) m))) (λ m. m)
          (Memᴰ.append_cases (take j rank) (subst (Memᴰ (key_of free k)) (sym (take-append-drop j rank)) (is.every k a b)))

  -- Later places have later free times.
  pub times_grow : (i j : ℕ) → i ≤ j → j < length rank → (key_at rank i).time ≤ (key_at rank j).time
  times_grow i j h k = no_later_time (key_at rank i) (key_at rank j) (sorted_late rank i (key_at rank j) is.sorted (omega arith) (at rank i j h k))
    where
      at : (ks : List Key) (i j : ℕ) → i ≤ j → j < length ks → Memᴰ (key_at ks j) (drop i ks)
      at [] i j h k = absurd (omega arith)
      at (x ∷ xs) zero zero h k = Memᴰ.head refl
      at (x ∷ xs) zero (suc j) h k = Memᴰ.tail (at xs zero j (omega arith) (omega arith))
      at (x ∷ xs) (suc i) zero h k = absurd (omega arith)
      at (x ∷ xs) (suc i) (suc j) h k = at xs i j (omega arith) (omega arith)
