-- The fewest nodes, the earliest finish, and the shares that are booked: each is the least there is, and the shares are exact.
use Rattle.std.specs.Prelude.{◌≡◌, ℕ, zero, suc, ◌+◌, ◌-◌, ◌*◌, ◌<◌, ◌≤◌, Bool, true, false, cond, ◌↔◌, Option, Some, None, List, length, nat_le}
use Rattle.std.proofs.Math.Path.{refl}
use Rattle.std.proofs.Common.{ap, sym, subst, ◌∙◌, le_antisymm, mul-le-mul_right}
use Rattle.std.proofs.Math.Nat.{sub-zero}
use Rattle.std.proofs.Math.Decide.{dec_le}
use native.Mathlib.Omega.{arith}
use borrow.Author.Tests.{lt-leb, leb-true, leb-false}
use Rattle.std.specs.Option.{option_or}
use Rattle.shares.specs.declared.Costs.{Costs}
use Rattle.shares.specs.Model.{finish, sum, first, capacity, greedy, fewest, earliest}
use Rattle.shares.specs.Lists.{Positive, NoLarger, no_larger_both}
use Rattle.shares.specs.Capacity.{capacity_one, first_most, first_fits, slack, longer, more_nodes, at_most_window}
use Rattle.shares.specs.Optimal.{optimal, greedy_ends, greedy_sum, greedy_largest, greedy_length, greedy_positive}

-- k is the fewest nodes that hold z units in w ticks
pub record IsFewest (c : Costs) (z w k : ℕ) : Type 0 where
  pub enough : z ≤ capacity c k w
  pub least : (j : ℕ) → z ≤ capacity c j w → k ≤ j

-- v is the least window in which n nodes hold z units
pub record IsEarliest (c : Costs) (n z v : ℕ) : Type 0 where
  pub enough : z ≤ capacity c n v
  pub least : (u : ℕ) → z ≤ capacity c n u → v ≤ u

-- xs divides z units over at most n nodes: each share at least 1, adding up to z, and ending within w ticks
pub record Divides (c : Costs) (n z w : ℕ) (xs : List ℕ) : Type 0 where
  pub count : length xs ≤ n
  pub each : Positive xs
  pub all : sum xs ≡ z
  pub ends : finish c 0 xs ≤ w

-- the division of z units over n nodes with finish v whose shares are the largest, from the first on
pub record Best (c : Costs) (n z v : ℕ) (xs : List ℕ) : Type 0 where
  pub count : length xs ≡ n
  pub each : Positive xs
  pub all : sum xs ≡ z
  pub ends : finish c 0 xs ≡ v
  pub largest : (ys : List ℕ) → length ys ≡ n → Positive ys → finish c 0 ys ≡ v → NoLarger ys xs

module _ (c : Costs) (sends : 1 ≤ c.send) where
  -- ---- The earliest finish

  -- `earliest` is at most the window given.
  pub earliest_within : (n z w : ℕ) → earliest c n z w ≤ w
  unfolding earliest
  earliest_within n z zero = omega arith
  earliest_within n z (suc w) = go (nat_le z (capacity c n w)) (earliest_within n z w)
    where
      go : (b : Bool) → earliest c n z w ≤ w → cond b (earliest c n z w) (suc w) ≤ suc w
      go true h = omega arith
      go false h = omega arith

  -- What is the least window is what `earliest` gives.
  pub earliest_is : (n z w v : ℕ) → IsEarliest c n z v → v ≤ w → earliest c n z w ≡ v
  unfolding earliest
  earliest_is n z zero v i h = omega arith
  earliest_is n z (suc w) v i h = go (nat_le z (capacity c n w)) refl (earliest_is n z w v i)
    where
      go : (b : Bool) → nat_le z (capacity c n w) ≡ b → (v ≤ w → earliest c n z w ≡ v) → cond b (earliest c n z w) (suc w) ≡ v
      go true q ih = ih (i.least w (leb-true _ _ q))
      go false q ih = elim (dec_le v w) [ yes k ↦ absurd (omega (arith, longer c sends n k, i.enough, leb-false z (capacity c n w) q)) | no k ↦ omega arith ]

  -- A window that one tick less would leave too short is the least.
  pub least_window : (n z w : ℕ) → capacity c n w < z → z ≤ capacity c n (suc w) → IsEarliest c n z (suc w)
  least_window n z w h k = record { enough = k; least = λ u g. elim (dec_le u w) [ yes l ↦ absurd (omega (arith, longer c sends n l)) | no l ↦ omega arith ] }

  -- Where the window is long enough, `earliest` is the least window.
  pub earliest_least : (n z w : ℕ) → z ≤ capacity c n w → IsEarliest c n z (earliest c n z w)
  unfolding earliest
  earliest_least n z zero h = record { enough = h; least = λ u g. omega arith }
  earliest_least n z (suc w) h = go (nat_le z (capacity c n w)) refl (earliest_least n z w)
    where
      go : (b : Bool) → nat_le z (capacity c n w) ≡ b → (z ≤ capacity c n w → IsEarliest c n z (earliest c n z w))
          → IsEarliest c n z (cond b (earliest c n z w) (suc w))
      go true q ih = ih (leb-true _ _ q)
      go false q ih = least_window n z w (leb-false _ _ q) h

  -- Where every shorter window is too short, `earliest` is the window itself.
  pub earliest_stays : (n z w : ℕ) → ((v : ℕ) → v < w → capacity c n v < z) → earliest c n z w ≡ w
  unfolding earliest
  earliest_stays n z zero h = refl
  earliest_stays n z (suc w) h = rw (lt-leb z (capacity c n w) (h w (omega arith)))

  -- Where the window is too short, `earliest` is the window itself.
  pub earliest_short : (n z w : ℕ) → capacity c n w < z → earliest c n z w ≡ w
  earliest_short n z w h = earliest_stays n z w (λ v k. omega (arith, longer c sends n {w = v} {v = w} (omega arith)))

  -- A shorter window that is long enough has the same least window.
  pub earliest_same : (n z v w : ℕ) → z ≤ capacity c n v → v ≤ w → earliest c n z v ≡ earliest c n z w
  earliest_same n z v w h k = sym (earliest_is n z w (earliest c n z v) (earliest_least n z v h) (omega (arith, earliest_within n z v)))

  -- A size that fits as the first share takes both setups and the units of the window.
  pub one_within : (z w : ℕ) → 1 ≤ z → z ≤ first c w → (c.linksetup + c.nodesetup + z * (c.send + c.compute) ≤ w) × (c.send + c.compute ≤ z * (c.send + c.compute))
  one_within z w h k =
      let e = c.send + c.compute in
      (omega (arith, first_fits c sends w (omega arith), mul-le-mul_right e k), omega (arith, mul-le-mul_right e h))

  -- For one node that is the least window.
  pub one_least : (z : ℕ) → 1 ≤ z → IsEarliest c 1 z (c.linksetup + c.nodesetup + z * (c.send + c.compute))
  one_least z h =
      let v = c.linksetup + c.nodesetup + z * (c.send + c.compute) in
      record {
        enough = omega (arith, capacity_one c v, first_most c sends v z (omega arith));
        least = λ u k. (one_within z u h (omega (arith, capacity_one c u))).0;
      }

  -- In the least window the capacity is exactly the size.
  pub exact : (n z v : ℕ) → IsEarliest c n z v → capacity c n v ≡ z
  exact n z zero i = omega (arith, i.enough, at_most_window c sends n 0)
  exact n z (suc v) i =
      elim (dec_le z (capacity c n v)) [
        | yes k ↦ absurd (omega (arith, i.least v k))
        | no k ↦ omega (arith, i.enough, slack c sends n (suc v) v 1 (omega arith))
      ]

  -- ---- The fewest nodes

  -- what an answer of `fewest` says
  abbrev Told : ℕ → ℕ → ℕ → Option ℕ → Type 0
  Told n z w (Some k) = (k ≤ n) × IsFewest c z w k
  Told n z w None = capacity c n w < z

  -- A count that one node less would leave too few is the fewest.
  pub fewest_nodes : (n z w : ℕ) → capacity c n w < z → z ≤ capacity c (suc n) w → IsFewest c z w (suc n)
  fewest_nodes n z w h k = record { enough = k; least = λ j g. elim (dec_le j n) [ yes l ↦ absurd (omega (arith, more_nodes c sends j n w l)) | no l ↦ omega arith ] }

  told : (n z w : ℕ) → Told n z w (fewest c n z w)
  unfolding fewest capacity
  told zero z w = go (nat_le z 0) refl
    where
      go : (b : Bool) → nat_le z 0 ≡ b → Told zero z w (cond b (Some 0) None)
      go true q = (omega arith, record { enough = leb-true _ _ q; least = λ j g. omega arith })
      go false q = leb-false _ _ q
  told (suc n) z w = go (fewest c n z w) (told n z w)
    where
      last : (b : Bool) → nat_le z (capacity c (suc n) w) ≡ b → capacity c n w < z → Told (suc n) z w (cond b (Some (suc n)) None)
      last true q h = (omega arith, fewest_nodes n z w h (leb-true _ _ q))
      last false q h = leb-false _ _ q

      go : (f : Option ℕ) → Told n z w f → Told (suc n) z w (option_or f (cond (nat_le z (capacity c (suc n) w)) (Some (suc n)) None))
      go (Some k) t = (omega arith, t.1)
      go None t = last (nat_le z (capacity c (suc n) w)) refl t

  -- `fewest` answers the fewest nodes that hold the size, where there are no more than n.
  pub fewest_is : (n z w k : ℕ) → IsFewest c z w k → k ≤ n → fewest c n z w ≡ Some k
  fewest_is n z w k i h = go (fewest c n z w) (told n z w)
    where
      go : (f : Option ℕ) → Told n z w f → f ≡ Some k
      go (Some j) t = ap Some (le_antisymm (t.1.least k i.enough) (i.least j t.1.enough))
      go None t = absurd (omega (arith, i.enough, more_nodes c sends k n w h))

  -- An answer of `fewest` is the fewest nodes that hold the size.
  pub fewest_least : (n z w k : ℕ) → fewest c n z w ≡ Some k → (k ≤ n) × IsFewest c z w k
  fewest_least n z w k e = subst (Told n z w) e (told n z w)

  -- `fewest` answers none exactly where n nodes do not hold the size.
  pub fewest_none : (n z w : ℕ) → capacity c n w < z → fewest c n z w ≡ None
  fewest_none n z w h = go (fewest c n z w) (told n z w)
    where
      go : (f : Option ℕ) → Told n z w f → f ≡ None
      go (Some j) t = absurd (omega (arith, t.1.enough, more_nodes c sends j n w t.0))
      go None t = refl

  pub fewest_short : (n z w : ℕ) → fewest c n z w ≡ None → capacity c n w < z
  fewest_short n z w e = subst (Told n z w) e (told n z w)

  -- For a fixed size a longer window never needs more nodes.
  pub never_more : (z w v k j : ℕ) → w ≤ v → IsFewest c z w k → IsFewest c z v j → j ≤ k
  never_more z w v k j h i l = l.least k (omega (arith, i.enough, longer c sends k h))

  -- ---- The shares of the least window

  -- In the least window the greedy shares add up to exactly the size, and end within it.
  pub exact_shares : (n z v : ℕ) → IsEarliest c n z v → Divides c n z v (greedy c n v)
  exact_shares n z v i = record {
    count = greedy_length c n v;
    each = greedy_positive c n v;
    all = greedy_sum c sends n v ∙ exact n z v i;
    ends = omega (arith, greedy_ends c sends n 0 v);
  }

  -- n nodes hold z units in w ticks exactly when some list of at most n shares, each at least 1, adds up to z and ends within w.
  pub suffices : (n z w : ℕ) → (z ≤ capacity c n w) ↔ ((xs : List ℕ) × Divides c n z w xs)
  suffices n z w = (there, back)
    where
      there : z ≤ capacity c n w → (xs : List ℕ) × Divides c n z w xs
      there h =
          let v = earliest c n z w in
          let d : Divides c n z v (greedy c n v) = exact_shares n z v (earliest_least n z w h) in
          (greedy c n v, record { count = d.count; each = d.each; all = d.all; ends = omega (arith, d.ends, earliest_within n z w) })

      back : ((xs : List ℕ) × Divides c n z w xs) → z ≤ capacity c n w
      back x =
          let d = x.1 in
          let most : sum x.0 ≤ capacity c n (w - 0) = optimal c sends n 0 w x.0 d.count d.ends in
          rw (← d.all, ← sub-zero w) most

  -- A division of the size that needs no fewer nodes and no shorter window has exactly n shares and ends exactly with the window.
  pub tight : (n z w v : ℕ) (xs : List ℕ) → IsFewest c z w n → IsEarliest c n z v → Divides c n z v xs → (length xs ≡ n) × (finish c 0 xs ≡ v)
  tight n z w v xs f e d = (le_antisymm d.count (f.least (length xs) long), le_antisymm d.ends (e.least (finish c 0 xs) soon))
    where
      within : v ≤ w
      within = e.least w f.enough

      long : z ≤ capacity c (length xs) w
      long = (suffices (length xs) z w).1 (xs, record { count = omega arith; each = d.each; all = d.all; ends = omega (arith, d.ends, within) })

      soon : z ≤ capacity c n (finish c 0 xs)
      soon = (suffices n z (finish c 0 xs)).1 (xs, record { count = d.count; each = d.each; all = d.all; ends = omega arith })

  -- The shares that are booked: on the fewest nodes n and in the least window v there are exactly n of them, each at least 1, adding up
  -- to the size; the finish is exactly v; and among all lists of n shares with that finish they have the largest first share, then the
  -- largest second, and so on.
  pub best : (n z w v : ℕ) → IsFewest c z w n → IsEarliest c n z v → Best c n z v (greedy c n v)
  best n z w v f e =
      let d = exact_shares n z v e in
      let t = tight n z w v (greedy c n v) f e d in
      record {
        count = t.0;
        each = d.each;
        all = d.all;
        ends = t.1;
        largest = λ ys l p q. greedy_largest c sends n 0 v ys (omega arith) p (omega arith);
      }

-- The booked shares are the only ones with these properties.
pub best_only : (c : Costs) (n z v : ℕ) (xs ys : List ℕ) → Best c n z v xs → Best c n z v ys → xs ≡ ys
best_only c n z v xs ys p q = no_larger_both xs ys (q.largest xs p.count p.each p.ends) (p.largest ys q.count q.each q.ends)
