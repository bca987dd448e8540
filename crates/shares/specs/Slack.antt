-- By how many ticks a window can be shorter or longer with the same shares; and where that tells the least window that holds a size.
use Rattle.std.specs.Prelude.{◌≡◌, ℕ, zero, suc, ◌+◌, ◌-◌, ◌*◌, ◌/◌, ◌<◌, ◌≤◌, min, Bool, true, false, cond, ◌&&◌, ◌==◌, nat_le}
use Rattle.std.proofs.Math.Path.{refl}
use Rattle.std.proofs.Common.{sym, ap, ◌∙◌, le-add_right, mul-le-mul_left, mul-le-mul_right, sub-one, le-leb, leb-true, eqb-true}
use Rattle.std.proofs.Math.Nat.{div-eq_of_lt-le, div-mul-le_self, lt-div-mul-add}
use Rattle.std.proofs.Math.Decide.{dec_le}
use native.Mathlib.Omega.{arith}
use Rattle.std.proofs.lemmas.Bool.{lt-leb}
use Rattle.shares.specs.declared.Costs.{Costs}
use Rattle.shares.specs.Model.{first, left, capacity}
use Rattle.shares.specs.Capacity.{first_none, capacity_no_node, capacity_next, first_most, none_fits, longer}
use Rattle.shares.specs.Least.{IsEarliest}
use Rattle.shares.specs.Answers.{both_true}

-- the four costs, one by one
abbrev pub costs_of : ℕ → ℕ → ℕ → ℕ → Costs
costs_of m p l s = record { send = m; compute = p; linksetup = l; nodesetup = s }

-- the ticks that the first node of a window can use: both setups are over
abbrev pub room : Costs → ℕ → ℕ
room c w = w - (c.linksetup + c.nodesetup)

-- the ticks that it has no use for: too few for one unit more
abbrev pub over : Costs → ℕ → ℕ
over c w = room c w - first c w * (c.send + c.compute)

-- the least such number of the nodes that hold a share, and of s
unfoldable pub spare_of : Costs → ℕ → ℕ → ℕ → ℕ
spare_of c zero w s = s
spare_of c (suc n) w s = cond (nat_le (c.send + c.compute) (room c w)) (spare_of c n (left c w (first c w)) (min s (over c w))) s

-- the fewest ticks that a node lacks for one unit more, and of g: of the nodes that hold a share, and of the first that holds none
unfoldable pub gap_of : Costs → ℕ → ℕ → ℕ → ℕ
gap_of c zero w g = g
gap_of c (suc n) w g =
    cond (nat_le (c.send + c.compute) (room c w))
    (gap_of c n (left c w (first c w)) (min g (c.send + c.compute - over c w)))
    (min g (c.send + c.compute - room c w))

-- what n nodes hold in a window of w ticks, with the spare and the gap, counted on from s and g
pub record Found (c : Costs) (n w s g units spare gap : ℕ) : Type 0 where
  pub held : units ≡ capacity c n w
  pub less : spare ≡ spare_of c n w s
  pub more : gap ≡ gap_of c n w g

-- ---- One node more

-- Without nodes nothing is counted.
spare_no_node : (c : Costs) (w s : ℕ) → spare_of c 0 w s ≡ s
unfolding spare_of
spare_no_node c w s = refl

gap_no_node : (c : Costs) (w g : ℕ) → gap_of c 0 w g ≡ g
unfolding gap_of
gap_no_node c w g = refl

-- A node that holds a share counts in both, and so do the rest.
spare_holds : (c : Costs) (n w s : ℕ) → c.send + c.compute ≤ room c w → spare_of c (suc n) w s ≡ spare_of c n (left c w (first c w)) (min s (over c w))
unfolding spare_of
spare_holds c n w s k = rw (le-leb (c.send + c.compute) (room c w) k)

gap_holds : (c : Costs) (n w g : ℕ) → c.send + c.compute ≤ room c w
    → gap_of c (suc n) w g ≡ gap_of c n (left c w (first c w)) (min g (c.send + c.compute - over c w))
unfolding gap_of
gap_holds c n w g k = rw (le-leb (c.send + c.compute) (room c w) k)

spare_next : (c : Costs) (n w s : ℕ) → 1 ≤ n → c.send + c.compute ≤ room c w → spare_of c n w s ≡ spare_of c (n - 1) (left c w (first c w)) (min s (over c w))
spare_next c zero w s h k = absurd (omega arith)
spare_next c (suc n) w s h k = rw (sub-one (suc n)) (spare_holds c n w s k)

gap_next : (c : Costs) (n w g : ℕ) → 1 ≤ n → c.send + c.compute ≤ room c w
    → gap_of c n w g ≡ gap_of c (n - 1) (left c w (first c w)) (min g (c.send + c.compute - over c w))
gap_next c zero w g h k = absurd (omega arith)
gap_next c (suc n) w g h k = rw (sub-one (suc n)) (gap_holds c n w g k)

-- The first node that holds none counts in the gap alone, and the rest do not count.
spare_none : (c : Costs) (n w s : ℕ) → room c w < c.send + c.compute → spare_of c n w s ≡ s
unfolding spare_of
spare_none c zero w s k = refl
spare_none c (suc n) w s k = rw (lt-leb (c.send + c.compute) (room c w) k)

gap_none : (c : Costs) (n w g : ℕ) → 1 ≤ n → room c w < c.send + c.compute → gap_of c n w g ≡ min g (c.send + c.compute - room c w)
unfolding gap_of
gap_none c zero w g h k = absurd (omega arith)
gap_none c (suc n) w g h k = rw (lt-leb (c.send + c.compute) (room c w) k)

module _ (c : Costs) (sends : 1 ≤ c.send) where
  -- The first share takes what it can of the room.
  first_within : (w : ℕ) → first c w * (c.send + c.compute) ≤ room c w
  unfolding first
  first_within w = div-mul-le_self (room c w) (c.send + c.compute)

  first_below : (w : ℕ) → room c w < first c w * (c.send + c.compute) + (c.send + c.compute)
  unfolding first
  first_below w = lt-div-mul-add (omega arith)

  -- Only the first share does.
  first_is : (w q : ℕ) → q * (c.send + c.compute) ≤ room c w → room c w < q * (c.send + c.compute) + (c.send + c.compute) → first c w ≡ q
  unfolding first
  first_is w q h k = div-eq_of_lt-le (c.send + c.compute) h (omega arith)

  -- A node makes neither number larger.
  spare_most : (n w s : ℕ) → spare_of c n w s ≤ s
  unfolding spare_of
  spare_most zero w s = omega arith
  spare_most (suc n) w s = go (nat_le (c.send + c.compute) (room c w)) (spare_most n (left c w (first c w)) (min s (over c w)))
    where
      go : (b : Bool) → spare_of c n (left c w (first c w)) (min s (over c w)) ≤ min s (over c w)
          → cond b (spare_of c n (left c w (first c w)) (min s (over c w))) s ≤ s
      go true h = omega arith
      go false h = omega arith

  gap_most : (n w g : ℕ) → gap_of c n w g ≤ g
  unfolding gap_of
  gap_most zero w g = omega arith
  gap_most (suc n) w g = go (nat_le (c.send + c.compute) (room c w)) (gap_most n (left c w (first c w)) (min g (c.send + c.compute - over c w)))
    where
      go : (b : Bool) → gap_of c n (left c w (first c w)) (min g (c.send + c.compute - over c w)) ≤ min g (c.send + c.compute - over c w)
          → cond b (gap_of c n (left c w (first c w)) (min g (c.send + c.compute - over c w))) (min g (c.send + c.compute - room c w)) ≤ g
      go true h = omega arith
      go false h = omega arith

  -- Ticks less, up to the spare, change no share.
  pub spare_same : (n w s d : ℕ) → d ≤ spare_of c n w s → capacity c n (w - d) ≡ capacity c n w
  unfolding capacity left
  spare_same zero w s d h = refl
  spare_same (suc n) w s d h = elim (dec_le (c.send + c.compute) (room c w)) [ yes k ↦ holds k (spare_same n) | no k ↦ none (omega arith) ]
    where
      none : room c w < c.send + c.compute → capacity c (suc n) (w - d) ≡ capacity c (suc n) w
      none k =
          let z : first c w ≡ 0 = first_none c w k in
          omega (arith, none_fits c sends (suc n) w (w - d) z (omega arith), none_fits c sends (suc n) w w z (omega arith))

      holds : c.send + c.compute ≤ room c w → ((w s d : ℕ) → d ≤ spare_of c n w s → capacity c n (w - d) ≡ capacity c n w)
          → capacity c (suc n) (w - d) ≡ capacity c (suc n) w
      holds k ih =
          let l = left c w (first c w) in
          let t : d ≤ spare_of c n l (min s (over c w)) = omega (arith, spare_holds c n w s k) in
          let q : first c (w - d) ≡ first c w = first_is (w - d) (first c w) (omega (arith, spare_most n l (min s (over c w)), first_within w)) (omega (arith, first_below w)) in
          let r : capacity c n (l - d) ≡ capacity c n l = ih l (min s (over c w)) d t in
          let e : left c (w - d) (first c w) ≡ l - d = omega arith in
          rw (q, e, r)

  -- Ticks more, fewer than the gap, change no share.
  gap_same : (n w g d : ℕ) → d < gap_of c n w g → capacity c n (w + d) ≡ capacity c n w
  unfolding capacity left
  gap_same zero w g d h = refl
  gap_same (suc n) w g d h = elim (dec_le (c.send + c.compute) (room c w)) [ yes k ↦ holds k (gap_same n) | no k ↦ none (omega arith) ]
    where
      none : room c w < c.send + c.compute → capacity c (suc n) (w + d) ≡ capacity c (suc n) w
      none k =
          let b : d < c.send + c.compute - room c w = omega (arith, gap_none c (suc n) w g (omega arith) k) in
          let y : first c (w + d) ≡ 0 = first_none c (w + d) (omega arith) in
          omega (arith, none_fits c sends (suc n) (w + d) (w + d) y (omega arith), none_fits c sends (suc n) (w + d) w y (omega arith))

      holds : c.send + c.compute ≤ room c w → ((w g d : ℕ) → d < gap_of c n w g → capacity c n (w + d) ≡ capacity c n w)
          → capacity c (suc n) (w + d) ≡ capacity c (suc n) w
      holds k ih =
          let l = left c w (first c w) in
          let g' = min g (c.send + c.compute - over c w) in
          let t : d < gap_of c n l g' = omega (arith, gap_holds c n w g k) in
          let q : first c (w + d) ≡ first c w = first_is (w + d) (first c w) (omega (arith, first_within w)) (omega (arith, gap_most n l g', first_within w, first_below w)) in
          let b : left c (w + d) (first c w) - l ≤ d = omega arith in
          let r : capacity c n (l + (left c (w + d) (first c w) - l)) ≡ capacity c n l = ih l g' (left c (w + d) (first c w) - l) (omega arith) in
          let e : l + (left c (w + d) (first c w) - l) ≡ left c (w + d) (first c w) = omega arith in
          rw (q, ← r, e)

  -- A window longer by m ticks less d + 1, where m is at most d and the gap together, holds no more.
  no_growth : (n l v g d : ℕ) → v ≤ l + (c.send - suc d) → c.send ≤ d + gap_of c n l g → capacity c n v ≤ capacity c n l
  no_growth n l v g d h j =
      elim (dec_le c.send d) [
        | yes k ↦ longer c sends n {w = v} {v = l} (omega arith)
        | no k ↦ omega (arith, longer c sends n {w = v} {v = l + (c.send - suc d)} h, gap_same n l g (c.send - suc d) (omega arith))
      ]

  -- One tick less than the spare allows: a share falls by one unit, and what it leaves is not enough longer for another to grow.
  pub spare_fewer : (n w s g : ℕ) → spare_of c n w s < s → c.send ≤ spare_of c n w s + gap_of c n w g → capacity c n (w - suc (spare_of c n w s)) < capacity c n w
  unfolding capacity left
  spare_fewer zero w s g h j = absurd (omega (arith, spare_no_node c w s))
  spare_fewer (suc n) w s g h j =
      elim (dec_le (c.send + c.compute) (room c w)) [ yes k ↦ rw (spare_holds c n w s k) (holds k (spare_fewer n)) | no k ↦ absurd (omega (arith, spare_none c (suc n) w s (omega arith))) ]
    where
      l : ℕ
      l = left c w (first c w)

      s' : ℕ
      s' = min s (over c w)

      g' : ℕ
      g' = min g (c.send + c.compute - over c w)

      d : ℕ
      d = spare_of c n l s'

      -- the first share falls
      falls : (q : ℕ) → first c w ≡ suc q → over c w ≡ d → c.send ≤ d + gap_of c n l g' → capacity c (suc n) (w - suc d) < capacity c (suc n) w
      falls q e o r =
          let mul : first c w * (c.send + c.compute) ≡ suc q * (c.send + c.compute) = ap (λ (x : ℕ). x * (c.send + c.compute)) e in
          let sent : first c w * c.send ≡ suc q * c.send = ap (λ (x : ℕ). x * c.send) e in
          let f : first c (w - suc d) ≡ q = first_is (w - suc d) q (omega (arith, first_within w)) (omega (arith, first_below w)) in
          let x : capacity c n (left c (w - suc d) q) ≤ capacity c n l = no_growth n l (left c (w - suc d) q) g' d (omega arith) r in
          rw f (omega arith)

      -- it stays, and a later one falls
      stays : c.send + c.compute ≤ room c w → suc d ≤ over c w → capacity c n (l - suc d) < capacity c n l → capacity c (suc n) (w - suc d) < capacity c (suc n) w
      stays k o r =
          let q : first c (w - suc d) ≡ first c w = first_is (w - suc d) (first c w) (omega (arith, first_within w)) (omega (arith, first_below w)) in
          let e : left c (w - suc d) (first c w) ≡ l - suc d = omega arith in
          rw (q, e) (omega arith)

      holds : c.send + c.compute ≤ room c w
          → ((w s g : ℕ) → spare_of c n w s < s → c.send ≤ spare_of c n w s + gap_of c n w g → capacity c n (w - suc (spare_of c n w s)) < capacity c n w)
          → capacity c (suc n) (w - suc d) < capacity c (suc n) w
      holds k ih =
          let some : 1 ≤ first c w = first_most c sends w 1 (omega arith) in
          let t : spare_of c (suc n) w s ≡ d = spare_holds c n w s k in
          let r : c.send ≤ d + gap_of c n l g' = omega (arith, gap_holds c n w g k) in
          elim (dec_le (over c w) d) [
            | yes o ↦ falls (first c w - 1) (omega arith) (omega (arith, spare_most n l s')) r
            | no o ↦ stays k (omega arith) (ih l s' g' (omega arith) r)
          ]

  -- Where n nodes hold z units exactly in w ticks, and a share that falls by one lets no other grow, the least window that holds z is w less the spare.
  pub settled : (n z w s g : ℕ) → capacity c n w ≡ z → spare_of c n w s < s → c.send ≤ spare_of c n w s + gap_of c n w g → IsEarliest c n z (w - spare_of c n w s)
  settled n z w s g e h j =
      let d = spare_of c n w s in
      let same : capacity c n (w - d) ≡ capacity c n w = spare_same n w s d (omega arith) in
      let fewer : capacity c n (w - suc d) < capacity c n w = spare_fewer n w s g h j in
      record { enough = omega arith; least = λ u k. elim (dec_le (w - d) u) [ yes i ↦ i | no i ↦ absurd (omega (arith, longer c sends n {w = u} {v = w - suc d} (omega arith))) ] }

  -- Where a share is held, the spare is less than the window.
  pub spare_within : (n w s : ℕ) → 1 ≤ capacity c n w → spare_of c n w s < w
  spare_within zero w s h = absurd (omega (arith, capacity_no_node c w))
  spare_within (suc n) w s h =
      elim (dec_le (c.send + c.compute) (room c w)) [
        | yes k ↦ omega (arith, spare_holds c n w s k, spare_most n (left c w (first c w)) (min s (over c w)), first_within w, mul-le-mul_right (c.send + c.compute) (first_most c sends w 1 (omega arith)))
        | no k ↦ absurd (omega (arith, none_fits c sends (suc n) w w (first_none c w (omega arith)) (omega arith)))
      ]

-- ---- The code's steps: x is the room, worked out in two differences

module _ (c : Costs) (sends : 1 ≤ c.send) where
  -- A share takes up the room, but for less than one unit.
  pub share_takes : (x : ℕ) → (x / (c.send + c.compute) * (c.send + c.compute) ≤ x) × (x < x / (c.send + c.compute) * (c.send + c.compute) + (c.send + c.compute))
      × (x / (c.send + c.compute) * c.send ≤ x)
  share_takes x =
      let e = c.send + c.compute in
      (div-mul-le_self x e, lt-div-mul-add (omega arith), omega (arith, div-mul-le_self x e, mul-le-mul_left (x / e) (le-add_right c.send c.compute)))

  -- The room in one difference.
  room_is : (w v x : ℕ) → v ≡ w - c.linksetup → x ≡ v - c.nodesetup → x ≡ room c w
  room_is w v x e i = omega arith

  -- What the code finds without nodes, where the first holds none, and where it holds a share.
  pub found_no_node : (n w s g : ℕ) → n ≡ 0 → Found c n w s g 0 s g
  found_no_node n w s g e = rw e (record { held = sym (capacity_no_node c w); less = sym (spare_no_node c w s); more = sym (gap_no_node c w g) })

  pub found_none : (n w s g v x g' : ℕ) → 1 ≤ n → v ≡ w - c.linksetup → x ≡ v - c.nodesetup → x < c.send + c.compute → g' ≡ min g (c.send + c.compute - x) → Found c n w s g 0 s g'
  found_none n w s g v x g' h e i k q =
      let r : x ≡ room c w = room_is w v x e i in
      let none : room c w < c.send + c.compute = rw r at k in
      record {
        held = sym (none_fits c sends n w w (first_none c w none) (omega arith));
        less = sym (spare_none c n w s none);
        more = rw (gap_none c n w g h none, ← r) q;
      }

  pub found_next : (n w s g v x l s' g' units spare gap : ℕ) → 1 ≤ n → v ≡ w - c.linksetup → x ≡ v - c.nodesetup → c.send + c.compute ≤ x
      → l ≡ w - (c.linksetup + x / (c.send + c.compute) * c.send)
      → s' ≡ min s (x - x / (c.send + c.compute) * (c.send + c.compute))
      → g' ≡ min g (c.send + c.compute - (x - x / (c.send + c.compute) * (c.send + c.compute)))
      → Found c (n - 1) l s' g' units spare gap
      → Found c n w s g (x / (c.send + c.compute) + units) spare gap
  unfolding first left
  found_next n w s g v x l s' g' units spare gap h e i k el es eg f =
      let r : x ≡ room c w = room_is w v x e i in
      let fits : c.send + c.compute ≤ room c w = rw r at k in
      record {
        held = rw (capacity_next c n w h, f.held, el, r);
        less = rw (spare_next c n w s h fits, f.less, el, es, r);
        more = rw (gap_next c n w g h fits, f.more, el, eg, r);
      }

  -- Where the test says that a tried window tells the least one, it does.
  pub settled_found : (n z w s g units spare gap : ℕ) (b : Bool) → 1 ≤ z → w ≤ s → Found c n w s g units spare gap
      → b ≡ (units == z && nat_le (c.send - spare) gap) → b ≡ true → (spare < w) × IsEarliest c n z (w - spare)
  settled_found n z w s g units spare gap b h k f e y =
      let t = both_true (units == z) (nat_le (c.send - spare) gap) (sym e ∙ y) in
      let all : units ≡ z = eqb-true units z t.0 in
      let held : units ≡ capacity c n w = f.held in
      let within : spare_of c n w s < w = spare_within c sends n w s (omega arith) in
      let far : c.send ≤ spare_of c n w s + gap_of c n w g = omega (arith, leb-true (c.send - spare) gap t.1, f.less, f.more) in
      rw f.less (within, settled c sends n z w s g (omega arith) (omega arith) far)
