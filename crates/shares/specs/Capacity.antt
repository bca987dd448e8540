-- The capacity of a window grows with the window and with the nodes, and by how much at most.
use Rattle.std.specs.Prelude.{◌≡◌, ℕ, zero, suc, ◌+◌, ◌-◌, ◌*◌, ◌/◌, ◌<◌, ◌≤◌, Bool, true, false, cond, nat_le}
use Rattle.std.proofs.Math.Path.{refl, ap}
use Rattle.std.proofs.Common.{le-div_iff_mul-le, add-sub_of_le, le-add_right, add-one, sub-one}
use Rattle.std.proofs.Math.Nat.{div-mul-le_self, mul-le-mul_left, mul-le-mul_right, div-le_self, div-eq_of_lt, div-zero}
use Rattle.std.proofs.Math.Decide.{dec_le}
use native.Mathlib.Omega.{arith}
use borrow.Author.Tests.{leb-false}
use Rattle.shares.specs.declared.Costs.{Costs}
use Rattle.shares.specs.Model.{first, left, left_after, capacity}

-- the paper's branch form: if not even 1 fits, the first node holds 0 and so do the rest
unfoldable pub by_branch : Costs → ℕ → ℕ → ℕ
by_branch c zero w = 0
by_branch c (suc n) w =
    cond (nat_le (c.linksetup + c.nodesetup + (c.send + c.compute)) w)
    (first c w + by_branch c n (left c w (first c w)))
    0

-- the arithmetic of one node: what is left of w and of v, where the shares are g + e and g
shorter : (w v g e d m l : ℕ) → w ≤ v + (e + d) * m → w - (l + (g + e) * m) ≤ v - (l + g * m) + d * m
shorter w v g e d m l h = omega arith

shorter' : (w v f e d m l : ℕ) → w ≤ v + d * m → w - (l + f * m) ≤ v - (l + (f + e) * m) + (d + e) * m
shorter' w v f e d m l h = omega arith

-- Where not even 1 unit fits, the first share is 0.
pub first_none : (c : Costs) (w : ℕ) → w - (c.linksetup + c.nodesetup) < c.send + c.compute → first c w ≡ 0
unfolding first
first_none c w h = div-eq_of_lt h

-- Nor is there a share where a unit costs nothing.
pub first_free : (c : Costs) (w : ℕ) → c.send + c.compute ≡ 0 → first c w ≡ 0
unfolding first
first_free c w h = rw h (div-zero (w - (c.linksetup + c.nodesetup)))

-- What a first share takes on the link is within the window, or it is one setup alone.
pub first_used : (c : Costs) (w : ℕ) → first c w * c.send ≤ w - (c.linksetup + c.nodesetup)
unfolding first
first_used c w =
    let x = w - (c.linksetup + c.nodesetup) in
    let e = c.send + c.compute in
    omega (arith, div-mul-le_self x e, mul-le-mul_left (x / e) (le-add_right c.send c.compute))

-- The next share joins the capacity: what the first node holds, and what the rest hold of what it leaves.
pub capacity_next : (c : Costs) (n w : ℕ) → 1 ≤ n → capacity c n w ≡ first c w + capacity c (n - 1) (left c w (first c w))
unfolding capacity
capacity_next c zero w h = absurd (omega arith)
capacity_next c (suc n) w h = rw (sub-one (suc n))

-- No nodes hold nothing.
pub capacity_no_node : (c : Costs) (w : ℕ) → capacity c 0 w ≡ 0
unfolding capacity
capacity_no_node c w = refl

-- One node holds its first share.
pub capacity_one : (c : Costs) (w : ℕ) → capacity c 1 w ≡ first c w
unfolding capacity
capacity_one c w = omega arith

-- No nodes leave the window as it is.
pub left_no_node : (c : Costs) (w : ℕ) → left_after c 0 w ≡ w
unfolding left_after
left_no_node c w = refl

-- What is left after k nodes and one more is what that one leaves.
pub left_snoc : (c : Costs) (k w : ℕ) → left_after c (k + 1) w ≡ left c (left_after c k w) (first c (left_after c k w))
unfolding left_after
left_snoc c k w = rw add-one (go k w)
  where
    go : (k w : ℕ) → left_after c (suc k) w ≡ left c (left_after c k w) (first c (left_after c k w))
    go zero w = refl
    go (suc k) w = go k (left c w (first c w))

-- The next share joins the capacity: k nodes and one more hold what the k do, and the first share of what they leave.
pub capacity_snoc : (c : Costs) (k w : ℕ) → capacity c (k + 1) w ≡ capacity c k w + first c (left_after c k w)
unfolding capacity left_after
capacity_snoc c k w = rw add-one (go k w)
  where
    go : (k w : ℕ) → capacity c (suc k) w ≡ capacity c k w + first c (left_after c k w)
    go zero w = omega arith
    go (suc k) w = omega (arith, go k (left c w (first c w)))

module _ (c : Costs) (sends : 1 ≤ c.send) where
  -- A share that fits the window is at most the first share.
  pub first_most : (w a : ℕ) → c.linksetup + c.nodesetup + a * (c.send + c.compute) ≤ w → a ≤ first c w
  unfolding first
  first_most w a h =
      let pos : 0 < c.send + c.compute = omega arith in
      let fits : a * (c.send + c.compute) ≤ w - (c.linksetup + c.nodesetup) = omega arith in
      (le-div_iff_mul-le pos).1 fits

  -- The first share fits the window.
  pub first_fits : (w : ℕ) → 1 ≤ first c w → c.linksetup + c.nodesetup + first c w * (c.send + c.compute) ≤ w
  unfolding first
  first_fits w h =
      let x = w - (c.linksetup + c.nodesetup) in
      let e = c.send + c.compute in
      omega (arith, div-mul-le_self x e, mul-le-mul_right e h)

  -- where the first share of w is larger than that of v by e, e is at most d
  first_slack : (w v d e : ℕ) → w ≤ v + d * c.send → first c w ≡ first c v + e → e ≤ d
  first_slack w v d e h q = elim (dec_le e d) [ yes k ↦ k | no k ↦ absurd (go (omega arith)) ]
    where
      go : d + 1 ≤ e → ⊥
      go k =
          let f : c.linksetup + c.nodesetup + first c w * (c.send + c.compute) ≤ w = first_fits w (omega arith) in
          let i : (first c v + 1 + d) * (c.send + c.compute) ≤ first c w * (c.send + c.compute) = mul-le-mul_right (c.send + c.compute) (omega arith) in
          let j : first c v + 1 ≤ first c v = first_most v (first c v + 1) (omega arith) in
          omega arith

  -- one more node in front of those of `ih`
  slack_step : (n w v d : ℕ) → ((w v d : ℕ) → w ≤ v + d * c.send → capacity c n w ≤ capacity c n v + d)
      → w ≤ v + d * c.send → capacity c (suc n) w ≤ capacity c (suc n) v + d
  unfolding capacity left
  slack_step n w v d ih h = elim (dec_le (first c w) (first c v)) [ yes k ↦ less (first c v - first c w) (omega arith) | no k ↦ more (first c w - first c v) (omega arith) ]
    where
      f : ℕ
      f = first c w

      g : ℕ
      g = first c v

      rest : ℕ → ℕ → ℕ
      rest u a = capacity c n (u - (c.linksetup + a * c.send))

      less : (e : ℕ) → g ≡ f + e → f + rest w f ≤ g + rest v g + d
      less e q = rw q (omega (arith, ih _ _ (d + e) (shorter' w v f e d c.send c.linksetup h)))

      more : (e : ℕ) → f ≡ g + e → f + rest w f ≤ g + rest v g + d
      more e q =
          let k : e ≤ d = first_slack w v d e h q in
          rw q (omega (arith, ih _ _ (d - e) (shorter w v g e (d - e) c.send c.linksetup (rw (add-sub_of_le k) h))))

  -- d·m more ticks hold at most d more units.
  pub slack : (n w v d : ℕ) → w ≤ v + d * c.send → capacity c n w ≤ capacity c n v + d
  unfolding capacity
  slack zero w v d h = omega arith
  slack (suc n) w v d h = slack_step n w v d (slack n) h

  -- A longer window holds no less.
  pub longer : (n : ℕ) {w v : ℕ} → w ≤ v → capacity c n w ≤ capacity c n v
  longer n {w} {v} h = omega (arith, slack n w v 0 (omega arith))

  -- One node more holds no less.
  one_more : (n w : ℕ) → capacity c n w ≤ capacity c (suc n) w
  unfolding capacity
  one_more zero w = omega arith
  one_more (suc n) w = omega (arith, one_more n (left c w (first c w)))

  -- More nodes hold no less.
  pub more_nodes : (k n w : ℕ) → k ≤ n → capacity c k w ≤ capacity c n w
  more_nodes k zero w h = same (omega arith)
    where
      same : k ≡ 0 → capacity c k w ≤ capacity c 0 w
      same e = rw e (omega arith)
  more_nodes k (suc n) w h = elim (dec_le k n) [ yes g ↦ omega (arith, more_nodes k n w g, one_more n w) | no g ↦ same (omega arith) ]
    where
      same : k ≡ suc n → capacity c k w ≤ capacity c (suc n) w
      same e = rw e (omega arith)

  -- A shorter window has no larger first share.
  pub first_mono : {v w : ℕ} → v ≤ w → first c v ≤ first c w
  first_mono {v} {w} h = elim (dec_le 1 (first c v)) [ yes k ↦ first_most w (first c v) (omega (arith, first_fits v k)) | no k ↦ omega arith ]

  -- If not even 1 fits, the first node holds 0 and so do the rest.
  pub none_fits : (n w v : ℕ) → first c w ≡ 0 → v ≤ w → capacity c n v ≡ 0
  unfolding capacity left
  none_fits zero w v e h = refl
  none_fits (suc n) w v e h =
      let z : first c v ≡ 0 = omega (arith, first_mono h) in
      let s : v - (c.linksetup + first c v * c.send) ≤ w = omega arith in
      omega (arith, none_fits n w (v - (c.linksetup + first c v * c.send)) e s)

  pub left_shorter : (w a : ℕ) → left c w a ≤ w
  unfolding left
  left_shorter w a = omega arith

  -- A window holds at most as many units as it has ticks.
  pub at_most_window : (n w : ℕ) → capacity c n w ≤ w
  unfolding first
  at_most_window n w = omega (arith, slack n w 0 w (omega (arith, mul-le-mul_left w sends)), none_fits n 0 0 none (omega arith))
    where
      none : first c 0 ≡ 0
      none = omega (arith, div-le_self (0 - (c.linksetup + c.nodesetup)) (c.send + c.compute))

  -- In the paper's branch form the capacity is the same.
  pub branch_same : (n w : ℕ) → by_branch c n w ≡ capacity c n w
  unfolding by_branch capacity
  branch_same zero w = refl
  branch_same (suc n) w = go (nat_le (c.linksetup + c.nodesetup + (c.send + c.compute)) w) refl (branch_same n)
    where
      go : (b : Bool) → nat_le (c.linksetup + c.nodesetup + (c.send + c.compute)) w ≡ b → ((w : ℕ) → by_branch c n w ≡ capacity c n w)
          → cond b (first c w + by_branch c n (left c w (first c w))) 0 ≡ first c w + capacity c n (left c w (first c w))
      go true e ih = ap (λ (x : ℕ). first c w + x) (ih (left c w (first c w)))
      go false e ih =
          let none : first c w ≡ 0 = first_none c w (omega (arith, leb-false (c.linksetup + c.nodesetup + (c.send + c.compute)) w e)) in
          omega (arith, none_fits n w (left c w (first c w)) none (left_shorter w (first c w)))
