-- What a test says: tests put together say what their parts say, and the tests of the limits say the limits.
use Rattle.std.specs.Prelude.{◌≡◌, refl, List, [], ◌∷◌, Bool, true, false, ◌&&◌, not, ℕ, ◌≤◌, leb, eqb}
use Rattle.std.proofs.lemmas.Bool.{false≢true, eqb-false, not-true}
use Rattle.std.proofs.Common.{leb-true, le-leb, eqb-true, eq-eqb, ne_eqb}
use Rattle.lists.specs.Laws.{All}
use Rattle.limits.specs.declared.FarmCosts.{FarmCosts}
use Rattle.limits.specs.Model.{between, all_at_most, all_at_least, costs_within, Between, CostsWithin}

-- ---- Any test

-- the test b passes exactly if P
pub record Says (b : Bool) (P : Type 0) : Type 0 where
  pub yields : b ≡ true → P
  pub follows : P → b ≡ true

-- The test of an order says the order.
pub says_le : (a b : ℕ) → Says (leb a b) (a ≤ b)
says_le a b = record { yields = leb-true a b; follows = le-leb a b }

-- The test of an equation says the equation.
pub says_eq : (a b : ℕ) → Says (eqb a b) (a ≡ b)
says_eq a b = record { yields = eqb-true a b; follows = eq-eqb a b }

-- The test that two numbers are not equal says that they differ.
pub says_not_eq : (a b : ℕ) → Says (not (eqb a b)) (a ≡ b → ⊥)
says_not_eq a b = record { yields = λ e. eqb-false a b (not-true (eqb a b) e); follows = λ d. rw (ne_eqb a b d) }

-- A test says that it passes.
pub says_true : (b : Bool) → Says b (b ≡ true)
says_true b = record { yields = λ e. e; follows = λ e. e }

-- What a test says may be put in other words.
pub says_as : {b : Bool} {P Q : Type 0} → (P → Q) → (Q → P) → Says b P → Says b Q
says_as f g s = record { yields = λ e. f (s.yields e); follows = λ q. s.follows (g q) }

-- A second test may say what it says only where the first has passed.
pub says_then : {a b : Bool} {P Q : Type 0} → Says a P → (P → Says b Q) → Says (a && b) (P × Q)
says_then {a} {b} {P} {Q} s t = record { yields = go a b s t; follows = λ h. rw (s.follows h.0) ((t h.0).follows h.1) }
  where
    go : (a b : Bool) → Says a P → (P → Says b Q) → (a && b) ≡ true → P × Q
    go true b s t e = let p = s.yields refl in (p, (t p).yields e)
    go false b s t e = absurd (false≢true e)

-- Two tests say both.
pub says_both : {a b : Bool} {P Q : Type 0} → Says a P → Says b Q → Says (a && b) (P × Q)
says_both s t = says_then s (λ p. t)

-- ---- The limits

-- The test of two limits says that the figure is within them.
pub says_between : (a x b : ℕ) → Says (between a x b) (Between a x b)
says_between a x b = says_both (says_le a x) (says_le x b)

-- The same of a test that has passed.
pub between_is : (a x b : ℕ) → between a x b ≡ true → (a ≤ x) × (x ≤ b)
between_is a x b = (says_between a x b).yields

-- The test that all are at most b says so of each.
pub says_at_most : (b : ℕ) (xs : List ℕ) → Says (all_at_most b xs) (All (λ (x : ℕ). x ≤ b) xs)
unfolding all_at_most
says_at_most b [] = record { yields = λ e. tt; follows = λ h. refl }
says_at_most b (x ∷ xs) = says_both (says_le x b) (says_at_most b xs)

-- The test that all are at least a says so of each.
pub says_at_least : (a : ℕ) (xs : List ℕ) → Says (all_at_least a xs) (All (λ (x : ℕ). a ≤ x) xs)
unfolding all_at_least
says_at_least a [] = record { yields = λ e. tt; follows = λ h. refl }
says_at_least a (x ∷ xs) = says_both (says_le a x) (says_at_least a xs)

-- The test of the costs says that they are within the table.
pub says_costs : (c : FarmCosts) → Says (costs_within c) (CostsWithin c)
unfolding costs_within
says_costs c =
    says_as
    (λ h. record { send = h.0.0.0.0; compute = h.0.0.0.1; linksetup = h.0.0.1; nodesetup = h.0.1; returning = h.1 })
    (λ h. ((((h.send, h.compute), h.linksetup), h.nodesetup), h.returning))
    (says_both
    (says_both (says_both (says_both (says_between 1 c.send 10_000) (says_between 1 c.compute 1_000_000)) (says_le c.linksetup 1_000_000)) (says_le c.nodesetup 1_000_000))
    (says_le c.returning 10_000))
