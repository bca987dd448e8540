-- The limits of document 01's table: the tests that run, and what they say. Everything here is a definition; nothing is assumed.
use Rattle.std.specs.Prelude.{ℕ, ◌≤◌, List, [], ◌∷◌, Bool, true, ◌&&◌, leb}
use Rattle.limits.specs.declared.FarmCosts.{FarmCosts}

-- the greatest tick, allowance and count of job numbers
abbrev pub greatest : ℕ
greatest = 1_000_000_000_000

-- the most ticks that a show may hold: 64 nodes over the whole time range
abbrev pub most_held : ℕ
most_held = 64_000_000_000_000

-- ---- The tests

-- whether x is from a to b
abbrev pub between : ℕ → ℕ → ℕ → Bool
between a x b = leb a x && leb x b

-- whether every number of a list is at most b
unfoldable pub all_at_most : ℕ → List ℕ → Bool
all_at_most b [] = true
all_at_most b (x ∷ xs) = leb x b && all_at_most b xs

-- whether every number of a list is at least a
unfoldable pub all_at_least : ℕ → List ℕ → Bool
all_at_least a [] = true
all_at_least a (x ∷ xs) = leb a x && all_at_least a xs

-- whether a farm's costs are within the table, r being from 0 to 10,000
unfoldable pub costs_within : FarmCosts → Bool
costs_within c =
    between 1 c.send 10_000
    && between 1 c.compute 1_000_000
    && leb c.linksetup 1_000_000
    && leb c.nodesetup 1_000_000
    && leb c.returning 10_000

-- ---- What they say

-- x is from a to b
abbrev pub Between : ℕ → ℕ → ℕ → Type 0
Between a x b = (a ≤ x) × (x ≤ b)

-- the costs are within the table
pub record CostsWithin (c : FarmCosts) : Type 0 where
  pub send : Between 1 c.send 10_000
  pub compute : Between 1 c.compute 1_000_000
  pub linksetup : c.linksetup ≤ 1_000_000
  pub nodesetup : c.nodesetup ≤ 1_000_000
  pub returning : c.returning ≤ 10_000
