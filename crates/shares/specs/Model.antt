-- The meaning of the share arithmetic, in the words and the order of document 01, "One job on n nodes".
-- Everything here is a definition; nothing is assumed.
-- `-` stops at 0 and `/` rounds down, so no case is needed where not even one unit fits.
use Rattle.std.specs.Prelude.{ℕ, zero, suc, ◌+◌, ◌-◌, ◌*◌, ◌/◌, max, Bool, cond, ◌&&◌, Option, Some, None, List, [], ◌∷◌, ◌++◌, length, replicate, nat_le}
use Rattle.std.specs.Option.{option_or}
use Rattle.shares.specs.declared.Costs.{Costs}
use Rattle.shares.specs.declared.Shares.{Shares}
use Rattle.shares.specs.declared.Share.{Share}

-- ---- One list of shares, its sends back to back

-- when the send of `a` units that begins at t has ended: it takes ST + a × m
abbrev pub send_end : Costs → ℕ → ℕ → ℕ
send_end c t a = t + (c.linksetup + a * c.send)

-- when its chunk has finished: computing follows the send and takes SC + a × p
abbrev pub chunk_finish : Costs → ℕ → ℕ → ℕ
chunk_finish c t a = send_end c t a + (c.nodesetup + a * c.compute)

-- the chunk finishes of a share list whose first send begins at t
unfoldable pub finishes : Costs → ℕ → List ℕ → List ℕ
finishes c t [] = []
finishes c t (a ∷ xs) = chunk_finish c t a ∷ finishes c (send_end c t a) xs

-- the finish: the latest chunk finish (t itself where there is no chunk)
unfoldable pub finish : Costs → ℕ → List ℕ → ℕ
finish c t [] = t
finish c t (a ∷ xs) = max (chunk_finish c t a) (finish c (send_end c t a) xs)

-- the units of a share list
unfoldable pub sum : List ℕ → ℕ
sum [] = 0
sum (a ∷ xs) = a + sum xs

-- ---- A window of w ticks

-- the largest a with ST + SC + a × (m + p) ≤ w; 0 where not even 1 fits
unfoldable pub first : Costs → ℕ → ℕ
first c w = (w - (c.linksetup + c.nodesetup)) / (c.send + c.compute)

-- what a first share of `a` units leaves of the window: it is shorter by ST + a × m
unfoldable pub left : Costs → ℕ → ℕ → ℕ
left c w a = w - (c.linksetup + a * c.send)

-- the window that is left once k nodes have taken their first shares
unfoldable pub left_after : Costs → ℕ → ℕ → ℕ
left_after c zero w = w
left_after c (suc k) w = left_after c k (left c w (first c w))

-- what n nodes hold: the first node its largest share, and the rest, in the same way, what it leaves
unfoldable pub capacity : Costs → ℕ → ℕ → ℕ
capacity c zero w = 0
capacity c (suc n) w = first c w + capacity c n (left c w (first c w))

-- a share list ends before a share of 0
unfoldable pub cut : ℕ → List ℕ → List ℕ
cut zero xs = []
cut (suc a) xs = suc a ∷ xs

-- the shares with which they hold it
unfoldable pub greedy : Costs → ℕ → ℕ → List ℕ
greedy c zero w = []
greedy c (suc n) w = cut (first c w) (greedy c n (left c w (first c w)))

-- ---- A job of z units

-- the fewest nodes, of at most n, that hold z units in w ticks
unfoldable pub fewest : Costs → ℕ → ℕ → ℕ → Option ℕ
fewest c zero z w = cond (nat_le z 0) (Some 0) None
fewest c (suc n) z w = option_or (fewest c n z w) (cond (nat_le z (capacity c (suc n) w)) (Some (suc n)) None)

-- the earliest finish: the least window, of at most w ticks, in which n nodes hold z units (w itself where none does)
unfoldable pub earliest : Costs → ℕ → ℕ → ℕ → ℕ
earliest c n z zero = 0
earliest c n z (suc w) = cond (nat_le z (capacity c n w)) (earliest c n z w) (suc w)

-- ---- What the functions answer

-- They answer for costs with a send cost and for at most 64 nodes. For anything else they say no count of nodes,
-- the window that they were given, and no shares.
abbrev pub answers : Costs → ℕ → Bool
answers c n = nat_le 1 c.send && nat_le n 64

unfoldable pub next_of : Costs → ℕ → Share
next_of c w = record { units = first c w; left = left c w (first c w) }

unfoldable pub fewest_of : Costs → ℕ → ℕ → ℕ → Option ℕ
fewest_of c n z w = cond (answers c n) (fewest c n z w) None

unfoldable pub earliest_of : Costs → ℕ → ℕ → ℕ → ℕ
earliest_of c n z w = cond (answers c n) (earliest c n z w) w

-- a share list in an array of 64, with its count
unfoldable pub stored : List ℕ → Shares
stored xs = record { units = xs ++ replicate (64 - length xs) 0; count = length xs }

unfoldable pub shares_of : Costs → ℕ → ℕ → Shares
shares_of c n w = stored (cond (answers c n) (greedy c n w) [])
