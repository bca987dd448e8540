-- Demand 2 on one booking, in the demand's own words. A choice is any start, any different nodes free at it and any division into whole
-- units that end by the deadline; a booking is the best of all choices.
use Rattle.std.specs.Prelude.{◌≡◌, ◌⊎◌, ◌↔◌, ℕ, ◌-◌, ◌≤◌, ◌<◌, length, get_or, take}
use mathlib.Core.List.{List, Memᴰ}
use Rattle.lists.specs.Laws.{All, Pairs, Differ}
use Rattle.shares.specs.Model.{sum, finish}
use Rattle.shares.specs.Lists.{Positive, NoLarger}
use Rattle.booking.specs.declared.Request.{Request}
use Rattle.booking.specs.declared.Booking.{Booking}
use Rattle.booking.specs.Model.{booking_of}

-- the free time of node k; nodes are numbered from 1
abbrev pub free_at : List ℕ → ℕ → ℕ
free_at free k = get_or free (k - 1) 0

-- one of the nodes
abbrev pub Known : Request → ℕ → Type 0
Known q k = (1 ≤ k) × (k ≤ q.nodes)

-- a start s, nodes ks free at it and shares xs, of which one goes to each node, that end by the deadline
pub record Choice (q : Request) (free : List ℕ) (s : ℕ) (ks xs : List ℕ) : Type 0 where
  pub after : q.from ≤ s
  pub known : All (Known q) ks
  pub idle : All (λ (k : ℕ). free_at free k ≤ s) ks
  pub differ : Differ ks
  pub paired : length ks ≡ length xs
  pub each : Positive xs
  pub all : sum xs ≡ q.size
  pub ends : finish q.costs s xs ≤ q.deadline

-- no permitted start, no different nodes free at it and no division into whole units end by the deadline
abbrev pub NoChoice : Request → List ℕ → Type 0
NoChoice q free = (s : ℕ) (ks xs : List ℕ) → Choice q free s ks xs → ⊥

-- node a stands before node b: it has the smaller free time, or the same and the smaller number
abbrev pub Before : List ℕ → ℕ → ℕ → Type 0
Before free a b = (free_at free a < free_at free b) ⊎ ((free_at free a ≡ free_at free b) × (a < b))

-- the best of all choices: nodes ks and shares xs from s
pub record BestChoice (q : Request) (free : List ℕ) (s : ℕ) (ks xs : List ℕ) : Type 0 where
  -- it is a choice
  pub choice : Choice q free s ks xs
  -- no choice starts earlier
  pub earliest : (t : ℕ) (ls ys : List ℕ) → Choice q free t ls ys → s ≤ t
  -- no choice, at any start, has fewer nodes
  pub fewest : (t : ℕ) (ls ys : List ℕ) → Choice q free t ls ys → length xs ≤ length ys
  -- none with this start and this many nodes finishes earlier
  pub soonest : (ls ys : List ℕ) → Choice q free s ls ys → length ys ≡ length xs → finish q.costs s xs ≤ finish q.costs s ys
  -- none of those with this finish has a larger first share, then a larger second, and so on
  pub largest : (ls ys : List ℕ) → Choice q free s ls ys → length ys ≡ length xs → finish q.costs s ys ≡ finish q.costs s xs → NoLarger ys xs
  -- its nodes are in order of free time, equal ones by number, and every node that is not taken stands after each one taken
  pub order : Pairs (Before free) ks
  pub first : (k : ℕ) → Known q k → (Memᴰ k ks → ⊥) → All (λ (m : ℕ). Before free m k) ks

-- the nodes and the shares of a booking, in chunk order
abbrev pub chosen : Booking → List ℕ
chosen b = take b.count b.nodes

abbrev pub units : Booking → List ℕ
units b = take b.count b.shares

-- a feasible booking: it holds a choice, and 0 in the cells past its count. Whatever is planned above rests on this alone, and not on its being the best
pub record Feasible (q : Request) (free : List ℕ) (b : Booking) : Type 0 where
  pub choice : Choice q free b.start (chosen b) (units b)
  pub blank : b ≡ booking_of b.start (chosen b) (units b)

-- a booking holds the best of all choices, and 0 in the cells past its count
pub record Best (q : Request) (free : List ℕ) (b : Booking) : Type 0 where
  pub best : BestChoice q free b.start (chosen b) (units b)
  pub blank : b ≡ booking_of b.start (chosen b) (units b)

-- what is booked for a request on nodes with these free times
pub record IsBooking (q : Request) (free : List ℕ) (b : Booking) : Type 0 where
  -- nothing, exactly when there is no choice
  pub fails : (b.count ≡ 0) ↔ NoChoice q free
  -- nodes and shares, exactly when they are the best of all choices
  pub best : (1 ≤ b.count) ↔ Best q free b
  -- no other booking is the best of all choices
  pub unique : (d : Booking) → Best q free d → d ≡ b
