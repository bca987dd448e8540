-- One job's booking, in the words and the order of document 01, "The deadline walk", steps 1 to 5.
-- Everything here is a definition; nothing is assumed.
use Rattle.std.specs.Prelude.{ℕ, suc, ◌+◌, ◌-◌, ◌*◌, ◌/◌, ◌%◌, ◌<◌, max, List, [], ◌∷◌, ◌++◌, map, cond, leb, length, take, replicate, Option, Some, None}
use Rattle.shares.specs.Model.{capacity, greedy, earliest, answers}
use Rattle.keys.specs.declared.Key.{Key}
use Rattle.keys.specs.Model.{sort_keys}
use Rattle.booking.specs.declared.Request.{Request}
use Rattle.booking.specs.declared.Found.{Found}
use Rattle.booking.specs.declared.Booking.{Booking}

-- ---- The nodes, those with the smallest free time first, equal ones by number

-- free times t₀, t₁, … of the nodes i + 1, i + 2, …
unfoldable pub node_keys : ℕ → List ℕ → List Key
node_keys i [] = []
node_keys i (t ∷ ts) = record { time = t; number = suc i; place = i } ∷ node_keys (suc i) ts

-- the first n nodes in that order
unfoldable pub ranked : ℕ → List ℕ → List Key
ranked n free = sort_keys (node_keys 0 (take n free))

-- a node in that order as one number, its free time and its place, which compares like the two
abbrev pub packed : Key → ℕ
packed x = x.time * 64 + x.place

-- the node that a number stands for
abbrev pub unpacked : ℕ → Key
unpacked x = record { time = x / 64; number = x % 64 + 1; place = x % 64 }

-- the nodes that the first n numbers stand for
abbrev pub nodes_in : ℕ → List ℕ → List Key
nodes_in n order = map unpacked (take n order)

-- a free time whose number fits 64 bits, whatever the place
abbrev pub Packs : ℕ → Type 0
Packs t = t * 64 + 63 < 18446744073709551616

-- ---- The earliest start

-- when a node can start: not before the time allowed, nor before it is free
abbrev pub start_at : Request → Key → ℕ
start_at q x = max q.from x.time

-- k nodes have been passed; the first further count of nodes that ends the job by its deadline, at the start when so many are free
unfoldable pub search : Request → ℕ → List Key → Found
search q k [] = record { count = 0; start = 0 }
search q k (x ∷ xs) =
    cond (leb q.size (capacity q.costs (suc k) (q.deadline - start_at q x)))
    (record { count = suc k; start = start_at q x })
    (search q (suc k) xs)

-- what is found on these nodes, if anything: a count of 0 is none
abbrev pub found_in : Request → List Key → Option Found
found_in q ks = cond (leb 1 (search q 0 ks).count) (Some (search q 0 ks)) None

-- ---- The booking

-- lists of nodes and of shares in arrays of 64, with their count
unfoldable pub booking_of : ℕ → List ℕ → List ℕ → Booking
booking_of s ks xs = record {
  start = s;
  count = length ks;
  nodes = ks ++ replicate (64 - length ks) 0;
  shares = xs ++ replicate (64 - length xs) 0;
}

-- on k nodes from s: the earliest finish, the largest shares with it, and the nodes first in order
unfoldable pub booked_at : Request → List Key → Found → Booking
booked_at q ks f =
    booking_of f.start (map (λ (x : Key). x.number) (take f.count ks))
    (greedy q.costs f.count (earliest q.costs f.count q.size (q.deadline - f.start)))

-- the booking; a count of 0 where there is none, and where the share arithmetic does not answer
unfoldable pub book_of : Request → List ℕ → Booking
book_of q free =
    cond (answers q.costs q.nodes)
    (booked_at q (ranked q.nodes free) (search q 0 (ranked q.nodes free)))
    (booking_of 0 [] [])
