-- A job's chunks, one by one: when they can be worked out, and what the loops over them need of each.
use Rattle.std.specs.Prelude.{◌≡◌, refl, List, [], ◌∷◌, ℕ, ◌+◌, ◌*◌, ◌≤◌, ◌<◌, ◌⊎◌, max, length, get_or, drop}
use Rattle.std.proofs.Math.Path.{ap}
use Rattle.std.proofs.Common.{◌∙◌, mul-le-mul_left, arith, length-take, inl, inr}
use Rattle.std.proofs.Math.Numerals.{add-one}
use Rattle.std.proofs.Math.ListN.{drop_of_length-le}
use Rattle.std.proofs.Math.Seq.{drop-cons, get_or-take}
use Rattle.lists.specs.Laws.{All, all_front}
use Rattle.limits.specs.declared.FarmCosts.{FarmCosts}
use Rattle.shares.specs.Model.{chunk_finish, finish}
use Rattle.limits.specs.Model.{CostsWithin}
use Rattle.booking.specs.declared.Booking.{Booking}
use Rattle.booking.specs.Best.{chosen, units}
use Rattle.walk.specs.declared.Job.{Job}
use Rattle.walk.specs.declared.Chunk.{Chunk}
use Rattle.walk.specs.declared.ChunkTerms.{ChunkTerms}
use Rattle.walk.specs.Returning.{back_last}
use Rattle.walk.specs.Model.{greatest, costs_for, compute_end, own_costs, chunk_terms, chunk_on, chunk_at, chunks_from, lines_of, latest, finish_of}

-- ---- Sums

-- 2^32 - 1 units at 1,010,000 ticks each, the most that a unit is computed and brought back in
product_small : (u e : ℕ) → u < 4294967296 → e ≤ 1010000 → u * e ≤ 4337916967950000
product_small u e h k =
    let p : u * e ≤ u * 1010000 = mul-le-mul_left u k in
    omega arith

-- The finish of a chunk of fewer than 2^32 units that is sent within the time range does not wrap.
pub finish_small : (c : FarmCosts) (p t a : ℕ) → CostsWithin c → p ≤ 1_000_000 → t ≤ greatest → a < 4294967296 → chunk_finish (costs_for c p) t a < 18446744073709551616
finish_small c p t a w l h k =
    omega (arith, product_small a c.send k (omega (arith, w.send.1)), product_small a (p + c.returning) k (omega (arith, w.returning)), w.linksetup, w.nodesetup)

-- Nor does its end of computing, which is not after the finish.
pub computed_small : (c : FarmCosts) (p t a : ℕ) → CostsWithin c → p ≤ 1_000_000 → t ≤ greatest → a < 4294967296 → compute_end c p t a < 18446744073709551616
computed_small c p t a w l h k = omega (arith, finish_small c p t a w l h k, back_last c p t a)

-- ---- The latest finish

-- It is not before the time that it is where there is no chunk.
pub latest_after : (t : ℕ) (xs : List Chunk) → t ≤ latest t xs
unfolding latest
latest_after t [] = omega arith
latest_after t (x ∷ xs) = omega (arith, latest_after t xs)

-- Behind a finish that is not before either, that time may be another.
latest_from_lem : (f s t : ℕ) (xs : List Chunk) → s ≤ f → t ≤ f → max f (latest s xs) ≡ max f (latest t xs)
unfolding latest
latest_from_lem f s t [] h k = omega arith
latest_from_lem f s t (x ∷ xs) h k = omega (arith, latest_from_lem f s t xs h k)

-- The first chunk's finish or the latest of the others, which are sent behind it.
latest_cons : (w : ChunkTerms) (t k a : ℕ) (xs : List Chunk)
    → latest t (chunk_on w t k a ∷ xs) ≡ max (chunk_on w t k a).finish (latest (chunk_on w t k a).sent xs)
unfolding latest
latest_cons w t k a xs = latest_from_lem (chunk_on w t k a).finish t (chunk_on w t k a).sent xs (omega arith) (omega arith)

-- The latest finish of the chunks of shares, each on a node, is the share arithmetic's finish of them.
pub latest_shares : (w : ChunkTerms) (t : ℕ) (ks xs : List ℕ) → length ks ≡ length xs
    → latest t (chunks_from w t ks xs) ≡ finish (costs_for w.costs w.compute) t xs
unfolding chunks_from latest finish
latest_shares w t [] [] e = refl
latest_shares w t [] (a ∷ xs) e = absurd (omega arith)
latest_shares w t (k ∷ ks) [] e = absurd (omega arith)
latest_shares w t (k ∷ ks) (a ∷ xs) e =
    let x = chunk_on w t k a in
    omega (arith, latest_cons w t k a (chunks_from w x.sent ks xs), latest_shares w x.sent ks xs (omega arith))

-- **A job's finish** is that of its shares from its start on, where it has a node for each share; both are the start
-- where it has none.
pub finish_shares : (c : FarmCosts) (j : Job) → length (chosen j.booking) ≡ length (units j.booking)
    → finish_of c j ≡ finish (own_costs c j) j.booking.start (units j.booking)
finish_shares c j e = latest_shares (chunk_terms c j) j.booking.start (chosen j.booking) (units j.booking) e

-- ---- Chunks left, as a loop over nodes and shares takes them

-- The first of them, and those behind it.
pub chunks_next : (w : ChunkTerms) (t : ℕ) (x : Chunk) (k a : ℕ) (ks xs ks' xs' : List ℕ) → x ≡ chunk_on w t k a → (ks ≡ k ∷ ks') × (xs ≡ a ∷ xs')
    → chunks_from w t ks xs ≡ x ∷ chunks_from w x.sent ks' xs'
unfolding chunks_from
chunks_next w t x k a ks xs ks' xs' is e = rw (is, e.0, e.1)

-- The latest finish is its own or theirs.
pub finish_next : (w : ChunkTerms) (t : ℕ) (x : Chunk) (k a : ℕ) (ks xs ks' xs' : List ℕ) → x ≡ chunk_on w t k a → (ks ≡ k ∷ ks') × (xs ≡ a ∷ xs')
    → (latest t (chunks_from w t ks xs) ≡ max x.finish (latest x.sent (chunks_from w x.sent ks' xs'))) × (x.sent ≤ x.finish)
finish_next w t x k a ks xs ks' xs' is e =
    rw is (ap (latest t) (chunks_next w t (chunk_on w t k a) k a ks xs ks' xs' refl e) ∙ latest_cons w t k a (chunks_from w (chunk_on w t k a).sent ks' xs'), omega arith)

-- There is none without a node, or without a share.
pub chunks_done : (w : ChunkTerms) (t : ℕ) (ks xs : List ℕ) → (length ks ≡ 0) ⊎ (length xs ≡ 0) → chunks_from w t ks xs ≡ []
unfolding chunks_from
chunks_done w t [] [] e = refl
chunks_done w t [] (a ∷ xs) e = refl
chunks_done w t (k ∷ ks) [] e = refl
chunks_done w t (k ∷ ks) (a ∷ xs) (inl e) = absurd (omega arith)
chunks_done w t (k ∷ ks) (a ∷ xs) (inr e) = absurd (omega arith)

-- ---- A job's chunks

-- a job whose chunks can be worked out: a share for each node, nodes that there are, costs within their limits, and a finish within the time range
pub record Sendable (c : FarmCosts) (j : Job) : Type 0 where
  pub few : j.booking.count ≤ 64
  pub nodes : length (chosen j.booking) ≡ j.booking.count
  pub shares : length (units j.booking) ≡ j.booking.count
  pub known : All (λ (k : ℕ). (1 ≤ k) × (k ≤ 64)) (chosen j.booking)
  pub ends : finish_of c j ≤ greatest
  pub costs : CostsWithin c
  pub compute : j.compute ≤ 1_000_000

-- the lines of a booking from chunk i on, the send before it having ended at t
abbrev pub lines_from : ChunkTerms → Booking → ℕ → ℕ → List Chunk
lines_from w b i t = chunks_from w t (drop i (chosen b)) (drop i (units b))

-- their latest finish
abbrev pub latest_from : ChunkTerms → Booking → ℕ → ℕ → ℕ
latest_from w b i t = latest t (lines_from w b i t)

-- What holds of a chunk wherever its send begins, and on whatever node, holds of each line of a job.
pub lines_each : (P : Chunk → Type 0) (Q : ℕ → Type 0) (c : FarmCosts) (j : Job)
    → ((t k a : ℕ) → Q a → P (chunk_on (chunk_terms c j) t k a)) → All Q (units j.booking)
    → All P (lines_of c j)
unfolding chunks_from
lines_each P Q c j f = go j.booking.start (chosen j.booking) (units j.booking)
  where
    go : (t : ℕ) (ks xs : List ℕ) → All Q xs → All P (chunks_from (chunk_terms c j) t ks xs)
    go t [] [] h = tt
    go t [] (a ∷ xs) h = tt
    go t (k ∷ ks) [] h = tt
    go t (k ∷ ks) (a ∷ xs) h = (f t k a h.0, go (chunk_on (chunk_terms c j) t k a).sent ks xs h.1)

-- A booking with a node and a share for each chunk, of which chunk i comes next, the send before it having ended at t.
module _ (w : ChunkTerms) (b : Booking) (n : length (chosen b) ≡ b.count) (u : length (units b) ≡ b.count) (i t : ℕ) where
  -- None is left at the end.
  pub lines_none : b.count ≤ i → lines_from w b i t ≡ []
  unfolding chunks_from
  lines_none h = rw (drop_of_length-le (chosen b) {i = i} (omega arith), drop_of_length-le (units b) {i = i} (omega arith))

  pub latest_none : b.count ≤ i → latest_from w b i t ≡ t
  unfolding latest
  latest_none h = ap (latest t) (lines_none h)

  module _ (h : i < b.count) where
    -- The next chunk is followed by those after it.
    pub lines_next : lines_from w b i t ≡ chunk_at w b i t ∷ lines_from w b (i + 1) (chunk_at w b i t).sent
    unfolding chunks_from
    lines_next =
        rw (drop-cons (chosen b) i 0 (omega arith), drop-cons (units b) i 0 (omega arith), add-one i, get_or-take b.count b.nodes i 0 h, get_or-take b.count b.shares i 0 h)

    -- The latest finish is its own or theirs.
    pub latest_next : latest_from w b i t
        ≡ max (chunk_at w b i t).finish (latest_from w b (i + 1) (chunk_at w b i t).sent)
    latest_next =
        ap (latest t) lines_next
        ∙ latest_cons w t (get_or b.nodes i 0) (get_or b.shares i 0) (lines_from w b (i + 1) (chunk_at w b i t).sent)

    -- Where they finish within the time range, so does it, and so do those after it.
    pub ends_next : latest_from w b i t ≤ greatest
        → ((chunk_at w b i t).finish ≤ greatest) × (latest_from w b (i + 1) (chunk_at w b i t).sent ≤ greatest)
    ends_next e = let m = latest_next in (omega arith, omega arith)

-- A job whose chunks can be worked out, and what its chunks have in common.
module _ (c : FarmCosts) (j : Job) (s : Sendable c j) where
  -- The next chunk's node is one of 64.
  pub node_known : (i : ℕ) → i < j.booking.count
      → (1 ≤ get_or j.booking.nodes i 0) × (get_or j.booking.nodes i 0 ≤ 64)
  node_known i h =
      let b = j.booking in
      let many : b.count ≤ length b.nodes = omega (arith, s.nodes, length-take b.count b.nodes) in
      all_front 0 (λ (k : ℕ). (1 ≤ k) × (k ≤ 64)) b.nodes b.count i h many s.known

  module _ (w : ChunkTerms) (e : w ≡ chunk_terms c j) where
    -- It can be worked out.
    pub chunk_fits : (i t : ℕ) → latest_from w j.booking i t ≤ greatest
        → CostsWithin w.costs × (w.compute ≤ 1_000_000) × (t ≤ greatest)
    chunk_fits i t l = let m = latest_after t (lines_from w j.booking i t) in rw e (s.costs, s.compute, omega arith)

    -- All of them finish within the time range.
    pub ends_all : latest_from w j.booking 0 j.booking.start ≤ greatest
    ends_all = rw e s.ends
