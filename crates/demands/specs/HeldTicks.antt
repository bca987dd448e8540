-- Bounds of the free times, and held ticks, which are within them.
use Rattle.std.specs.Prelude.{◌≡◌, refl, List, [], ◌∷◌, ◌++◌, map, Bool, true, false, cond, ℕ, zero, suc, ◌+◌, ◌*◌, ◌-◌, ◌≤◌, ◌<◌, eqb, length, get_or, set}
use Rattle.std.proofs.Common.{subst, ◌∙◌, arith, eqb-true, length-set, get_or-set_same, get_or-set_other}
use Rattle.std.proofs.lemmas.Bool.{eqb-false}
use Rattle.lists.specs.Laws.{All, all_map}
use Rattle.shares.specs.Model.{sum}
use Rattle.walk.specs.declared.FreeTimes.{FreeTimes}
use Rattle.walk.specs.declared.Chunk.{Chunk}
use Rattle.walk.specs.Chain.{Chain, Proper, after_length}
use Rattle.planner.specs.Model.{Span, after, afters, Between}
use Rattle.planner.specs.Clock.{holds, raised}
use Rattle.demands.specs.CallLists.{chunk_of, held_of}

-- ---- Bounds of the free times

all_set : (P : ℕ → Type 0) (xs : List ℕ) (i v : ℕ) → All P xs → P v → All P (set xs i v)
all_set P [] i v h k = tt
all_set P (x ∷ xs) zero v h k = (k, h.1)
all_set P (x ∷ xs) (suc i) v h k = (h.0, all_set P xs i v h.1 k)

-- Behind chunks that send and finish by g no free time is after g.
pub afters_within : (g : ℕ) (b : FreeTimes) (xs : List Chunk) → b.link ≤ g → All (λ (x : ℕ). x ≤ g) b.free → All (λ (x : Chunk). (x.sent ≤ g) × (x.finish ≤ g)) xs
    → ((afters b xs).link ≤ g) × All (λ (x : ℕ). x ≤ g) (afters b xs).free
unfolding afters
afters_within g b [] l h k = (l, h)
afters_within g b (x ∷ xs) l h k = afters_within g (after b x) xs k.0.0 (all_set (λ (y : ℕ). y ≤ g) b.free (x.node - 1) x.finish h k.0.1) k.1

-- ---- Held ticks within the free times

sum_set : (xs : List ℕ) (i v : ℕ) → i < length xs → sum (set xs i v) + get_or xs i 0 ≡ sum xs + v
unfolding sum
sum_set [] i v h = absurd (omega arith)
sum_set (x ∷ xs) zero v h = omega arith
sum_set (x ∷ xs) (suc i) v h = omega (arith, sum_set xs i v (omega arith))

-- A sum of figures within g is at most g for each.
pub sum_within : (g : ℕ) (xs : List ℕ) → All (λ (x : ℕ). x ≤ g) xs → sum xs ≤ length xs * g
unfolding sum
sum_within g [] h = omega arith
sum_within g (x ∷ xs) h = omega (arith, sum_within g xs h.1)

-- What a show's chunks hold is part of what all hold.
pub held_part : (s : ℕ) (xs : List Chunk) → held_of s xs ≤ sum (map holds xs)
unfolding held_of sum
held_part s [] = omega arith
held_part s (x ∷ xs) = go (eqb x.show s) (held_part s xs)
  where
    go : (b : Bool) → held_of s xs ≤ sum (map holds xs) → cond b (holds x + held_of s xs) (held_of s xs) ≤ holds x + sum (map holds xs)
    go true h = omega arith
    go false h = omega arith

-- What the chunks of two lists hold adds up.
pub held_append : (s : ℕ) (xs ys : List Chunk) → held_of s (xs ++ ys) ≡ held_of s xs + held_of s ys
unfolding held_of
held_append s [] ys = omega arith
held_append s (x ∷ xs) ys = go (eqb x.show s) (held_append s xs ys)
  where
    go : (b : Bool) → held_of s (xs ++ ys) ≡ held_of s xs + held_of s ys
        → cond b (holds x + held_of s (xs ++ ys)) (held_of s (xs ++ ys)) ≡ cond b (holds x + held_of s xs) (held_of s xs) + held_of s ys
    go true h = omega arith
    go false h = h

-- Each chunk of a chain moves its node's free time on by at least its span, and holds a part of that, so that all held ticks are within the sum of the free
-- times.
pub held_free : (b : FreeTimes) (xs : List Span) → length b.free ≡ 64 → All (Proper 64) xs → Chain b xs
    → sum (map holds (map chunk_of xs)) + sum b.free ≤ sum (afters b (map chunk_of xs)).free
unfolding sum afters
held_free b [] l p h = omega arith
held_free b (x ∷ xs) l p h =
    let k = x.chunk.node in
    let one : sum (set b.free (k - 1) x.chunk.finish) + get_or b.free (k - 1) 0 ≡ sum b.free + x.chunk.finish =
    sum_set b.free (k - 1) x.chunk.finish (omega (arith, p.0.node.0, p.0.node.1)) in
    let rest = held_free (after b x.chunk) xs (after_length b x.chunk ∙ l) p.1 h.1 in
    omega (arith, p.0.begins, p.0.sends, p.0.ends, h.0.1)

-- one chunk
raised_one : (s : ℕ) (hs : List ℕ) (x : Chunk) (xs : List Chunk) → 1 ≤ s → Between 1 x.show (length hs) → (b : Bool) → eqb x.show s ≡ b
    → get_or (raised (set hs (x.show - 1) (get_or hs (x.show - 1) 0 + holds x)) xs) (s - 1) 0 ≡ get_or (set hs (x.show - 1) (get_or hs (x.show - 1) 0 + holds x)) (s - 1) 0 + held_of s xs
    → get_or (raised (set hs (x.show - 1) (get_or hs (x.show - 1) 0 + holds x)) xs) (s - 1) 0 ≡ get_or hs (s - 1) 0 + cond b (holds x + held_of s xs) (held_of s xs)
raised_one s hs x xs h k true e rest =
    let i = x.show in
    let new = set hs (i - 1) (get_or hs (i - 1) 0 + holds x) in
    let same : get_or new (s - 1) 0 ≡ get_or hs (s - 1) 0 + holds x =
    subst (λ (n : ℕ). get_or new (n - 1) 0 ≡ get_or hs (n - 1) 0 + holds x) (eqb-true i s e)
    (get_or-set_same hs (i - 1) (get_or hs (i - 1) 0 + holds x) 0 (omega (arith, k.0, k.1))) in
    omega (arith, rest, same)
raised_one s hs x xs h k false e rest =
    let i = x.show in
    let new = set hs (i - 1) (get_or hs (i - 1) 0 + holds x) in
    let other : get_or new (s - 1) 0 ≡ get_or hs (s - 1) 0 =
    get_or-set_other hs (i - 1) (s - 1) (get_or hs (i - 1) 0 + holds x) 0 (λ q. eqb-false i s e (omega (arith, k.0))) in
    omega (arith, rest, other)

-- Each chunk raises its show's cell, so that the cell is raised by the sum over the show's chunks.
pub raised_held : (s : ℕ) (hs : List ℕ) (xs : List Chunk) → 1 ≤ s → All (λ (x : Chunk). Between 1 x.show (length hs)) xs
    → get_or (raised hs xs) (s - 1) 0 ≡ get_or hs (s - 1) 0 + held_of s xs
unfolding raised held_of
raised_held s hs [] h k = omega arith
raised_held s hs (x ∷ xs) h k =
    let i = x.show in
    let new = set hs (i - 1) (get_or hs (i - 1) 0 + holds x) in
    raised_one s hs x xs h k.0 (eqb i s) refl
    (raised_held s new xs h (all_map (λ y b. (b.0, omega (arith, b.1, length-set hs (i - 1) (get_or hs (i - 1) 0 + holds x)))) xs k.1))
