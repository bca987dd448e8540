-- What the functions answer, where they answer: `answers c n` says that there is a send cost and that n is at most 64.
use Rattle.std.specs.Prelude.{◌≡◌, ℕ, zero, suc, ◌+◌, ◌-◌, ◌<◌, ◌≤◌, Bool, true, false, ◌&&◌, Some, None, List, [], ◌∷◌, ◌++◌, length, take, drop, replicate, nat_le, slice_set, refl}
use Rattle.std.proofs.Common.{ap, ◌∙◌, arith, add-one, sub-one, le-leb, leb-true, append_assoc, append-nil, take-append-drop, length-take-le, take-suc-set, drop-set-lt, drop-drop}
use Rattle.std.proofs.lemmas.Bool.{false≢true}
use Rattle.shares.specs.declared.Costs.{Costs}
use Rattle.shares.specs.Model.{first, left, left_after, capacity, cut, greedy, fewest, earliest, answers, fewest_of, earliest_of, stored, shares_of}
use Rattle.shares.specs.Capacity.{capacity_snoc, first_none, none_fits}
use Rattle.shares.specs.Least.{IsFewest, fewest_is, fewest_nodes, fewest_none, earliest_is, earliest_short}

-- Costs and a count that are answered for.
pub answered : (c : Costs) (n : ℕ) → 1 ≤ c.send → n ≤ 64 → answers c n ≡ true
answered c n h k = rw (le-leb 1 c.send h, le-leb n 64 k)

pub both_true : (a b : Bool) → (a && b) ≡ true → (a ≡ true) × (b ≡ true)
both_true true true e = (refl, refl)
both_true true false e = absurd (false≢true e)
both_true false b e = absurd (false≢true e)

pub answered_is : (c : Costs) (n : ℕ) → answers c n ≡ true → (1 ≤ c.send) × (n ≤ 64)
answered_is c n e =
    let t = both_true (nat_le 1 c.send) (nat_le n 64) e in
    (leb-true 1 c.send t.0, leb-true n 64 t.1)

-- ---- The fewest nodes

pub fewest_answer : (c : Costs) (n z w : ℕ) → answers c n ≡ true → fewest_of c n z w ≡ fewest c n z w
unfolding fewest_of
fewest_answer c n z w e = rw e

pub fewest_refused : (c : Costs) (n z w : ℕ) → answers c n ≡ false → fewest_of c n z w ≡ None
unfolding fewest_of
fewest_refused c n z w e = rw e

-- Nothing needs no node.
pub fewest_nothing : (c : Costs) (n w : ℕ) → answers c n ≡ true → fewest_of c n 0 w ≡ Some 0
fewest_nothing c n w e = fewest_answer c n 0 w e ∙ fewest_is c (answered_is c n e).0 n 0 w 0 (record { enough = omega arith; least = λ j h. omega arith }) (omega arith)

-- k nodes leave a rest, and one more holds it.
pub fewest_found : (c : Costs) (n z w k rest : ℕ) → answers c n ≡ true → k < n → 1 ≤ rest → rest + capacity c k w ≡ z
    → rest ≤ first c (left_after c k w) → fewest_of c n z w ≡ Some (k + 1)
fewest_found c n z w k rest e h some adds fits =
    let s : 1 ≤ c.send = (answered_is c n e).0 in
    let i : IsFewest c z w (suc k) = fewest_nodes c s k z w (omega arith) (rw (← add-one k) (omega (arith, capacity_snoc c k w))) in
    rw (fewest_answer c n z w e, add-one k) (fewest_is c s n z w (suc k) i h)

-- All nodes leave a rest.
pub fewest_never : (c : Costs) (n z w rest : ℕ) → answers c n ≡ true → 1 ≤ rest → rest + capacity c n w ≡ z → fewest_of c n z w ≡ None
fewest_never c n z w rest e some adds = fewest_answer c n z w e ∙ fewest_none c (answered_is c n e).0 n z w (omega arith)

-- ---- The earliest finish

pub earliest_answer : (c : Costs) (n z w : ℕ) → answers c n ≡ true → earliest_of c n z w ≡ earliest c n z w
unfolding earliest_of
earliest_answer c n z w e = rw e

pub earliest_refused : (c : Costs) (n z w : ℕ) → answers c n ≡ false → earliest_of c n z w ≡ w
unfolding earliest_of
earliest_refused c n z w e = rw e

-- Nothing needs no ticks.
pub earliest_nothing : (c : Costs) (n z w : ℕ) → answers c n ≡ true → z ≡ 0 → earliest_of c n z w ≡ 0
earliest_nothing c n z w e q =
    earliest_answer c n z w e ∙ earliest_is c (answered_is c n e).0 n z w 0 (record { enough = omega arith; least = λ u h. omega arith }) (omega arith)

-- A unit that takes more ticks than the window has is held by no nodes.
pub earliest_beyond : (c : Costs) (n z w : ℕ) → answers c n ≡ true → 1 ≤ z → w < c.send + c.compute → earliest_of c n z w ≡ w
earliest_beyond c n z w e h k =
    let s : 1 ≤ c.send = (answered_is c n e).0 in
    earliest_answer c n z w e ∙ earliest_short c s n z w (omega (arith, none_fits c s n w w (first_none c w (omega arith)) (omega arith)))

-- ---- The shares

pub shares_answer : (c : Costs) (n w : ℕ) → answers c n ≡ true → shares_of c n w ≡ stored (greedy c n w)
unfolding shares_of
shares_answer c n w e = rw e

pub shares_refused : (c : Costs) (n w : ℕ) → answers c n ≡ false → shares_of c n w ≡ stored []
unfolding shares_of
shares_refused c n w e = rw e

-- A list at the front of an array of 64 that is 0 behind it.
pub stored_front : (xs ys : List ℕ) (k : ℕ) → length ys ≡ 64 → k ≤ 64 → xs ≡ take k ys → drop k ys ≡ replicate (64 - k) 0
    → stored xs ≡ record { units = ys; count = k }
unfolding stored
stored_front xs ys k l h q d =
    let n : length xs ≡ k = ap length q ∙ length-take-le k ys (omega arith) in
    rw (n, ← d, q, take-append-drop)

-- One more share at its end.
pub stored_more : (ys : List ℕ) (k a : ℕ) → length ys ≡ 64 → k < 64 → drop k ys ≡ replicate (64 - k) 0 → drop (k + 1) (slice_set ys k a) ≡ replicate (64 - (k + 1)) 0
stored_more ys k a l h d =
    let e : 64 - k ≡ suc (64 - (k + 1)) = omega arith in
    rw (drop-set-lt (k + 1) ys k a (omega arith), ← drop-drop 1 k ys, d, e)

uncut : (a : ℕ) → 1 ≤ a → (xs : List ℕ) → cut a xs ≡ a ∷ xs
unfolding cut
uncut zero h xs = absurd (omega arith)
uncut (suc a) h xs = refl

-- A greedy list has a next share, or ends.
pub greedy_next : (c : Costs) (n w : ℕ) → 1 ≤ n → 1 ≤ first c w → greedy c n w ≡ first c w ∷ greedy c (n - 1) (left c w (first c w))
unfolding greedy
greedy_next c zero w h k = absurd (omega arith)
greedy_next c (suc n) w h k = rw (sub-one (suc n)) (uncut (first c w) k _)

pub greedy_stops : (c : Costs) (n w : ℕ) → first c w ≡ 0 → greedy c n w ≡ []
unfolding greedy cut
greedy_stops c zero w e = refl
greedy_stops c (suc n) w e = rw e

pub greedy_no_node : (c : Costs) (n w : ℕ) → n ≡ 0 → greedy c n w ≡ []
unfolding greedy
greedy_no_node c n w e = rw e

-- One more share at the end of those that are stored.
pub greedy_more : (c : Costs) (n w k v : ℕ) (ys : List ℕ) → k < n → k < length ys → 1 ≤ first c v → greedy c n w ≡ take k ys ++ greedy c (n - k) v
    → greedy c n w ≡ take (k + 1) (slice_set ys k (first c v)) ++ greedy c (n - (k + 1)) (left c v (first c v))
greedy_more c n w k v ys h l some q =
    let e : n - (k + 1) ≡ n - k - 1 = omega arith in
    rw (e, add-one k, take-suc-set ys k (first c v) l, append_assoc, ← greedy_next c (n - k) v (omega arith) some) q

-- Shares to which the greedy list adds nothing are stored as they are.
pub greedy_whole : (c : Costs) (n w k m v : ℕ) (ys : List ℕ) → answers c n ≡ true → length ys ≡ 64 → k ≤ 64 → drop k ys ≡ replicate (64 - k) 0
    → greedy c n w ≡ take k ys ++ greedy c m v → greedy c m v ≡ [] → shares_of c n w ≡ record { units = ys; count = k }
greedy_whole c n w k m v ys e l h d q stop =
    shares_answer c n w e ∙ stored_front (greedy c n w) ys k l h (q ∙ ap (λ (x : List ℕ). take k ys ++ x) stop ∙ append-nil (take k ys)) d
