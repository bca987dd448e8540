-- Demand 2 on one booking: it is the best of all choices, or there is no choice at all; and it is the only one.
use Rattle.std.specs.Prelude.{◌≡◌, refl, ◌⊎◌, true, cond, take, replicate}
use Rattle.std.proofs.Math.Path.{ap, sym}
use Rattle.std.proofs.Common.{subst, subst₂, ◌∙◌, inl, inr, ⊎_elim, add-zero, take_at}
use mathlib.Core.List.{List, [], ◌∷◌, map}
use Prim.Native.Nat.{ℕ, zero, suc, ◌+◌, ◌-◌, ◌≤◌, ◌<◌}
use Rattle.std.proofs.Math.Decide.{dec_le, dec_lt}
use native.Mathlib.Omega.{arith}
use Rattle.std.proofs.Math.ListN.{length, length-map}
use Rattle.std.proofs.Math.Seq.{length-take-le}
use Rattle.lists.specs.Laws.{all_map, all_both, all_image, all_take, pairs_take, pairs_image}
use Rattle.shares.specs.Model.{sum, finish, capacity, greedy, earliest, answers}
use Rattle.shares.specs.Chunks.{finish_shift}
use Rattle.shares.specs.Capacity.{longer, at_most_window}
use Rattle.shares.specs.Optimal.{optimal}
use Rattle.shares.specs.Least.{IsFewest, IsEarliest, fewest_nodes, earliest_least, earliest_within}
use Rattle.shares.specs.Least
use Rattle.shares.specs.Answers.{answered_is}
use Rattle.keys.specs.declared.Key.{Key}
use Rattle.booking.specs.declared.Request.{Request}
use Rattle.booking.specs.declared.Found.{Found}
use Rattle.booking.specs.declared.Booking.{Booking}
use Rattle.booking.specs.Model.{start_at, ranked, search, booking_of, booked_at, book_of}
use Rattle.booking.specs.Search.{key_at, Enough, IsFirst, IsNone, search_is}
use Rattle.booking.specs.Best.{free_at, Known, Choice, Before, BestChoice, chosen, units, Feasible, Best, NoChoice, IsBooking}
use Rattle.booking.specs.Only.{only}
use Rattle.booking.specs.Rank.{IsKey, IsRank, ranked_is}
use Rattle.booking.specs.NoneEarlier.{sorted_early, no_more, free_by, before_all, first_before, times_grow}

-- a share list of some units has a first share
pub some_share : (xs : List ℕ) → 1 ≤ sum xs → 1 ≤ length xs
unfolding sum
some_share [] h = absurd (omega arith)
some_share (x ∷ xs) h = omega arith

-- what is asked of the figures: a send cost, nodes with a free time each, and a unit at least
module _ (q : Request) (free : List ℕ) (sends : 1 ≤ q.costs.send) (held : q.nodes ≤ length free) (some : 1 ≤ q.size) where
  rank : List Key
  rank = ranked q.nodes free

  is : IsRank q.nodes free rank
  unfolding rank
  is = ranked_is q.nodes free held

  -- Where a choice has j + 1 nodes, that many suffice at the start when so many are free, which is no later.
  choice_enough : (s j : ℕ) (ks xs : List ℕ) → Choice q free s ks xs → length xs ≡ suc j
      → (j < length rank) × Enough q j (key_at rank j) × (start_at q (key_at rank j) ≤ s)
  choice_enough s j ks xs h l =
      let n : length ks ≡ suc j = h.paired ∙ l in
      let t : (key_at rank j).time ≤ s = free_by q.nodes free rank is s j ks h.known h.idle h.differ n in
      let b : start_at q (key_at rank j) ≤ s = omega (arith, h.after) in
      let most : sum xs ≤ capacity q.costs (suc j) (q.deadline - s) = optimal q.costs sends (suc j) s q.deadline xs (omega arith) h.ends in
      let more = longer q.costs sends (suc j) {w = q.deadline - s} {v = q.deadline - start_at q (key_at rank j)} (omega arith) in
      (omega (arith, no_more q.nodes free rank is ks h.known h.differ, is.long), omega (arith, h.all), b)

  -- a choice has a node
  choice_some : (s : ℕ) (ks xs : List ℕ) → Choice q free s ks xs → 1 ≤ length xs
  choice_some s ks xs h = some_share xs (omega (arith, h.all))

  -- Where the search finds no count, there is no choice.
  no_choice : (f : Found) → IsNone q rank f → NoChoice q free
  no_choice f n s ks xs h =
      let one = choice_some s ks xs h in
      let e = choice_enough s (length xs - 1) ks xs h (omega arith) in
      n.short (length xs - 1) e.0 e.1

  module _ (k : ℕ) (f : Found) (i : IsFirst q rank k f) where
    s₀ : ℕ
    s₀ = start_at q (key_at rank k)

    -- a choice starts no earlier, and has no fewer nodes
    choice_later : (s : ℕ) (ks xs : List ℕ) → Choice q free s ks xs → (s₀ ≤ s) × (suc k ≤ length xs)
    unfolding s₀
    choice_later s ks xs h = go (length xs - 1) (omega (arith, choice_some s ks xs h))
      where
        go : (j : ℕ) → length xs ≡ suc j → (s₀ ≤ s) × (suc k ≤ length xs)
        go j l =
            let e = choice_enough s j ks xs h l in
            elim (dec_le k j) [
              | yes a ↦ (omega (arith, e.2, times_grow q.nodes free rank is k j a e.0), omega arith)
              | no a ↦ absurd (i.before j (omega arith) e.1)
            ]

    -- k + 1 is the fewest nodes in the window from that start
    few : IsFewest q.costs q.size (q.deadline - s₀) (suc k)
    unfolding s₀ capacity
    few = fewest_nodes q.costs sends k q.size (q.deadline - s₀) (go k refl) i.enough
      where
        go : (j : ℕ) → k ≡ j → capacity q.costs j (q.deadline - s₀) < q.size
        go zero e = omega arith
        go (suc j) e =
            let short : capacity q.costs (suc j) (q.deadline - start_at q (key_at rank j)) < q.size =
            elim (dec_lt (capacity q.costs (suc j) (q.deadline - start_at q (key_at rank j))) q.size) [ yes a ↦ a | no a ↦ absurd (i.before j (omega arith) (omega arith)) ] in
            let grow : (key_at rank j).time ≤ (key_at rank k).time = times_grow q.nodes free rank is j k (omega arith) i.within in
            omega (arith, longer q.costs sends (suc j) {w = q.deadline - s₀} {v = q.deadline - start_at q (key_at rank j)} (omega arith))

    v₀ : ℕ
    v₀ = earliest q.costs (suc k) q.size (q.deadline - s₀)

    soon : IsEarliest q.costs (suc k) q.size v₀
    unfolding v₀
    soon = earliest_least q.costs sends (suc k) q.size (q.deadline - s₀) few.enough

    xs₀ : List ℕ
    xs₀ = greedy q.costs (suc k) v₀

    ks₀ : List ℕ
    ks₀ = map (λ (x : Key). x.number) (take (suc k) rank)

    shares₀ : Least.Best q.costs (suc k) q.size v₀ xs₀
    unfolding xs₀
    shares₀ = Least.best q.costs sends (suc k) q.size (q.deadline - s₀) v₀ few soon

    -- the finish shifts with the start
    ends₀ : (ys : List ℕ) → finish q.costs s₀ ys ≡ s₀ + finish q.costs 0 ys
    ends₀ ys = subst (λ (t : ℕ). finish q.costs t ys ≡ s₀ + finish q.costs 0 ys) (add-zero s₀) (finish_shift q.costs s₀ 0 ys)

    in_time : s₀ + v₀ ≤ q.deadline
    unfolding v₀
    in_time = omega (arith, few.enough, at_most_window q.costs sends (suc k) (q.deadline - s₀), earliest_within q.costs sends (suc k) q.size (q.deadline - s₀))

    length₀ : length ks₀ ≡ suc k
    unfolding ks₀
    length₀ = length-map (take (suc k) rank) (λ (x : Key). x.number) ∙ length-take-le (suc k) rank i.within

    -- The booking is a choice.
    choice₀ : Choice q free s₀ ks₀ xs₀
    unfolding ks₀ s₀
    choice₀ = record {
      after = omega arith;
      known = all_image (Known q) (λ (x : Key). x.number) (take (suc k) rank) (all_map (λ x h. (h.0, h.1)) (take (suc k) rank) (all_take (IsKey free 0 q.nodes) (suc k) rank is.keys));
      idle = all_image (λ (m : ℕ). free_at free m ≤ s₀) (λ (x : Key). x.number) (take (suc k) rank)
          (all_both (λ x h t. omega (arith, ap (λ (y : Key). y.time) h.2)) (take (suc k) rank)
          (all_take (IsKey free 0 q.nodes) (suc k) rank is.keys)
          (sorted_early rank k is.sorted i.within));
      differ = pairs_image (λ (a b : ℕ). a ≡ b → ⊥) (λ (x : Key). x.number) (take (suc k) rank) (pairs_take (λ (x y : Key). x.number ≡ y.number → ⊥) (suc k) rank is.differ);
      paired = length₀ ∙ sym shares₀.count;
      each = shares₀.each;
      all = shares₀.all;
      ends = omega (arith, ends₀ xs₀, shares₀.ends, in_time);
    }

    -- The booking is the best of all choices.
    best₀ : BestChoice q free s₀ ks₀ xs₀
    unfolding ks₀
    best₀ = record {
      choice = choice₀;
      earliest = λ t ls ys h. (choice_later t ls ys h).0;
      fewest = λ t ls ys h. omega (arith, (choice_later t ls ys h).1, shares₀.count);
      soonest = sooner;
      largest = λ ls ys h l e. shares₀.largest ys (l ∙ shares₀.count) h.each (omega (arith, ends₀ ys, ends₀ xs₀, shares₀.ends));
      order = pairs_image (Before free) (λ (x : Key). x.number) (take (suc k) rank)
          (pairs_take (λ (x y : Key). Before free x.number y.number) (suc k) rank (before_all q.nodes free rank is));
      first = λ m h out. first_before q.nodes free rank is (suc k) m h.0 h.1 out;
    }
      where
        sooner : (ls ys : List ℕ) → Choice q free s₀ ls ys → length ys ≡ length xs₀ → finish q.costs s₀ xs₀ ≤ finish q.costs s₀ ys
        sooner ls ys h l =
            let most : sum ys ≤ capacity q.costs (suc k) (finish q.costs s₀ ys - s₀) =
            optimal q.costs sends (suc k) s₀ (finish q.costs s₀ ys) ys (omega (arith, shares₀.count)) (omega arith) in
            let least : v₀ ≤ finish q.costs s₀ ys - s₀ = soon.least (finish q.costs s₀ ys - s₀) (omega (arith, h.all)) in
            omega (arith, ends₀ ys, ends₀ xs₀, shares₀.ends)

-- ---- Arrays and lists

pub chosen_of : (s : ℕ) (ks xs : List ℕ) → chosen (booking_of s ks xs) ≡ ks
unfolding booking_of
chosen_of s ks xs = take_at ks (replicate (64 - length ks) 0) (length ks) refl

pub units_of : (s : ℕ) (ks xs : List ℕ) → length ks ≡ length xs → units (booking_of s ks xs) ≡ xs
unfolding booking_of
units_of s ks xs l = take_at xs (replicate (64 - length xs) 0) (length ks) (sym l)

best_of : (q : Request) (free : List ℕ) (s : ℕ) (ks xs : List ℕ) → BestChoice q free s ks xs → Best q free (booking_of s ks xs)
unfolding booking_of
best_of q free s ks xs b =
    let l = b.choice.paired in
    record {
      best = subst₂ (BestChoice q free s) (sym (chosen_of s ks xs)) (sym (units_of s ks xs l)) b;
      blank = sym (ap (λ (x : List ℕ). booking_of s x (units (booking_of s ks xs))) (chosen_of s ks xs) ∙ ap (booking_of s ks) (units_of s ks xs l));
    }

-- **Demand 2 on one booking.** There is none exactly when no permitted start, no different nodes free at it and no division into whole units
-- end by the deadline; otherwise it is the best of all of these.
pub book_is : (q : Request) (free : List ℕ) → answers q.costs q.nodes ≡ true → q.nodes ≤ length free → 1 ≤ q.size
    → ((book_of q free ≡ booking_of 0 [] []) × NoChoice q free) ⊎ Best q free (book_of q free)
unfolding book_of booked_at greedy rank s₀ v₀ ks₀ xs₀
book_is q free e held some = go (search q 0 (ranked q.nodes free)) (search_is q (ranked q.nodes free))
  where
    sends : 1 ≤ q.costs.send
    sends = (answered_is q.costs q.nodes e).0

    go : (f : Found) → IsNone q (ranked q.nodes free) f ⊎ ((k : ℕ) × IsFirst q (ranked q.nodes free) k f)
        → ((cond (answers q.costs q.nodes) (booked_at q (ranked q.nodes free) f) (booking_of 0 [] []) ≡ booking_of 0 [] []) × NoChoice q free)
        ⊎ Best q free (cond (answers q.costs q.nodes) (booked_at q (ranked q.nodes free) f) (booking_of 0 [] []))
    go f (inl n) = inl (rw (e, n.none), no_choice q free sends held some f n)
    go f (inr i) = inr (rw (e, i.1.count, i.1.start) (best_of q free _ _ _ (best₀ q free sends held some i.0 f i.1)))

-- What is booked is feasible.
pub book_feasible : (q : Request) (free : List ℕ) → answers q.costs q.nodes ≡ true → q.nodes ≤ length free → 1 ≤ q.size → ((book_of q free).count ≡ 0 → ⊥) → Feasible q free (book_of q free)
unfolding booking_of
book_feasible q free e held some n =
    ⊎_elim (λ x. absurd (n (ap (λ (y : Booking). y.count) x.0))) (λ x. record { choice = x.best.choice; blank = x.blank }) (book_is q free e held some)

-- ---- Exactly when

-- The best of all choices has a node.
pub best_some : (q : Request) (free : List ℕ) (b : Booking) → 1 ≤ q.size → Best q free b → 1 ≤ b.count
unfolding booking_of
best_some q free b some x =
    let k : b.count ≡ length (chosen b) = ap (λ (y : Booking). y.count) x.blank in
    omega (arith, x.best.choice.paired, some_share (units b) (omega (arith, x.best.choice.all)))

-- **Demand 2 on one booking, as equivalences.** There is none exactly when there is no choice; otherwise it is the best of all choices, and the only one.
pub book_iff : (q : Request) (free : List ℕ) → answers q.costs q.nodes ≡ true → q.nodes ≤ length free → 1 ≤ q.size → IsBooking q free (book_of q free)
unfolding booking_of
book_iff q free e held some = ⊎_elim none one (book_is q free e held some)
  where
    none : (book_of q free ≡ booking_of 0 [] []) × NoChoice q free → IsBooking q free (book_of q free)
    none x =
        let zero' : (book_of q free).count ≡ 0 = ap (λ (y : Booking). y.count) x.0 in
        record {
          fails = (λ h. x.1, λ h. zero');
          best = (λ h. absurd (omega arith), λ b. absurd (x.1 _ _ _ b.best.choice));
          unique = λ d b. absurd (x.1 _ _ _ b.best.choice);
        }

    one : Best q free (book_of q free) → IsBooking q free (book_of q free)
    one b =
        let h₁ : 1 ≤ (book_of q free).count = best_some q free (book_of q free) some b in
        record {
          fails = (λ h. absurd (omega arith), λ n. absurd (n _ _ _ b.best.choice));
          best = (λ h. b, λ h. h₁);
          unique = λ d p. only q free d (book_of q free) p b;
        }
