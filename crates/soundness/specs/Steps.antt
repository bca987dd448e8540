-- What the functions promise each other: what each turn of the loops keeps, and that no sum wraps.
use Rattle.std.specs.Prelude.{Option, None, Some, MatchOption, ℕ, max, ◌+◌, ◌*◌, ◌-◌, ◌≤◌, ◌<◌, ◌≡◌, ◌⊎◌, refl, List, [], ◌∷◌, ◌++◌, Bool, true, ◌&&◌, not, eqb, length, map, get_or, take, drop, set}
use Rattle.std.specs.List.{list_all, list_any}
use Rattle.std.proofs.Math.Path.{ap, sym}
use Rattle.std.proofs.Common.{◌∙◌, mul-le-mul_left, inr, ⊎_elim, subst, add-one, length-drop, take_all, take-suc, take-suc-set, length-take-le}
use Rattle.std.proofs.lemmas.List.{map-id}
use Rattle.std.proofs.Math.Bool.{false, false≢true, ◌||◌, and-false}
use native.Mathlib.Omega.{arith}
use borrow.Author.Tests.{leb-true, leb-false, le-leb, lt-leb, eq-eqb, eqb-true, ne_eqb}
use Rattle.std.proofs.Math.Dec.{leb}
use Rattle.std.proofs.Math.ListN.{drop_of_length-le}
use Rattle.std.proofs.Math.Seq.{drop-cons}
use Rattle.lists.specs.Laws.{All, all_map, all_nth}
use Rattle.limits.specs.declared.FarmCosts.{FarmCosts}
use Rattle.shares.specs.Model.{sum}
use Rattle.limits.specs.Model.{between, all_at_most, all_at_least, CostsWithin}
use Rattle.keys.specs.declared.Key.{Key}
use Rattle.keys.specs.Model.{no_key, sort_keys, sorted_front}
use Rattle.booking.specs.declared.Booking.{Booking}
use Rattle.booking.specs.Best.{free_at, chosen, units}
use Rattle.walk.specs.declared.Job.{Job}
use Rattle.walk.specs.declared.FreeTimes.{FreeTimes}
use Rattle.walk.specs.declared.Chunk.{Chunk}
use Rattle.walk.specs.declared.ChunkTerms.{ChunkTerms}
use Rattle.walk.specs.Model.{greatest, no_job, latest, finish_of, chunk_terms, chunk_on, chunks_from, Span, placed, spans_of, spans_of_all, start_of, keys_by, by_start, in_order, fit_all}
use Rattle.walk.specs.OrderSteps.{order_is, order_within}
use Rattle.walk.specs.Chunks.{Sendable, latest_after, chunks_next, finish_next, chunks_done}
use Rattle.soundness.specs.declared.JobBounds.{JobBounds}
use Rattle.soundness.specs.Model.{none_of, all_differ, job_numbers, nodes_known, job_within, shares_kept, job_passes, jobs_pass}
use Rattle.soundness.specs.Sound.{Usable, says_job_within, says_jobs}

-- ---- Promises

-- a job whose sends and finishes up to the first that is late do not wrap
pub record NoOverflow (c : FarmCosts) (j : Job) : Type 0 where
  pub costs : CostsWithin c
  pub compute : j.compute ≤ 1_000_000
  pub start : j.booking.start ≤ greatest
  pub deadline : j.deadline ≤ greatest
  pub count : j.booking.count ≤ 64

-- a job that passes by itself: its nodes have free times, no finish is past the time range, and the costs are within their limits
pub record Bounded (c : FarmCosts) (j : Job) : Type 0 where
  pub count : j.booking.count ≤ 64
  pub nodes : All (λ (k : ℕ). (1 ≤ k) × (k ≤ 64)) (chosen j.booking)
  pub ends : finish_of c j ≤ greatest
  pub costs : CostsWithin c
  pub compute : j.compute ≤ 1_000_000

-- what a survey of jobs comes to: their numbers, where each passes by itself
abbrev pub Surveys : JobBounds → List Job → Option (List ℕ) → Type 0
Surveys g js r = MatchOption r (jobs_pass g js ≡ false) (λ ns. (jobs_pass g js ≡ true) × (take (length js) ns ≡ job_numbers js))

abbrev pub Inside : ℕ → Key → Type 0
Inside n k = k.place < n

-- whether spans fit behind the free times that are left, if any are
abbrev pub fit_left : Option FreeTimes → List Span → Bool
fit_left None xs = false
fit_left (Some b) xs = fit_all b xs

-- r says of a job's chunks behind b whether they fit, and what they leave to all that follow
pub record FitResult (c : FarmCosts) (b : FreeTimes) (j : Job) (r : Option FreeTimes) : Type 0 where
  pub rest : (xs : List Span) → fit_all b (spans_of c j ++ xs) ≡ fit_left r xs

-- ---- The nodes of a booking

and_swap : (a b c d : Bool) → (a && b) && (c && d) ≡ (a && c) && (b && d)
and_swap true b true d = refl
and_swap true true false d = refl
and_swap true false false d = refl
and_swap false b c d = refl

-- Each node's test says so of all.
pub known_each : (n : ℕ) (ks : List ℕ) → list_all (λ (k : ℕ). between 1 k n) ks ≡ nodes_known n ks
unfolding all_at_most all_at_least
known_each n [] = refl
known_each n (k ∷ ks) =
    ap (λ (b : Bool). between 1 k n && b) (known_each n ks) ∙ and_swap (leb 1 k) (leb k n) (all_at_least 1 ks) (all_at_most n ks)

-- ---- The shares of a booking

-- the chunks of shares xs on nodes ks, behind s units, the send before them having ended at t: each share at least 1, z units in all, and finished by d
unfoldable pub kept_from : ChunkTerms → ℕ → ℕ → ℕ → ℕ → List ℕ → List ℕ → Bool
kept_from w z d s t ks xs = all_at_least 1 xs && eqb (s + sum xs) z && leb (latest t (chunks_from w t ks xs)) d

-- All of a job's shares are left at first.
pub kept_start : (c : FarmCosts) (j : Job) (w : ChunkTerms) → w ≡ chunk_terms c j
    → shares_kept c j ≡ kept_from w j.size j.deadline 0 j.booking.start (chosen j.booking) (units j.booking)
unfolding shares_kept kept_from
kept_start c j w q = let e : 0 + sum (units j.booking) ≡ sum (units j.booking) = omega arith in rw (q, e)

max_leb : (a b d : ℕ) → a ≤ d → leb (max a b) d ≡ leb b d
max_leb a b d h = go (leb b d) refl
  where
    go : (t : Bool) → leb b d ≡ t → leb (max a b) d ≡ t
    go true e = le-leb (max a b) d (omega (arith, leb-true b d e))
    go false e = lt-leb (max a b) d (omega (arith, leb-false b d e))

-- A send takes a tick at least for each unit.
pub sent_units : (w : ChunkTerms) (t k a : ℕ) (x : Chunk) → x ≡ chunk_on w t k a → 1 ≤ w.costs.send → t + a ≤ x.sent
sent_units w t k a x e s = let p : a * 1 ≤ a * w.costs.send = mul-le-mul_left a s in rw e (omega arith)

-- A share of 0 comes next.
pub kept_small : (w : ChunkTerms) (z d s t a : ℕ) (ks xs xs' : List ℕ) → xs ≡ a ∷ xs' → a < 1 → kept_from w z d s t ks xs ≡ false
unfolding kept_from all_at_least
kept_small w z d s t a ks xs xs' e l = rw (e, lt-leb 1 a l)

-- A share of a units on node k comes next.
module _ (w : ChunkTerms) (z d s t : ℕ) (x : Chunk) (k a : ℕ) (ks xs ks' xs' : List ℕ) (is : x ≡ chunk_on w t k a) (e : (ks ≡ k ∷ ks') × (xs ≡ a ∷ xs')) where
  latest_is : latest t (chunks_from w t ks xs) ≡ max x.finish (latest x.sent (chunks_from w x.sent ks' xs'))
  latest_is = (finish_next w t x k a ks xs ks' xs' is e).0

  -- It passes.
  pub kept_more : (u : ℕ) → u ≡ a → 1 ≤ a → x.finish ≤ d → kept_from w z d s t ks xs ≡ kept_from w z d (s + u) x.sent ks' xs'
  unfolding kept_from all_at_least sum
  kept_more u q l m =
      let each : all_at_least 1 xs ≡ all_at_least 1 xs' = rw (e.1, le-leb 1 a l) in
      let all : s + sum xs ≡ s + u + sum xs' = omega (arith, ap sum e.1, q) in
      let ends : leb (latest t (chunks_from w t ks xs)) d ≡ leb (latest x.sent (chunks_from w x.sent ks' xs')) d =
      ap (λ (f : ℕ). leb f d) latest_is ∙ max_leb x.finish (latest x.sent (chunks_from w x.sent ks' xs')) d m in
      rw (each, all, ends)

  -- It is late.
  pub kept_late : d < x.finish → kept_from w z d s t ks xs ≡ false
  unfolding kept_from
  kept_late l =
      let late : leb (latest t (chunks_from w t ks xs)) d ≡ false = lt-leb (latest t (chunks_from w t ks xs)) d (omega (arith, latest_is)) in
      rw (late, and-false)

-- None is left at the end.
pub kept_none : (w : ChunkTerms) (z d s t : ℕ) (ks xs : List ℕ) → length ks ≡ length xs → (length ks ≡ 0) ⊎ (length xs ≡ 0)
    → kept_from w z d s t ks xs ≡ eqb s z && leb t d
unfolding kept_from all_at_least sum latest
kept_none w z d s t ks [] m e = let n : s + 0 ≡ s = omega arith in rw (chunks_done w t ks [] (inr refl), n)
kept_none w z d s t ks (x ∷ xs) m e = absurd (⊎_elim (λ h. omega (arith, h, m)) (λ h. omega (arith, h)) e)

-- ---- The jobs

-- A job within its limits has sums that do not wrap.
pub no_overflow_of : (g : JobBounds) (j : Job) → Usable g → job_within g j ≡ true → NoOverflow g.terms.costs j
no_overflow_of g j u e =
    let w = (says_job_within g j).yields e in
    record {
      costs = u.costs;
      compute = w.compute.1;
      start = w.start;
      deadline = w.deadline;
      count = w.count.1;
    }

-- Jobs that pass by themselves finish within the time range.
pub all_bounded : (g : JobBounds) (js : List Job) → Usable g → jobs_pass g js ≡ true → All (Bounded g.terms.costs) js
all_bounded g js u e =
    all_map (λ j h. record {
      count = h.0.count.1;
      nodes = all_map (λ k b. (b.0, omega (arith, b.1, u.nodes))) (chosen j.booking) h.0.nodes;
      ends = omega (arith, h.1.ends, h.0.deadline);
      costs = u.costs;
      compute = h.0.compute.1;
    }) js ((says_jobs g js).yields e)

-- A booking of at most 64 chunks has a node and a share for each.
pub each_stored : (b : Booking) → b.count ≤ 64 → length b.nodes ≡ 64 → length b.shares ≡ 64
    → (length (chosen b) ≡ b.count) × (length (units b) ≡ b.count)
each_stored b h n u =
    (length-take-le b.count b.nodes (omega arith), length-take-le b.count b.shares (omega arith))

-- Their chunks can be worked out.
pub bounded_sends : (c : FarmCosts) (j : Job) → Bounded c j → length j.booking.nodes ≡ 64 → length j.booking.shares ≡ 64 → Sendable c j
bounded_sends c j b n u =
    let stored = each_stored j.booking b.count n u in
    record {
      few = b.count;
      nodes = stored.0;
      shares = stored.1;
      known = b.nodes;
      ends = b.ends;
      costs = b.costs;
      compute = b.compute;
    }

module _ (g : JobBounds) (jobs : List Job) (i : ℕ) (h : i < length jobs) where
  pass_cons : jobs_pass g (drop i jobs) ≡ job_passes g (get_or jobs i no_job) && jobs_pass g (drop (i + 1) jobs)
  unfolding jobs_pass
  pass_cons = rw (add-one, drop-cons jobs i no_job h)

  pub pass_more : job_passes g (get_or jobs i no_job) ≡ true → jobs_pass g (drop i jobs) ≡ jobs_pass g (drop (i + 1) jobs)
  pass_more e = pass_cons ∙ rw e

  pub pass_stop : job_passes g (get_or jobs i no_job) ≡ false → jobs_pass g (drop i jobs) ≡ false
  pass_stop e = pass_cons ∙ rw e

pub pass_none : (g : JobBounds) (jobs : List Job) (i : ℕ) → length jobs ≤ i → jobs_pass g (drop i jobs) ≡ true
unfolding jobs_pass
pass_none g jobs i h = rw (drop_of_length-le jobs {i = i} h)

-- ---- The numbers

numbers_snoc : (xs : List Job) (j : Job) → job_numbers (xs ++ j ∷ []) ≡ job_numbers xs ++ j.number ∷ []
numbers_snoc [] j = refl
numbers_snoc (x ∷ xs) j = ap (λ (s : List ℕ). x.number ∷ s) (numbers_snoc xs j)

-- One number more is written.
pub numbers_more : (jobs : List Job) (out : List ℕ) (i : ℕ) → i < length jobs → i < length out → take i out ≡ job_numbers (take i jobs)
    → take (i + 1) (set out i (get_or jobs i no_job).number) ≡ job_numbers (take (i + 1) jobs)
numbers_more jobs out i h k e =
    rw (add-one, take-suc-set out i (get_or jobs i no_job).number k, take-suc jobs i no_job h, e, numbers_snoc (take i jobs) (get_or jobs i no_job))

eqb_swap : (a b : ℕ) → eqb a b ≡ eqb b a
eqb_swap a b = go (eqb b a) refl
  where
    go : (t : Bool) → eqb b a ≡ t → eqb a b ≡ t
    go true e = eq-eqb a b (sym (eqb-true b a e))
    go false e = ne_eqb a b (λ q. false≢true (sym e ∙ eq-eqb b a (sym q)))

-- A number is none of a list, or the list contains it.
pub none_any : (x : ℕ) (ys : List ℕ) → none_of x ys ≡ not (list_any (λ (y : ℕ). eqb y x) ys)
unfolding none_of
none_any x [] = refl
none_any x (y ∷ ys) = rw (none_any x ys, eqb_swap x y) (go (eqb y x) (list_any (λ (y : ℕ). eqb y x) ys))
  where
    go : (a b : Bool) → not a && not b ≡ not (a || b)
    go true b = refl
    go false b = refl

-- The first of a list is among the others, or the others decide.
pub differ_stop : (xs : List ℕ) → 1 ≤ length xs → list_any (λ (y : ℕ). eqb y (get_or xs 0 0)) (drop 1 xs) ≡ true → all_differ xs ≡ false
unfolding all_differ
differ_stop [] h e = absurd (omega arith)
differ_stop (x ∷ xs) h e = rw (none_any x xs, e)

pub differ_more : (xs : List ℕ) → 1 ≤ length xs → list_any (λ (y : ℕ). eqb y (get_or xs 0 0)) (drop 1 xs) ≡ false → all_differ xs ≡ all_differ (drop 1 xs)
unfolding all_differ
differ_more [] h e = absurd (omega arith)
differ_more (x ∷ xs) h e = rw (none_any x xs, e)

-- All of what lies behind a place.
pub part_rest : (xs : List ℕ) (k : ℕ) → take (length xs - k) (drop k xs) ≡ drop k xs
part_rest xs k = take_all (length xs - k) (drop k xs) (omega (arith, length-drop k xs))

pub differ_none : (xs : List ℕ) → length xs < 1 → all_differ xs ≡ true
unfolding all_differ
differ_none [] h = refl
differ_none (x ∷ xs) h = absurd (omega arith)

-- ---- The chunks of a job behind the free times

-- Of a job's chunks those of shares xs on nodes ks are left, behind `now`, the send before them having ended at t: they can be worked out, and whether
-- all fit behind `times` is whether these fit behind `now`, whatever follows.
pub record Fitting (c : FarmCosts) (j : Job) (w : ChunkTerms) (times now : FreeTimes) (t : ℕ) (ks xs : List ℕ) : Type 0 where
  pub known : All (λ (k : ℕ). (1 ≤ k) × (k ≤ 64)) ks
  pub ends : latest t (chunks_from w t ks xs) ≤ greatest
  pub rest : (ys : List Span)
      → fit_all times (spans_of c j ++ ys) ≡ fit_all now (placed j.booking.start (chunks_from w t ks xs) ++ ys)

pub fitting_start : (c : FarmCosts) (j : Job) (w : ChunkTerms) (times : FreeTimes) → Bounded c j → w ≡ chunk_terms c j
    → Fitting c j w times times j.booking.start (chosen j.booking) (units j.booking)
fitting_start c j w times b q = record { known = b.nodes; ends = rw q b.ends; rest = λ ys. rw q refl }

-- A job whose chunks can be worked out, and where the loop over them stands.
module _ (c : FarmCosts) (j : Job) (w : ChunkTerms) (times now : FreeTimes) (t : ℕ) (ks xs : List ℕ) (u : Fitting c j w times now t ks xs) where
  -- A chunk's send begins within the time range.
  pub fitting_sends : t ≤ greatest
  fitting_sends = omega (arith, latest_after t (chunks_from w t ks xs), u.ends)

  -- A share of a units on node k comes next.
  module _ (x : Chunk) (k a : ℕ) (ks' xs' : List ℕ) (is : x ≡ chunk_on w t k a) (e : (ks ≡ k ∷ ks') × (xs ≡ a ∷ xs')) (n : ℕ) (at : n ≡ k) where
    next : (ys : List Span) → fit_all now (placed j.booking.start (chunks_from w t ks xs) ++ ys)
        ≡ leb now.link x.start && leb (free_at now.free n) j.booking.start
        && fit_all (record { link = x.sent; free = set now.free (n - 1) x.finish }) (placed j.booking.start (chunks_from w x.sent ks' xs') ++ ys)
    unfolding fit_all
    next ys = rw (is, at, chunks_next w t (chunk_on w t k a) k a ks xs ks' xs' refl e)

    -- The next chunk fits.
    pub fitting_more : now.link ≤ x.start → free_at now.free n ≤ j.booking.start
        → Fitting c j w times (record { link = x.sent; free = set now.free (n - 1) x.finish }) x.sent ks' xs'
    fitting_more p f =
        let m = (finish_next w t x k a ks xs ks' xs' is e).0 in
        record {
          known = (subst (All (λ (n : ℕ). (1 ≤ n) × (n ≤ 64))) e.0 u.known).1;
          ends = omega (arith, u.ends, m);
          rest = λ ys. u.rest ys ∙ next ys ∙ rw (le-leb now.link x.start p, le-leb (free_at now.free n) j.booking.start f);
        }

    -- Its send overlaps.
    pub fitting_link : x.start < now.link → FitResult c times j None
    fitting_link p = record { rest = λ ys. u.rest ys ∙ next ys ∙ rw (lt-leb now.link x.start p) }

    -- Its node is not free.
    pub fitting_node : j.booking.start < free_at now.free n → FitResult c times j None
    fitting_node p = record { rest = λ ys. u.rest ys ∙ next ys ∙ rw (lt-leb (free_at now.free n) j.booking.start p, and-false) }

  -- All chunks fit.
  pub fitting_all : (length ks ≡ 0) ⊎ (length xs ≡ 0) → FitResult c times j (Some now)
  fitting_all h = record { rest = λ ys. u.rest ys ∙ rw (chunks_done w t ks xs h) }

-- ---- The jobs by their starts

module _ (c : FarmCosts) (b : FreeTimes) (jobs : List Job) (keys : List Key) (i : ℕ) (h : i < length keys) (inside : All (Inside (length jobs)) keys) where
  pub key_inside : (get_or keys i no_key).place < length jobs
  key_inside = all_nth no_key (Inside (length jobs)) keys i inside h

  pub key_bounded : All (Bounded c) jobs → Bounded c (get_or jobs (get_or keys i no_key).place no_job)
  key_bounded a = all_nth no_job (Bounded c) jobs (get_or keys i no_key).place a key_inside

  -- The next job's spans come before those of the others, which need only fit behind what it leaves.
  pub turn_next : (r : Option FreeTimes) → FitResult c b (get_or jobs (get_or keys i no_key).place no_job) r
      → fit_all b (spans_of_all c (in_order jobs (drop i keys))) ≡ fit_left r (spans_of_all c (in_order jobs (drop (i + 1) keys)))
  unfolding spans_of_all
  turn_next r s = rw (add-one, drop-cons keys i no_key h) (s.rest _)

pub turn_none : (c : FarmCosts) (b : FreeTimes) (js : List Job) (keys : List Key) (i : ℕ) → length keys ≤ i → fit_all b (spans_of_all c (in_order js (drop i keys))) ≡ true
unfolding fit_all spans_of_all
turn_none c b js keys i h = rw (drop_of_length-le keys {i = i} h)

-- Keys of the jobs, put in order: each names one of them, and together they name the jobs by their starts.
module _ (jobs : List Job) (keys ordered : List Key) (h : length jobs ≤ 128) (l : length keys ≡ 128)
    (are : take (length jobs) keys ≡ keys_by start_of 0 (map (λ (j : Job). j) jobs)) (sorted : ordered ≡ sorted_front keys (length jobs)) where
  whole : take (length jobs) jobs ≡ jobs
  whole = take_all (length jobs) jobs (omega arith)

  order : take (length jobs) ordered ≡ sort_keys (keys_by start_of 0 jobs)
  order = ap (take (length jobs)) sorted ∙ rw whole at (order_is start_of jobs keys (length jobs) h l (are ∙ ap (keys_by start_of 0) (map-id jobs ∙ sym whole)))

  pub ordered_inside : All (Inside (length jobs)) (take (length jobs) ordered)
  ordered_inside = subst (All (Inside (length jobs))) (sym order) (rw whole at (order_within start_of jobs (length jobs) (omega arith)))

  pub ordered_whole : in_order jobs (take (length jobs) ordered) ≡ by_start jobs
  ordered_whole = ap (in_order jobs) order
