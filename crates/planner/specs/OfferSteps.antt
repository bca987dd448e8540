-- An offer to a farm that passes question 11: what the functions of src/offers.rt promise each other.
use Rattle.std.specs.Prelude.{◌≡◌, refl, Bool, true, cond, ◌&&◌, ℕ, ◌+◌, ◌≤◌, ◌<◌, leb, ltb, ◌==◌, length, get_or, take, drop, set, position, Option, Some, None, IsSome, MatchOption, Result, Ok, Err}
use Rattle.std.proofs.Math.Path.{ap}
use Rattle.std.proofs.Common.{ap₂, sym, subst, ◌∙◌, arith, add-one, length-append, take-suc-set, drop-set-lt, length-take-le, get_or-take}
use mathlib.Core.List.{List, [], ◌∷◌, ◌++◌, map, Memᴰ}
use Rattle.std.proofs.Math.Bool.{false}
use Rattle.std.proofs.lemmas.Bool.{false≢true}
use borrow.Author.Tests.{eq-eqb}
use Rattle.std.proofs.Math.Dec.{eqb}
use Rattle.lists.specs.Laws.{All, all_nth, all_map, all_image, map_join, mem_image, mem_right, perm_length, perm_mem}
use Rattle.limits.specs.Says.{between_is}
use Rattle.walk.specs.declared.Job.{Job}
use Rattle.walk.specs.declared.WalkTerms.{WalkTerms}
use Rattle.walk.specs.declared.FreeTimes.{FreeTimes}
use Rattle.walk.specs.declared.QueueEntry.{QueueEntry}
use Rattle.walk.specs.View.{no_entry, job_at, jobs_of, bare, bared, job_there}
use Rattle.walk.specs.Bared.{plan_by_bared, books_by_bared, entries_bared, taken_plan}
use Rattle.walk.specs.WalkSteps.{Walkable, Ready, Planned, books_feasible}
use Rattle.lists.specs.Places.{each_at, each_length, each_drop}
use Rattle.planner.specs.declared.Figures.{Figures}
use Rattle.planner.specs.declared.Decision.{Decision}
use Rattle.planner.specs.Parts.{FiguresSized, Plans}
use Rattle.walk.specs.Chunks.{Sendable}
use Rattle.walk.specs.Order.{by_deadline_perm}
use Rattle.walk.specs.Plan.{plan_numbers, plan_length, plan_sends}
use Rattle.queue.specs.Numbers.{number_of_job, has_number_lem}
use Rattle.queue.specs.Steps.{place_of, place_job, has_place}
use Rattle.answers.specs.Steps.{no_number}
use Rattle.answers.specs.declared.Offer.{Offer}
use Rattle.answers.specs.declared.Question.{Question}
use Rattle.answers.specs.declared.Question.TheVariants as question
use Rattle.answers.specs.declared.Granted.{Granted}
use Rattle.planner.specs.Model.{Farm, farm_of, greatest, between, no_job, waiting_of, walk_terms_of, free_times_of, by_deadline, plan, books_all}
use Rattle.planner.specs.Passes.{passes_of}
use Rattle.planner.specs.Changes.{with_jobs}
use Rattle.planner.specs.Calls.{Said, told, refused, has_number, of_number, number_of, compute_of, OfferGranted, new_job, with_plan, yes_of, offer_asked, offer_said, offer_farm}
use Rattle.planner.specs.PassesSteps.{passes_within}
use Rattle.planner.specs.PlaceSteps.{searched}
use Rattle.planner.specs.CallsSteps.{Offered, offer_ready, walk_ready, deadline_is, place_is}

asked_yes : (a b c p d e : Bool) → ◌≡◌ {A = ℕ} (cond a (cond b (cond c (cond p (cond d (cond e 0 7) 6) 2) 5) 4) 11) 0
    → (a ≡ true) × (b ≡ true) × (c ≡ true) × (p ≡ true) × (d ≡ true) × (e ≡ true)
asked_yes true true true true true true h = (refl, refl, refl, refl, refl, refl)
asked_yes true true true true true false h = absurd (omega arith)
asked_yes true true true true false e h = absurd (omega arith)
asked_yes true true true false d e h = absurd (omega arith)
asked_yes true true false p d e h = absurd (omega arith)
asked_yes true false c p d e h = absurd (omega arith)
asked_yes false b c p d e h = absurd (omega arith)

-- An offer that no question before the walk stops has each answered yes.
pub offer_granted : (f : Farm) (o : Offer) → offer_asked f o ≡ 0 → OfferGranted f o
unfolding offer_asked
offer_granted f o h =
    let q = asked_yes (passes_of f) (between 1 o.show f.shows) (between 1 o.size 1_000_000) (between 1 (compute_of f o) 1_000_000) (ltb f.clock o.deadline && leb o.deadline greatest) (ltb f.waiting 128 && ltb f.used greatest) h in
    record {
      passes = q.0;
      show = between_is 1 o.show f.shows q.1;
      size = between_is 1 o.size 1_000_000 q.2;
      compute = between_is 1 (compute_of f o) 1_000_000 q.3;
      deadline = deadline_is f.clock o.deadline q.4;
      place = place_is f.waiting f.used q.5;
    }

-- The new job may be walked.
pub offer_offered : (f : Farm) (o : Offer) → OfferGranted f o → Offered f (new_job f o)
offer_offered f o g = record { passes = g.passes; size = g.size.0; deadline = g.deadline.1; compute = g.compute.1; waiting = g.place.0; used = g.place.1 }

-- ---- The new job in the plan

-- what the walk of the waiting jobs and a new one says, and the farm that it leaves
abbrev pub walk_said : Farm → Job → Said
walk_said f j =
    cond (books_all (walk_terms_of f) (free_times_of f) (by_deadline (waiting_of f ++ j ∷ []))) (yes_of f.costs (of_number j.number (plan (walk_terms_of f) (free_times_of f) (by_deadline (waiting_of f ++ j ∷ []))))) (refused 8)

abbrev pub walk_farm : Farm → Job → Farm
walk_farm f j = cond (books_all (walk_terms_of f) (free_times_of f) (by_deadline (waiting_of f ++ j ∷ []))) (with_plan f (plan (walk_terms_of f) (free_times_of f) (by_deadline (waiting_of f ++ j ∷ [])))) f

-- A plan of some jobs and a new one has one of that one's number.
pub planned_has : (w : WalkTerms) (b : FreeTimes) (js : List Job) (j : Job) → has_number j.number (plan w b (by_deadline (js ++ j ∷ []))) ≡ true
planned_has w b js j =
    let m : Memᴰ j (by_deadline (js ++ j ∷ [])) = perm_mem (by_deadline_perm (js ++ j ∷ [])) (mem_right js (mathlib.Core.List.Memᴰ.head refl)) in
    has_number_lem (plan w b (by_deadline (js ++ j ∷ []))) j.number (subst (Memᴰ j.number) (sym (plan_numbers w b (by_deadline (js ++ j ∷ [])))) (mem_image number_of_job m))

-- The plan of a queue has its jobs.
pub planned_count : (w : WalkTerms) (b : FreeTimes) (js : List Job) → length (plan w b (by_deadline js)) ≡ length js
planned_count w b js = plan_length w b (by_deadline js) ∙ sym (perm_length (by_deadline_perm js))

-- ---- Bookings are not looked at

module _ (f : Farm) (j : Job) where
  one_bared : map bared (waiting_of f ++ j ∷ []) ≡ map bared (waiting_of f ++ bared j ∷ [])
  one_bared = map_join bared (waiting_of f) (j ∷ []) ∙ sym (map_join bared (waiting_of f) (bared j ∷ []))

  same_plan : plan (walk_terms_of f) (free_times_of f) (by_deadline (waiting_of f ++ j ∷ [])) ≡ plan (walk_terms_of f) (free_times_of f) (by_deadline (waiting_of f ++ bared j ∷ []))
  same_plan = plan_by_bared _ _ _ ∙ ap (λ (js : List Job). plan (walk_terms_of f) (free_times_of f) (by_deadline js)) one_bared ∙ sym (plan_by_bared _ _ _)

  same_books : books_all (walk_terms_of f) (free_times_of f) (by_deadline (waiting_of f ++ j ∷ [])) ≡ books_all (walk_terms_of f) (free_times_of f) (by_deadline (waiting_of f ++ bared j ∷ []))
  same_books = books_by_bared _ _ _ ∙ ap (λ (js : List Job). books_all (walk_terms_of f) (free_times_of f) (by_deadline js)) one_bared ∙ sym (books_by_bared _ _ _)

  -- A new job may come with any booking.
  pub said_bared : walk_said f j ≡ walk_said f (bared j)
  said_bared = ap₂ (λ (b : Bool) (js : List Job). cond b (yes_of f.costs (of_number j.number js)) (refused 8)) same_books same_plan

  pub farm_bared : walk_farm f j ≡ walk_farm f (bared j)
  farm_bared = ap₂ (λ (b : Bool) (js : List Job). cond b (with_plan f js) f) same_books same_plan

-- ---- The walk over figures and rows

module _ (F : Figures) (ks xs : List ℕ) (h : QueueEntry) (o : Offered (farm_of F ks xs) (bare h)) (z : FiguresSized F) where
  abbrev f : Farm
  f = farm_of F ks xs

  abbrev n : ℕ
  n = F.waiting + 1

  -- the queue with the new job behind the waiting ones
  abbrev pub queued : List QueueEntry
  queued = set F.jobs F.waiting h

  -- Its first entries are the waiting jobs and the new one, with no bookings.
  entries_are : map bare (take n queued) ≡ map bared (waiting_of f ++ bare h ∷ [])
  entries_are =
      rw (add-one F.waiting) (ap (map bare) (take-suc-set F.jobs F.waiting h (omega (arith, o.waiting, z.jobs))))
      ∙ map_join bare (take F.waiting F.jobs) (h ∷ [])
      ∙ ap (λ (js : List Job). js ++ bare h ∷ []) (sym (entries_bared ks xs F.waiting F.jobs))
      ∙ sym (map_join bared (waiting_of f) (bare h ∷ []))

  -- What the walk of them starts from.
  pub queued_ready : (F.waiting + 1 ≤ 128) × Ready (walk_terms_of (farm_of F ks xs)) (free_times_of (farm_of F ks xs)) (map bare (take (F.waiting + 1) (set F.jobs F.waiting h)))
  queued_ready =
      let r = offer_ready f (bare h) o in (
        omega (arith, o.waiting),
        record {
          answered = r.answered;
          costs = r.costs;
          free = r.free;
          jobs = subst (All Walkable) (sym entries_are) (all_image Walkable bared (waiting_of f ++ bare h ∷ []) r.jobs);
        },
      )

  abbrev plan_of : List Job
  plan_of = plan (walk_terms_of f) (free_times_of f) (by_deadline (waiting_of f ++ bare h ∷ []))

  plan_is : plan_of ≡ plan (walk_terms_of f) (free_times_of f) (by_deadline (map bare (take n queued)))
  plan_is = plan_by_bared _ _ _ ∙ ap (λ (js : List Job). plan (walk_terms_of f) (free_times_of f) (by_deadline js)) (sym entries_are)

  books_are : books_all (walk_terms_of f) (free_times_of f) (by_deadline (waiting_of f ++ bare h ∷ [])) ≡ books_all (walk_terms_of f) (free_times_of f) (by_deadline (map bare (take n queued)))
  books_are = books_by_bared _ _ _ ∙ ap (λ (js : List Job). books_all (walk_terms_of f) (free_times_of f) (by_deadline js)) (sym entries_are)

  count : length plan_of ≡ n
  count =
      planned_count (walk_terms_of f) (free_times_of f) (waiting_of f ++ bare h ∷ []) ∙ length-append (waiting_of f) (bare h ∷ [])
      ∙ ap (λ (x : ℕ). x + 1) (length-take-le F.waiting f.jobs (omega (arith, o.waiting, each_length (job_at ks xs) 0 F.jobs, z.jobs)))

  -- The jobs behind the new one are the old.
  behind : drop n (jobs_of ks xs queued) ≡ drop n f.jobs
  behind =
      each_drop (job_at ks xs) 0 n queued
      ∙ ap (each_at (job_at ks xs) (0 + n)) (drop-set-lt n F.jobs F.waiting h (omega arith))
      ∙ sym (each_drop (job_at ks xs) 0 n F.jobs)

  -- Not all are booked.
  pub walk_refuses : (pks pxs : List ℕ) → books_all (walk_terms_of (farm_of F ks xs)) (free_times_of (farm_of F ks xs)) (by_deadline (map bare (take (F.waiting + 1) (set F.jobs F.waiting h)))) ≡ false
      → Plans F ks xs (walk_said (farm_of F ks xs) (bare h)) (walk_farm (farm_of F ks xs) (bare h)) (Err question.Walk) pks pxs
  walk_refuses pks pxs e = let no = books_are ∙ e in record { says = rw no; granted = rw no; hands = tt; refuses = λ _. rw no }

  module _ (plans : List QueueEntry) (pks pxs : List ℕ) (w : Planned (walk_terms_of f) (free_times_of f) queued n pks pxs plans) where
    books : books_all (walk_terms_of f) (free_times_of f) (by_deadline (waiting_of f ++ bare h ∷ [])) ≡ true
    books = books_are ∙ w.books

    front : take n (jobs_of pks pxs plans) ≡ plan_of
    front = w.jobs_are ∙ sym plan_is

    module _ (place : ℕ) (inside : place < F.waiting + 1) where
      -- A job there is that of the plan,
      there : job_at pks pxs place (get_or plans place no_entry) ≡ get_or plan_of place no_job
      there =
          sym (job_there pks pxs plans place (omega (arith, inside, o.waiting, w.size)))
          ∙ sym (get_or-take n (jobs_of pks pxs plans) place no_job inside)
          ∙ ap (λ (js : List Job). get_or js place no_job) front

      -- and its chunks can be worked out.
      pub planned_sends : Sendable F.costs (job_at pks pxs place (get_or plans place no_entry))
      planned_sends =
          let g = passes_within f o.passes in
          let ready = walk_ready f (bare h) o in
          let queue = by_deadline (waiting_of f ++ bare h ∷ []) in
          let feasible = books_feasible (walk_terms_of f) (free_times_of f) queue ready.answered (omega (arith, g.nodes.1, z.free)) (all_map (λ x a. a.0) queue ready.jobs) books in
          subst (Sendable F.costs) (sym there)
          (all_nth no_job (Sendable F.costs) plan_of place (plan_sends (walk_terms_of f) (free_times_of f) queue g.nodes.1 g.costs z.free ready.jobs feasible) (omega (arith, inside, count)))

    module _ (place : ℕ) (at : place_of h.number (take n (jobs_of pks pxs plans)) ≡ place) where
      at_plan : place ≡ place_of h.number plan_of
      at_plan = sym at ∙ ap (place_of h.number) front

      within : place_of h.number plan_of < length plan_of
      within = has_place h.number plan_of (planned_has (walk_terms_of f) (free_times_of f) (waiting_of f) (bare h))

      -- The number stands in the plan,
      pub new_within : place < F.waiting + 1
      new_within = omega (arith, at_plan, within, count)

      -- and the job there is the job of the new number.
      new_at : job_at pks pxs place (get_or plans place no_entry) ≡ of_number h.number plan_of
      new_at = there place new_within ∙ ap (λ (k : ℕ). get_or plan_of k no_job) at_plan ∙ place_job h.number plan_of within

      -- Its chunks can be worked out.
      pub new_sends : Sendable F.costs (job_at pks pxs place (get_or plans place no_entry))
      new_sends = planned_sends place new_within

      -- All are booked, and the new job is told.
      pub walk_accepts : (a : Granted) → told a ≡ yes_of F.costs (job_at pks pxs place (get_or plans place no_entry))
          → Plans F ks xs (walk_said (farm_of F ks xs) (bare h)) (walk_farm (farm_of F ks xs) (bare h)) (Ok (record { answer = a; used = F.used + 1; waiting = F.waiting + 1; jobs = plans })) pks pxs
      walk_accepts a e =
          record {
            says = e ∙ ap (yes_of F.costs) new_at ∙ sym (rw books);
            granted = rw books;
            hands = record {
              few = (omega (arith, o.waiting), w.few);
              hands = λ ks' xs' p q. rw (books, count)
                  (ap (with_jobs f (F.used + 1) (F.waiting + 1)) (taken_plan (walk_terms_of f) (free_times_of f) queued n plans pks pxs ks xs ks' xs' w p q ∙ ap₂ ◌++◌ (sym plan_is) behind));
            };
            refuses = λ t. absurd (false≢true t);
          }

    -- A search for the new job finds it.
    has : has_number h.number (take n (jobs_of pks pxs plans)) ≡ true
    has = ap (has_number h.number) front ∙ planned_has (walk_terms_of f) (free_times_of f) (waiting_of f) (bare h)

    pub new_found : IsSome (position (λ (j : QueueEntry). j.number == h.number) (take (F.waiting + 1) plans))
    new_found = go (position (λ (j : QueueEntry). j.number == h.number) (take n plans)) (searched h.number pks pxs n plans _ refl)
      where
        go : (s : Option ℕ) → MatchOption s (has_number h.number (take n (jobs_of pks pxs plans)) ≡ false) (λ p. (p < length (take n (jobs_of pks pxs plans))) × (place_of h.number (take n (jobs_of pks pxs plans)) ≡ p)) → IsSome s
        go (Some p) x = refl
        go None x = absurd (false≢true (sym x ∙ has))

    pub new_place : (place : ℕ) → position (λ (j : QueueEntry). j.number == h.number) (take (F.waiting + 1) plans) ≡ Some place
        → place_of h.number (take n (jobs_of pks pxs plans)) ≡ place
    new_place place e = (searched h.number pks pxs n plans (Some place) e).1

module _ (F : Figures) (ks xs : List ℕ) (o : Offer) where
  -- A question before the walk stops it.
  pub plans_no : (q : Question) (pks pxs : List ℕ) → number_of q ≡ offer_asked (farm_of F ks xs) o
      → Plans F ks xs (offer_said (farm_of F ks xs) o) (offer_farm (farm_of F ks xs) o) (Err q) pks pxs
  unfolding offer_said offer_farm
  plans_no q pks pxs e =
      let no : eqb (offer_asked (farm_of F ks xs) o) 0 ≡ false = ap (λ (k : ℕ). eqb k 0) (sym e) ∙ no_number q in
      record { says = rw (no, e); granted = rw (no, no); hands = tt; refuses = λ _. rw no }

  offer_said_lem : offer_asked (farm_of F ks xs) o ≡ 0 → walk_said (farm_of F ks xs) (new_job (farm_of F ks xs) o) ≡ offer_said (farm_of F ks xs) o
  unfolding offer_said
  offer_said_lem e = let y = eq-eqb (offer_asked (farm_of F ks xs) o) 0 e in rw y

  offer_farm_lem : offer_asked (farm_of F ks xs) o ≡ 0 → walk_farm (farm_of F ks xs) (new_job (farm_of F ks xs) o) ≡ offer_farm (farm_of F ks xs) o
  unfolding offer_farm
  offer_farm_lem e = let y = eq-eqb (offer_asked (farm_of F ks xs) o) 0 e in rw y

  -- Past those, the walk with the new entry decides it.
  pub plans_walked : (h : QueueEntry) (d : Result Decision Question) (pks pxs : List ℕ) → offer_asked (farm_of F ks xs) o ≡ 0 → bare h ≡ bared (new_job (farm_of F ks xs) o)
      → Plans F ks xs (walk_said (farm_of F ks xs) (bare h)) (walk_farm (farm_of F ks xs) (bare h)) d pks pxs → Plans F ks xs (offer_said (farm_of F ks xs) o) (offer_farm (farm_of F ks xs) o) d pks pxs
  plans_walked h d pks pxs e new x =
      let f = farm_of F ks xs in
      let s : walk_said f (bare h) ≡ offer_said f o = ap (walk_said f) new ∙ sym (said_bared f (new_job f o)) ∙ offer_said_lem e in
      let g : walk_farm f (bare h) ≡ offer_farm f o = ap (walk_farm f) new ∙ sym (farm_bared f (new_job f o)) ∙ offer_farm_lem e in
      subst (λ (a : Said). Plans F ks xs a (offer_farm f o) d pks pxs) s (subst (λ (b : Farm). Plans F ks xs (walk_said f (bare h)) b d pks pxs) g x)

-- An entry with the compute cost that was worked out is the new job, but for its booking, and may be walked.
pub new_entry_is : (f : Farm) (o : Offer) (p : ℕ) (h : QueueEntry) → h ≡ record { number = f.used + 1; show = o.show; size = o.size; compute = p; deadline = o.deadline; start = 0; count = 0 } → p ≡ compute_of f o
    → bare h ≡ bared (new_job f o)
new_entry_is f o p h e q = ap bare e ∙ ap (λ (k : ℕ). record { number = f.used + 1; show = o.show; size = o.size; compute = k; deadline = o.deadline; booking = no_job.booking }) q

pub new_entry_offered : (f : Farm) (o : Offer) (h : QueueEntry) → bare h ≡ bared (new_job f o) → OfferGranted f o → Offered f (bare h)
new_entry_offered f o h e g = let x = offer_offered f o g in subst (Offered f) (sym e) (record { passes = x.passes; size = x.size; deadline = x.deadline; compute = x.compute; waiting = x.waiting; used = x.used })
