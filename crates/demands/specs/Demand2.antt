-- Demand 2, its sentences beside the parts of the claim (`Demand2` below; `demand2` at the end is the theorem):
--   "An offer whose farm, show, size, deadline and place in the queue pass document 01's questions"   questions; document 02 (i): "Demand 2 means
--                                                                                                     this question too", whether the compute cost passes
--   "is accepted exactly when the deadline walk there books every waiting job and the new one;"       accepted, replaces, walked, last
--   "any other is refused."                                                                           stopped, unbooked
--   "A job fails there exactly when no permitted start, no nodes free at that start and no division into whole units end
--    by its deadline."                                                                                jobs (`fails` of `IsBooking`), books
--   "Each booking has the earliest start, the fewest nodes that any start allows, and the earliest finish on them,"
--                                                                                                     jobs (`best`, `unique` of `IsBooking`), books
--   "in the single-round divisible load model of report UNL-2005-0014 counted in whole units."        `finish` (shares/specs/Model.antt)
-- `IsBooking` is in booking/specs/Best.antt, over `Choice` and `Best`; `InTurn` is in walk/specs/Model.antt, `BestAll` and `Fails` in BestWalk.antt.
-- The contract of `Farm::offer` equates what runs with `offer_said` and `offer_farm`, for all arguments.
use Rattle.std.specs.Prelude.{◌≡◌, refl, true, false, ◌↔◌, ℕ, zero, suc, ◌+◌, ◌≤◌, ◌<◌, length}
use Rattle.std.proofs.Common.{ap, sym, ◌∙◌, ⊎_elim, arith}
use mathlib.Core.List.{[], ◌∷◌, ◌++◌, Permᴰ}
use Rattle.std.proofs.lemmas.Bool.{false≢true}
use Rattle.lists.specs.Laws.{All, Pairs, all_map}
use Rattle.booking.specs.Best.{IsBooking}
use Rattle.walk.specs.declared.Job.{Job}
use Rattle.walk.specs.Model.{InTurn}
use Rattle.walk.specs.Order.{Precedes}
use Rattle.walk.specs.WalkSteps.{Ready}
use Rattle.walk.specs.BestWalk.{BestAll, Fails, walk_iff, walk_each, walked_jobs}
use Rattle.answers.specs.declared.Offer.{Offer}
use Rattle.planner.specs.Model.{Farm, Sized, waiting_of, free_times_of, walk_terms_of, deadline_of, request_of, step}
use Rattle.planner.specs.PassesSteps.{passes_within, passes_jobs}
use Rattle.planner.specs.Calls.{Said, refused, new_job, queue_of, planned, accepts, with_plan, offer_asked, offer_said, offer_farm, OfferGranted}
use Rattle.planner.specs.CallsSteps.{walk_ready}
use Rattle.planner.specs.OfferSteps.{offer_granted, offer_offered}
use Rattle.demands.specs.Offers.{offer_stopped, granted_asked, offer_is}
use Rattle.planner.specs.Changes.{queue_waits}

-- ---- The claim

-- demand 2 of an offer to the farm f
pub record Demand2 (f : Farm) (o : Offer) : Type 0 where
  -- Questions 11, 4, 5, 2, 6 and 7 are passed exactly when the farm, the show, the size, the compute cost, the deadline and the place in the queue are as
  -- they ask.
  pub questions : (offer_asked f o ≡ 0) ↔ OfferGranted f o
  -- An offer is accepted exactly when it passes them and the walk books every waiting job and the new one.
  pub accepted : ((offer_said f o).number ≡ 0) ↔ ((offer_asked f o ≡ 0) × (accepts f o ≡ true))
  -- Then the plan of that walk replaces the old one, and nothing else waits in the next farm.
  pub replaces : (offer_said f o).number ≡ 0 → (offer_farm f o ≡ with_plan f (planned f o)) × (waiting_of (offer_farm f o) ≡ planned f o)
  -- Any other is refused, with the number of the first question answered no or with 8, and the farm is as it was.
  pub stopped : (n : ℕ) → offer_asked f o ≡ suc n → (offer_said f o ≡ refused (suc n)) × (offer_farm f o ≡ f)
  pub unbooked : offer_asked f o ≡ 0 → accepts f o ≡ false → (offer_said f o ≡ refused 8) × (offer_farm f o ≡ f)
  -- What is walked is the waiting jobs and the new one, each once, by deadline, equal deadlines by number,
  pub walked : Permᴰ (waiting_of f ++ new_job f o ∷ []) (queue_of f o) × Pairs (Precedes deadline_of) (queue_of f o)
  -- of which the new one has the largest.
  pub last : offer_asked f o ≡ 0 → All (λ (j : Job). j.number < (new_job f o).number) (waiting_of f)
  -- The walk books all exactly when each job has the best of all choices behind those before it, and not all exactly when some job has no choice at
  -- all behind the best of those before it.
  pub books : offer_asked f o ≡ 0
      → ((accepts f o ≡ true) ↔ BestAll (walk_terms_of f) (free_times_of f) (queue_of f o)) × ((accepts f o ≡ false) ↔ Fails (walk_terms_of f) (free_times_of f) (queue_of f o))
  -- Each job of the walk, by its own costs, b the free times that those before it have left, has no booking exactly when it has no choice; otherwise it has the best
  -- of all choices, and no other booking is that.
  pub jobs : offer_asked f o ≡ 0 → InTurn (λ w b j. IsBooking (request_of w b j) b.free (step w b j).booking) (walk_terms_of f) (free_times_of f) (queue_of f o)

-- ---- The theorem

module _ (f : Farm) (o : Offer) where
  -- An offer that is accepted has passed the questions before the walk.
  passed : (offer_said f o).number ≡ 0 → offer_asked f o ≡ 0
  passed h = go (offer_asked f o) refl
    where
      go : (n : ℕ) → offer_asked f o ≡ n → offer_asked f o ≡ 0
      go zero q = q
      go (suc n) q = absurd (let r = ap (λ (x : Said). x.number) (offer_stopped f o n q).0 in omega arith)

  -- What the walk of an offer past them starts from.
  ready : offer_asked f o ≡ 0 → Ready (walk_terms_of f) (free_times_of f) (queue_of f o)
  ready e = walk_ready f (new_job f o) (offer_offered f o (offer_granted f o e))

  module _ (sized : Sized f) where
    enough : offer_asked f o ≡ 0 → f.nodes ≤ length f.free
    enough e = omega (arith, sized.free, (passes_within f (offer_granted f o e).passes).nodes.1)

    -- The walk of an offer that is accepted books all, and the next farm has its plan.
    accepted_plan : (offer_said f o).number ≡ 0 → (accepts f o ≡ true) × (offer_farm f o ≡ with_plan f (planned f o))
    accepted_plan h =
        ⊎_elim (λ x. (x.0, x.3)) (λ x. absurd (let r = ap (λ (y : Said). y.number) x.2 in omega arith))
        (offer_is f o (enough (passed h)) (passed h))

-- **Demand 2.** It holds of every offer to every farm.
pub demand2 : (f : Farm) (o : Offer) → Sized f → Demand2 f o
demand2 f o sized = record {
  questions = (offer_granted f o, granted_asked f o);
  accepted = (
    λ h. (passed f o h, (accepted_plan f o sized h).0),
    λ h. ⊎_elim (λ x. x.2) (λ x. absurd (false≢true (sym x.0 ∙ h.1))) (offer_is f o (enough f o sized h.0) h.0),
  );
  replaces = λ h.
      let t = accepted_plan f o sized h in
      (t.1, ap waiting_of t.1 ∙ queue_waits f (f.used + 1) (planned f o));
  stopped = offer_stopped f o;
  unbooked = λ e n. ⊎_elim (λ x. absurd (false≢true (sym n ∙ x.0))) (λ x. (x.2, x.3)) (offer_is f o (enough f o sized e) e);
  walked = walked_jobs (waiting_of f ++ new_job f o ∷ []);
  last = λ e. all_map (λ j h. omega (arith, h.0.number.1)) (waiting_of f) (passes_jobs f (offer_granted f o e).passes);
  books = λ e. walk_iff (walk_terms_of f) (free_times_of f) (queue_of f o) (ready f o e) (enough f o sized e);
  jobs = λ e. walk_each (walk_terms_of f) (free_times_of f) (queue_of f o) (ready f o e) (enough f o sized e);
}
