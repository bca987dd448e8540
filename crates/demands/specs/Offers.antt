-- Demand 2 on an offer: past the questions before the walk it is accepted exactly when the walk books the waiting jobs and the new one, and then the
-- next farm holds that plan.
use Rattle.std.specs.Prelude.{◌≡◌, refl, true, false, ◌&&◌, ◌⊎◌, ℕ, suc, ◌≤◌, leb, ltb, length}
use Rattle.std.proofs.Common.{inl, inr, ⊎_elim, arith, ne_eqb, le-leb, lt-ltb}
use Rattle.limits.specs.Says.{says_between}
use Rattle.walk.specs.BestWalk.{BestAll, Fails, walk_is}
use Rattle.answers.specs.declared.Offer.{Offer}
use Rattle.planner.specs.Model.{Farm, greatest, walk_terms_of, free_times_of}
use Rattle.planner.specs.Calls.{refused, offer_of, offer_with, compute_of, new_job, queue_of, planned, accepts, with_plan, offer_asked, offer_said, offer_farm, OfferGranted}
use Rattle.planner.specs.CallsSteps.{asked_none, walk_ready}
use Rattle.planner.specs.OfferSteps.{offer_granted, offer_offered}

-- An offer that does not pass questions 11, 4, 5, 2, 6 and 7 is refused with the number of the first answered no, and the farm is as it was.
pub offer_stopped : (f : Farm) (o : Offer) (n : ℕ) → offer_asked f o ≡ suc n → (offer_said f o ≡ refused (suc n)) × (offer_farm f o ≡ f)
unfolding offer_said offer_farm
offer_stopped f o n e = (rw (e, ne_eqb (suc n) 0 (λ h. omega arith)), rw (e, ne_eqb (suc n) 0 (λ h. omega arith)))

-- Where each of them is answered yes, the offer is asked all of them.
pub granted_asked : (f : Farm) (o : Offer) → OfferGranted f o → offer_asked f o ≡ 0
granted_asked f o g =
    let deadline : (ltb f.clock o.deadline && leb o.deadline greatest) ≡ true = rw (lt-ltb f.clock o.deadline g.deadline.0) (le-leb o.deadline greatest g.deadline.1) in
    let place : (ltb f.waiting 128 && ltb f.used greatest) ≡ true = rw (lt-ltb f.waiting 128 g.place.0) (lt-ltb f.used greatest g.place.1) in
    asked_none f o g.passes ((says_between 1 o.show f.shows).follows g.show) ((says_between 1 o.size 1_000_000).follows g.size) ((says_between 1 (compute_of f o) 1_000_000).follows g.compute) deadline place

-- An offer that gives no compute cost is the same call as one that gives the farm's.
pub absent_as_given : (f : Farm) (s z d : ℕ) → (offer_said f (offer_of s z d) ≡ offer_said f (offer_with s z d f.costs.compute)) × (offer_farm f (offer_of s z d) ≡ offer_farm f (offer_with s z d f.costs.compute))
unfolding offer_asked offer_said offer_farm
absent_as_given f s z d = (refl, refl)

-- **An offer.** Past those questions it is accepted exactly when the walk books every waiting job and the new one, each with the best of all choices
-- behind those before it, and then the next farm holds exactly that plan; otherwise some job has no choice at all behind the best of those before it,
-- and the offer is refused with 8, the farm as it was.
pub offer_is : (f : Farm) (o : Offer) → f.nodes ≤ length f.free → offer_asked f o ≡ 0
    → ((accepts f o ≡ true) × BestAll (walk_terms_of f) (free_times_of f) (queue_of f o) × ((offer_said f o).number ≡ 0) × (offer_farm f o ≡ with_plan f (planned f o)))
    ⊎ ((accepts f o ≡ false) × Fails (walk_terms_of f) (free_times_of f) (queue_of f o) × (offer_said f o ≡ refused 8) × (offer_farm f o ≡ f))
unfolding offer_said offer_farm
offer_is f o h e =
    ⊎_elim (λ x. inl (x.0, x.1, rw (e, x.0), rw (e, x.0))) (λ x. inr (x.0, x.1, rw (e, x.0), rw (e, x.0)))
    (walk_is (walk_terms_of f) (free_times_of f) (queue_of f o) (walk_ready f (new_job f o) (offer_offered f o (offer_granted f o e))) h)
