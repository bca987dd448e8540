-- A granted opening hands back a farm that passes question 11, and so does every offer to a farm that passes it.
use Rattle.std.specs.Prelude.{◌≡◌, refl, List, [], ◌∷◌, ◌++◌, Bool, true, false, cond, ◌&&◌, ℕ, zero, suc, ◌+◌, ◌-◌, ◌≤◌, eqb, length, take, replicate}
use Rattle.std.proofs.Common.{ap, sym, subst, arith, eqb-true, length-append, take_at, length-take-le}
use mathlib.Core.List.Permᴰ
use Rattle.std.proofs.lemmas.List.{length-replicate}
use Rattle.lists.specs.Laws.{All, all_map, all_image, all_take, all_join, perm_pairs}
use Rattle.limits.specs.declared.FarmCosts.{FarmCosts}
use Rattle.booking.specs.Model.{booking_of}
use Rattle.answers.specs.declared.Offer.{Offer}
use Rattle.planner.specs.Model.{Farm, greatest, most_held, between, all_at_most, costs_within, empty_job, spans_of_all, JobSized, Sized, waiting_of}
use Rattle.planner.specs.Passes.{passes_of, Passes}
use Rattle.planner.specs.Calls.{unopened, opened_with, shows_within, open_farm, new_job, planned, accepts, with_plan, offer_asked, offer_farm, OfferGranted}
use Rattle.limits.specs.Says.{says_costs, says_at_most, between_is}
use Rattle.demands.specs.QuestionEleven.{passes_iff}
use Rattle.limits.specs.Tests.{and_both}
use Rattle.queue.specs.Numbers.{number_of_job}
use Rattle.demands.specs.WalkPasses.{HeadWithin, WalksAll, walked_sized, walked_passes}
use Rattle.planner.specs.OfferSteps.{offer_granted}

-- ---- An opening

pub all_replicate : {A : Type 0} (P : A → Type 0) (n : ℕ) (x : A) → P x → All P (replicate n x)
all_replicate P zero x h = tt
all_replicate P (suc n) x h = (h, all_replicate P n x h)

empty_sized : JobSized empty_job
unfolding booking_of
empty_sized = record { nodes = length-replicate {A = ℕ} 64 0; shares = length-replicate {A = ℕ} 64 0 }

-- The unopened farm has its arrays.
pub unopened_sized : Sized unopened
unopened_sized = record {
  allowances = length-replicate {A = ℕ} 32 0;
  held = length-replicate {A = ℕ} 32 0;
  free = length-replicate {A = ℕ} 64 0;
  jobs = length-replicate 128 empty_job;
  each = all_replicate JobSized 128 empty_job empty_sized;
}

opened_sized : (n : ℕ) (c : FarmCosts) (al : List ℕ) → length al ≤ 32 → Sized (opened_with n c al)
opened_sized n c al h = record {
  allowances = omega (arith, length-append al (replicate (32 - length al) 0), length-replicate {A = ℕ} (32 - length al) 0);
  held = length-replicate {A = ℕ} 32 0;
  free = length-replicate {A = ℕ} 64 0;
  jobs = length-replicate 128 empty_job;
  each = all_replicate JobSized 128 empty_job empty_sized;
}

opened_passes : (n : ℕ) (c : FarmCosts) (al : List ℕ) → between 1 n 64 ≡ true → costs_within c ≡ true → shows_within al ≡ true → Passes (opened_with n c al)
unfolding spans_of_all
opened_passes n c al a b d =
    let s = between_is 1 (length al) 32 (and_both (between 1 (length al) 32) (all_at_most greatest al) d).0 in
    let front : take (length al) (al ++ replicate (32 - length al) 0) ≡ al = take_at al (replicate (32 - length al) 0) (length al) refl in
    record {
      opened = refl;
      within = record {
        nodes = between_is 1 n 64 a;
        costs = (says_costs c).yields b;
        shows = s;
        allowances = rw front ((says_at_most greatest al).yields (and_both (between 1 (length al) 32) (all_at_most greatest al) d).1);
        held = all_take (λ (x : ℕ). x ≤ most_held) (length al) (replicate 32 0) (all_replicate (λ (x : ℕ). x ≤ most_held) 32 0 (omega arith));
        clock = omega arith;
        link = omega arith;
        free = all_take (λ (x : ℕ). x ≤ greatest) n (replicate 64 0) (all_replicate (λ (x : ℕ). x ≤ greatest) 64 0 (omega arith));
        used = omega arith;
        waiting = omega arith;
      };
      jobs = tt;
      sound = record { jobs = tt; apart = tt; differ = tt };
    }

pub opens_with : (n : ℕ) (c : FarmCosts) (al : List ℕ) → (between 1 n 64 && costs_within c && shows_within al) ≡ true → open_farm n c al ≡ opened_with n c al
unfolding open_farm
opens_with n c al e = ap (λ (b : Bool). cond b (opened_with n c al) unopened) e

-- the three questions of an opening, from their one test
opening_asked : (n : ℕ) (c : FarmCosts) (al : List ℕ) → (between 1 n 64 && costs_within c && shows_within al) ≡ true
    → (between 1 n 64 ≡ true) × (costs_within c ≡ true) × (shows_within al ≡ true)
opening_asked n c al e =
    let p = (and_both (between 1 n 64 && costs_within c) (shows_within al) e).0 in
    ((and_both (between 1 n 64) (costs_within c) p).0, (and_both (between 1 n 64) (costs_within c) p).1, (and_both (between 1 n 64 && costs_within c) (shows_within al) e).1)

-- An opening, granted or not, hands back a farm with its arrays.
pub open_sized : (n : ℕ) (c : FarmCosts) (al : List ℕ) → Sized (open_farm n c al)
unfolding open_farm
open_sized n c al = go (between 1 n 64 && costs_within c && shows_within al) refl
  where
    go : (b : Bool) → (between 1 n 64 && costs_within c && shows_within al) ≡ b → Sized (cond b (opened_with n c al) unopened)
    go true e =
        let q = opening_asked n c al e in
        opened_sized n c al (between_is 1 (length al) 32 (and_both (between 1 (length al) 32) (all_at_most greatest al) q.2).0).1
    go false e = unopened_sized

-- A granted opening hands back a farm that passes question 11.
pub open_passes : (n : ℕ) (c : FarmCosts) (al : List ℕ) → (between 1 n 64 && costs_within c && shows_within al) ≡ true → passes_of (open_farm n c al) ≡ true
open_passes n c al e =
    let q = opening_asked n c al e in
    (passes_iff (open_farm n c al) (open_sized n c al)).1 (granted q)
  where
    granted : (between 1 n 64 ≡ true) × (costs_within c ≡ true) × (shows_within al ≡ true) → Passes (open_farm n c al)
    granted q = subst Passes (sym (opens_with n c al e)) (opened_passes n c al q.0 q.1 q.2)

-- ---- An accepted offer

-- An offer that is accepted walks the waiting jobs and the new one, one number more used.
pub offer_walks : (f : Farm) (o : Offer) → Sized f → OfferGranted f o → accepts f o ≡ true → WalksAll f (f.used + 1) (waiting_of f ++ new_job f o ∷ [])
offer_walks f o sized g books =
    let p = (passes_iff f sized).0 g.passes in
    let ws = waiting_of f in
    let new = new_job f o in
    record {
      passes = p;
      used = omega (arith, g.place.1);
      few = omega (arith, length-append ws (new ∷ []), length-take-le f.waiting f.jobs (omega (arith, sized.jobs, g.place.0)), g.place.0);
      heads = all_join (HeadWithin (f.used + 1) f.shows) ws (new ∷ [])
          (all_map (λ x a. record { number = (a.number.0, omega (arith, a.number.1)); show = a.show; size = a.size; compute = a.compute; deadline = a.deadline }) ws p.jobs)
          (record { number = (omega arith, omega arith); show = g.show; size = g.size; compute = g.compute; deadline = g.deadline.1 }, tt);
      differ = perm_pairs (λ (a b : ℕ). a ≡ b → ⊥) (λ a b n e. n (sym e)) (Permᴰ.map number_of_job (Permᴰ.append_comm (new ∷ []) ws))
          (all_image (λ (y : ℕ). f.used + 1 ≡ y → ⊥) number_of_job ws (all_map (λ x a e. omega (arith, a.number.1)) ws p.jobs), p.sound.differ);
      books = books;
    }

module _ (f : Farm) (o : Offer) (sized : Sized f) (g : OfferGranted f o) (yes' : accepts f o ≡ true) where
  -- An accepted offer hands back a farm with its arrays.
  pub accepted_sized : Sized (with_plan f (planned f o))
  accepted_sized = walked_sized f (f.used + 1) (waiting_of f ++ new_job f o ∷ []) sized (offer_walks f o sized g yes')

  -- It passes question 11.
  pub accepted_passes : Passes (with_plan f (planned f o))
  accepted_passes = walked_passes f (f.used + 1) (waiting_of f ++ new_job f o ∷ []) sized (offer_walks f o sized g yes')

-- ---- Any offer

-- An offer hands back the farm as it was, or the farm with the plan where all questions are answered yes.
pub offer_cases : (P : Farm → Type 0) (f : Farm) (o : Offer) → P f → (OfferGranted f o → accepts f o ≡ true → P (with_plan f (planned f o))) → P (offer_farm f o)
unfolding offer_farm
offer_cases P f o h k = go (eqb (offer_asked f o) 0) (accepts f o) refl refl
  where
    go : (a b : Bool) → eqb (offer_asked f o) 0 ≡ a → accepts f o ≡ b → P (cond a (cond b (with_plan f (planned f o)) f) f)
    go true true p q = k (offer_granted f o (eqb-true (offer_asked f o) 0 p)) q
    go true false p q = h
    go false b p q = h

-- An offer, accepted or not, hands back a farm with its arrays.
pub offer_sized : (f : Farm) (o : Offer) → Sized f → Sized (offer_farm f o)
offer_sized f o h = offer_cases Sized f o h (λ g e. accepted_sized f o h g e)

-- An offer to a farm that passes question 11 hands back a farm that passes it.
pub offer_passes : (f : Farm) (o : Offer) → Sized f → passes_of f ≡ true → passes_of (offer_farm f o) ≡ true
offer_passes f o h e =
    offer_cases (λ (g : Farm). passes_of g ≡ true) f o e
    (λ g y. (passes_iff (with_plan f (planned f o)) (accepted_sized f o h g y)).1 (accepted_passes f o h g y))
