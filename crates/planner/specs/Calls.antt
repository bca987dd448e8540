-- The calls: what each answers, with the paper's number and values, and the farm that it hands back. Offers, questions and answers are those of the crate
-- answers; which waiting job has a number, and the jobs without it, those of the crate queue.
pub use Rattle.answers.specs.Model.{SaidWord, Open, Yes, Clock, Shown, Account, Gone, Quote, No, Said, granted, refused, number_of, told, said, yes_of, offer_of, offer_with, compute_or, asks_offer, quote_word, as_quote}
unfoldable pub use Rattle.queue.specs.Model.{has_number, of_number, without}
use Rattle.std.specs.Prelude.{ℕ, ◌+◌, ◌-◌, ◌≤◌, ◌<◌, List, [], ◌∷◌, ◌++◌, Bool, true, false, cond, ◌&&◌, ◌≡◌, eqb, length, get_or, replicate}
use Rattle.limits.specs.declared.FarmCosts.{FarmCosts}
use Rattle.booking.specs.Model.{booking_of}
use Rattle.walk.specs.declared.Job.{Job}
use Rattle.planner.specs.declared.Farm as stored
use Rattle.answers.specs.declared.Offer.{Offer}
use Rattle.planner.specs.declared.Reply.{Reply}
use Rattle.planner.specs.Model.{Farm, meant, greatest, between, Between, all_at_most, costs_within, empty_job, waiting_of, walk_terms_of, free_times_of, by_deadline, plan, books_all}
use Rattle.planner.specs.Passes.{passes_of}
use Rattle.planner.specs.Changes.{with_queue}

-- ---- Replies

-- a reply to a call on the farm f: it says so, and the farm that it hands back means this one. A refusal hands back the
-- very farm that was given
pub record Replies (f : stored.Farm) (r : Reply) (a : Said) (next : Farm) : Type 0 where
  pub says : said r.answer ≡ a
  pub hands : meant r.farm ≡ next
  pub same : (a.number ≡ 0 → ⊥) → r.farm ≡ f

-- a reply to a call that only tells: it says so, and hands back the very farm that was given
pub record Tells (f : stored.Farm) (r : Reply) (a : Said) : Type 0 where
  pub says : said r.answer ≡ a
  pub hands : r.farm ≡ f

-- a reply to an opening: it says so, and the farm that it hands back means this one, with 0 in every cell; so it is the
-- same one each time
pub record Opens (r : Reply) (a : Said) (next : Farm) : Type 0 where
  pub says : said r.answer ≡ a
  pub hands : meant r.farm ≡ next
  pub nodes : r.farm.cells.nodes ≡ replicate 8192 0
  pub shares : r.farm.cells.shares ≡ replicate 8192 0

-- ---- Opening

-- a farm on which nothing has happened, opened or not, with these nodes, costs and allowances
abbrev pub new_farm : Bool → ℕ → FarmCosts → List ℕ → Farm
new_farm o n c al = record {
  opened = o;
  nodes = n;
  costs = c;
  shows = length al;
  allowances = al ++ replicate (32 - length al) 0;
  held = replicate 32 0;
  clock = 0;
  link = 0;
  free = replicate 64 0;
  used = 0;
  waiting = 0;
  jobs = replicate 128 empty_job;
}

-- the unopened farm: every figure is 0
abbrev pub unopened : Farm
unopened = new_farm false 0 (record { send = 0; compute = 0; linksetup = 0; nodesetup = 0; returning = 0 }) []

-- a farm just opened
abbrev pub opened_with : ℕ → FarmCosts → List ℕ → Farm
opened_with = new_farm true

-- 1 to 32 shows, each allowance within the table
abbrev pub shows_within : List ℕ → Bool
shows_within al = between 1 (length al) 32 && all_at_most greatest al

unfoldable pub open_said : ℕ → FarmCosts → List ℕ → Said
open_said n c al =
    cond (between 1 n 64) (cond (costs_within c) (cond (shows_within al) (granted Open (n ∷ length al ∷ [])) (refused 3)) (refused 2)) (refused 1)

unfoldable pub open_farm : ℕ → FarmCosts → List ℕ → Farm
open_farm n c al = cond (between 1 n 64 && costs_within c && shows_within al) (opened_with n c al) unopened

-- ---- Account

-- what a show has held, and its allowance
abbrev pub held_by : Farm → ℕ → ℕ
held_by f s = get_or f.held (s - 1) 0

abbrev pub allowance_of : Farm → ℕ → ℕ
allowance_of f s = get_or f.allowances (s - 1) 0

-- charged: the held ticks above the allowance, otherwise 0
unfoldable pub account_said : Farm → ℕ → Said
account_said f s =
    cond (passes_of f) (cond (between 1 s f.shows) (granted Account (s ∷ held_by f s ∷ (held_by f s - allowance_of f s) ∷ [])) (refused 4)) (refused 11)

-- ---- Offer

-- the compute cost that the job would have
abbrev pub compute_of : Farm → Offer → ℕ
compute_of f o = compute_or f.costs.compute o.compute

-- the job that is offered, with the next number
abbrev pub new_job : Farm → Offer → Job
new_job f o = record { number = f.used + 1; show = o.show; size = o.size; compute = compute_of f o; deadline = o.deadline; booking = booking_of 0 [] [] }

-- what is walked: the waiting jobs and the new one, by deadline
abbrev pub queue_of : Farm → Offer → List Job
queue_of f o = by_deadline (waiting_of f ++ new_job f o ∷ [])

-- the plan of the walk, and whether it books them all
abbrev pub planned : Farm → Offer → List Job
planned f o = plan (walk_terms_of f) (free_times_of f) (queue_of f o)

abbrev pub accepts : Farm → Offer → Bool
accepts f o = books_all (walk_terms_of f) (free_times_of f) (queue_of f o)

-- the farm with one number more used, and the new plan in place of the old
abbrev pub with_plan : Farm → List Job → Farm
with_plan f js = with_queue f (f.used + 1) js

-- questions 11, 4, 5, 2, 6 and 7 in that order: the number of the first answered no, or 0
unfoldable pub offer_asked : Farm → Offer → ℕ
offer_asked f o = cond (passes_of f) (asks_offer f.shows f.clock f.waiting f.used o (compute_of f o)) 11

-- what they ask, all answered yes
pub record OfferGranted (f : Farm) (o : Offer) : Type 0 where
  pub passes : passes_of f ≡ true
  pub show : Between 1 o.show f.shows
  pub size : Between 1 o.size 1_000_000
  pub compute : Between 1 (compute_of f o) 1_000_000
  pub deadline : (f.clock < o.deadline) × (o.deadline ≤ greatest)
  pub place : (f.waiting < 128) × (f.used < greatest)

-- past those, question 8: does the walk book them all?
unfoldable pub offer_said : Farm → Offer → Said
offer_said f o =
    cond (eqb (offer_asked f o) 0)
    (cond (accepts f o) (yes_of f.costs (of_number (f.used + 1) (planned f o))) (refused 8))
    (refused (offer_asked f o))

unfoldable pub offer_farm : Farm → Offer → Farm
offer_farm f o = cond (eqb (offer_asked f o) 0) (cond (accepts f o) (with_plan f (planned f o)) f) f

-- ---- Quote

-- what an offer to a copy of the farm is told, job number and refusals included, with quote in place of yes. The farm itself stays.
unfoldable pub quote_said : Farm → Offer → Said
quote_said f o = as_quote (offer_said f o)

-- ---- Withdrawal

-- the farm without job n: the other waiting jobs as they are, in the order that they have, and nothing walked
abbrev pub withdrawn_farm : Farm → ℕ → Farm
withdrawn_farm f n = with_queue f f.used (without n (waiting_of f))

-- questions 11 and 12 in that order; the job
unfoldable pub withdraw_said : Farm → ℕ → Said
withdraw_said f n = cond (passes_of f) (cond (has_number n (waiting_of f)) (granted Gone (n ∷ [])) (refused 12)) (refused 11)

unfoldable pub withdraw_farm : Farm → ℕ → Farm
withdraw_farm f n = cond (passes_of f && has_number n (waiting_of f)) (withdrawn_farm f n) f
