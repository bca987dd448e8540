-- Opening, offers and accounts, question by question: what the functions of src/calls.rt need and promise each other.
use Rattle.std.specs.Prelude.{◌≡◌, refl, List, [], ◌∷◌, ◌++◌, false, ◌&&◌, ℕ, ◌-◌, ◌≤◌, ◌<◌, leb, ltb, length, Ok, Err}
use Rattle.std.proofs.Math.Path.{ap}
use Rattle.std.proofs.Common.{sym, ◌∙◌, ltb-true, leb-true}
use Rattle.std.proofs.Math.Bool.{true}
use Rattle.lists.specs.Laws.{all_join, all_map, perm_all}
use Rattle.limits.specs.declared.FarmCosts.{FarmCosts}
use Rattle.shares.specs.Answers.{answered}
use Rattle.limits.specs.Tests.{and_both}
use Rattle.walk.specs.declared.Job.{Job}
use Rattle.walk.specs.Order.{by_deadline_perm}
use Rattle.walk.specs.WalkSteps.{Walkable, Ready}
use Rattle.answers.specs.Steps.{asked_all}
use Rattle.planner.specs.declared.Farm as stored
use Rattle.planner.specs.declared.Opening.{Opening}
use Rattle.answers.specs.declared.Offer.{Offer}
use Rattle.planner.specs.declared.Reply.{Reply}
use Rattle.answers.specs.declared.Question.{Question}
use Rattle.answers.specs.declared.Question.TheVariants as question
use Rattle.answers.specs.declared.Granted.TheVariants as answer
use Rattle.planner.specs.Model.{Farm, farm_of, meant, greatest, between, costs_within, default_costs, waiting_of, walk_terms_of, free_times_of, by_deadline}
use Rattle.planner.specs.Passes.{passes_of}
use Rattle.planner.specs.PassesSteps.{passes_within, passes_jobs}
use Rattle.planner.specs.Parts.{new_figures, unopened_figures, new_means, OpensFigures}
use Rattle.planner.specs.Calls.{Account, Said, said, granted, refused, number_of, Replies, unopened, shows_within, open_said, open_farm, held_by, allowance_of, account_said, compute_of, asks_offer, offer_asked, offer_said, offer_farm, as_quote, quote_said}

-- ---- Opening

module _ (n : ℕ) (c : FarmCosts) (al : List ℕ) (r : Opening) where
  not_opened : (q : Question) → r ≡ record { answer = Err q; figures = unopened_figures } → open_said n c al ≡ refused (number_of q) → open_farm n c al ≡ unopened
      → OpensFigures r (open_said n c al) (open_farm n c al)
  not_opened q e s f = record {
    says = ap (λ (x : Opening). said x.answer) e ∙ sym s;
    means = λ ks xs. ap (λ (x : Opening). farm_of x.figures ks xs) e ∙ new_means false 0 _ [] ks xs ∙ sym f;
  }

  -- Refused with 1: the nodes.
  pub no_nodes : (q : Question) → number_of q ≡ 1 → r ≡ record { answer = Err q; figures = unopened_figures } → between 1 n 64 ≡ false → OpensFigures r (open_said n c al) (open_farm n c al)
  unfolding open_said open_farm
  no_nodes q m e a = not_opened q e (rw (a, m)) (rw a)

  -- Refused with 2: the costs.
  pub no_costs : (q : Question) → number_of q ≡ 2 → r ≡ record { answer = Err q; figures = unopened_figures } → between 1 n 64 ≡ true → costs_within c ≡ false
      → OpensFigures r (open_said n c al) (open_farm n c al)
  unfolding open_said open_farm
  no_costs q m e a b = not_opened q e (rw (a, b, m)) (rw (a, b))

  -- Refused with 3: the shows.
  pub no_shows : (q : Question) → number_of q ≡ 3 → r ≡ record { answer = Err q; figures = unopened_figures } → between 1 n 64 ≡ true → costs_within c ≡ true → shows_within al ≡ false
      → OpensFigures r (open_said n c al) (open_farm n c al)
  unfolding open_said open_farm
  no_shows q m e a b d = not_opened q e (rw (a, b, d, m)) (rw (a, b, d))

  -- Granted.
  pub opens : r ≡ record { answer = Ok (answer.Open n (length al)); figures = new_figures true n c al } → between 1 n 64 ≡ true → costs_within c ≡ true → shows_within al ≡ true
      → OpensFigures r (open_said n c al) (open_farm n c al)
  unfolding open_said open_farm
  opens e a b d = record {
    says = ap (λ (x : Opening). said x.answer) e ∙ rw (a, b, d);
    means = λ ks xs. ap (λ (x : Opening). farm_of x.figures ks xs) e ∙ new_means true n c al ks xs ∙ rw (a, b, d);
  }

-- ---- Accounts

-- An account is refused with 11, then with 4, and granted otherwise.
pub account_unsound : (f : Farm) (s : ℕ) → passes_of f ≡ false → account_said f s ≡ refused 11
unfolding account_said
account_unsound f s e = rw e

pub account_unknown : (f : Farm) (s : ℕ) → passes_of f ≡ true → between 1 s f.shows ≡ false → account_said f s ≡ refused 4
unfolding account_said
account_unknown f s e k = rw (e, k)

pub account_told : (f : Farm) (s : ℕ) → passes_of f ≡ true → between 1 s f.shows ≡ true
    → account_said f s ≡ granted Account (s ∷ held_by f s ∷ (held_by f s - allowance_of f s) ∷ [])
unfolding account_said
account_told f s e k = rw (e, k)

-- ---- Offers

module _ (f : Farm) (o : Offer) where
  pub asked_farm : passes_of f ≡ false → offer_asked f o ≡ 11
  unfolding offer_asked
  asked_farm a = rw a

  -- Of a farm that passes question 11 the others are asked.
  pub asked_passed : (p n : ℕ) → passes_of f ≡ true → p ≡ compute_of f o → n ≡ asks_offer f.shows f.clock f.waiting f.used o p → n ≡ offer_asked f o
  unfolding offer_asked
  asked_passed p n a e h = rw a (h ∙ ap (asks_offer f.shows f.clock f.waiting f.used o) e)

  -- Where each is answered yes none stops it.
  pub asked_none : passes_of f ≡ true → between 1 o.show f.shows ≡ true → between 1 o.size 1_000_000 ≡ true → between 1 (compute_of f o) 1_000_000 ≡ true
      → (ltb f.clock o.deadline && leb o.deadline greatest) ≡ true → (ltb f.waiting 128 && ltb f.used greatest) ≡ true → offer_asked f o ≡ 0
  asked_none a b c p e g = sym (asked_passed (compute_of f o) 0 a refl (sym (asked_all f.shows f.clock f.waiting f.used o (compute_of f o) b c p e g)))

-- A quote of a farm that does not pass is refused with 11.
pub quote_unsound : (f : Farm) (o : Offer) → passes_of f ≡ false → quote_said f o ≡ refused 11
unfolding quote_said offer_said
quote_unsound f o e = let s : offer_said f o ≡ refused 11 = rw (asked_farm f o e) in ap as_quote s

-- ---- Replies

-- A refusal that hands back the farm, where the call is refused so and hands the farm back.
pub refuses : (f : stored.Farm) (r : Reply) (q : Question) (s : Said) (next : Farm) → r ≡ record { answer = Err q; farm = f } → s ≡ refused (number_of q) → meant f ≡ next → Replies f r s next
refuses f r q s next e n m = record {
  says = ap (λ (x : Reply). said x.answer) e ∙ sym n;
  hands = ap (λ (x : Reply). meant x.farm) e ∙ m;
  same = λ _. ap (λ (x : Reply). x.farm) e;
}

-- An offer to a farm that does not pass is refused with 11.
pub offer_unsound : (f : stored.Farm) (o : Offer) (r : Reply) → passes_of (meant f) ≡ false → r ≡ record { answer = Err question.Farm; farm = f }
    → Replies f r (offer_said (meant f) o) (offer_farm (meant f) o)
unfolding offer_said offer_farm
offer_unsound f o r e h = let a = asked_farm (meant f) o e in refuses f r question.Farm _ _ h (rw a) (rw a)

-- ---- What the functions of an offer promise each other

-- What questions 6 and 7 say.
pub deadline_is : (t d : ℕ) → (ltb t d && leb d greatest) ≡ true → (t < d) × (d ≤ greatest)
deadline_is t d e = (ltb-true t d (and_both (ltb t d) (leb d greatest) e).0, leb-true d greatest (and_both (ltb t d) (leb d greatest) e).1)

pub place_is : (w u : ℕ) → (ltb w 128 && ltb u greatest) ≡ true → (w < 128) × (u < greatest)
place_is w u e = (ltb-true w 128 (and_both (ltb w 128) (ltb u greatest) e).0, ltb-true u greatest (and_both (ltb w 128) (ltb u greatest) e).1)

-- a farm and a job that may be walked: past questions 11, 5, 6 and 7
pub record Offered (f : Farm) (j : Job) : Type 0 where
  pub passes : passes_of f ≡ true
  pub size : 1 ≤ j.size
  pub deadline : j.deadline ≤ greatest
  pub compute : j.compute ≤ 1_000_000
  pub waiting : f.waiting < 128
  pub used : f.used < greatest

-- On a farm that passes, the walk has costs and nodes that the shares answer for, free times in the range, and jobs of at least a unit with
-- deadlines in the range and compute costs within their limit.
pub offer_ready : (f : Farm) (j : Job) → Offered f j → Ready (walk_terms_of f) (free_times_of f) (waiting_of f ++ j ∷ [])
offer_ready f j o =
    let g = passes_within f o.passes in
    record {
      answered = answered (default_costs f.costs) f.nodes g.costs.send.0 g.nodes.1;
      costs = g.costs;
      free = g.free;
      jobs = all_join Walkable (waiting_of f) (j ∷ [])
          (all_map (λ x a. (a.0.size.0, a.0.deadline, a.0.compute.1)) (waiting_of f) (passes_jobs f o.passes)) ((o.size, o.deadline, o.compute), tt);
    }

pub walk_ready : (f : Farm) (j : Job) → Offered f j → Ready (walk_terms_of f) (free_times_of f) (by_deadline (waiting_of f ++ j ∷ []))
walk_ready f j o =
    let r = offer_ready f j o in
    record {
      answered = r.answered;
      costs = r.costs;
      free = r.free;
      jobs = perm_all Walkable (by_deadline_perm (waiting_of f ++ j ∷ [])) r.jobs;
    }
