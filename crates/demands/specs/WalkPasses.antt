-- What a walk keeps, over any queue: where the jobs of the queue are within their limits and the walk books them all, the farm with its plan in place of the
-- old one passes question 11. An offer walks the waiting jobs and the new one.
use Rattle.std.specs.Prelude.{◌≡◌, List, ◌++◌, map, true, ℕ, ◌-◌, ◌≤◌, length, replicate}
use Rattle.std.proofs.Common.{ap, sym, subst, ◌∙◌, arith, length-append}
use mathlib.Core.List.Permᴰ
use Rattle.std.proofs.lemmas.List.{length-replicate}
use Rattle.lists.specs.Laws.{All, Pairs, Differ, all_map, all_both, all_image, image_all, perm_all, perm_pairs, perm_length}
use Rattle.shares.specs.Answers.{answered}
use Rattle.shares.specs.Chunks.{finish_latest}
use Rattle.booking.specs.declared.Booking.{Booking}
use Rattle.booking.specs.Model.{booking_of}
use Rattle.booking.specs.Best.{chosen, units, Feasible}
use Rattle.booking.specs.Booked.{some_share}
use Rattle.walk.specs.declared.Job.{Job}
use Rattle.walk.specs.declared.WalkTerms.{WalkTerms}
use Rattle.walk.specs.declared.FreeTimes.{FreeTimes}
use Rattle.planner.specs.Model.{Farm, greatest, default_costs, own_costs, spans_of_all, JobSized, Sized, free_times_of, walk_terms_of, request_of, step, by_deadline, plan, books_all, Apart, Between}
use Rattle.planner.specs.Passes.{bounds_of, JobWithin, JobSound, Within, Passes}
use Rattle.planner.specs.Changes.{with_queue, jobs_within, queue_sized, queue_waits}
use Rattle.walk.specs.Chain.{Fits, Chain, Proper, chain_follows, chain_apart}
use Rattle.walk.specs.Chunks.{finish_shares}
use Rattle.walk.specs.Order.{by_deadline_perm}
use Rattle.walk.specs.WalkSteps.{FeasibleAll, feasible_sends, books_feasible}
use Rattle.walk.specs.Plan.{plan_chain, plan_all, plan_numbers, plan_length}
use Rattle.limits.specs.Model.{CostsWithin}
use Rattle.soundness.specs.Sweep.{spans_each, spans_all}
use Rattle.soundness.specs.Sound.{JobKept, Behind, Paired, fits_behind, job_spans}
use Rattle.queue.specs.Numbers.{number_of_job}

-- ---- The jobs of a plan

-- the figures of a job but its booking, u job numbers used and s shows
pub record HeadWithin (u s : ℕ) (j : Job) : Type 0 where
  pub number : Between 1 j.number u
  pub show : Between 1 j.show s
  pub size : Between 1 j.size 1_000_000
  pub compute : Between 1 j.compute 1_000_000
  pub deadline : j.deadline ≤ greatest

-- a job of a plan: its figures within the farm's limits, its booking kept, and arrays of their lengths
pub record Planned (f : Farm) (j : Job) : Type 0 where
  pub within : JobWithin (bounds_of f) j
  pub kept : JobKept (bounds_of f) j
  pub paired : Paired j
  pub sized : JobSized j

padded : (xs : List ℕ) → length xs ≤ 64 → length (xs ++ replicate (64 - length xs) 0) ≡ 64
padded xs h = omega (arith, length-append xs (replicate (64 - length xs) 0), length-replicate {A = ℕ} (64 - length xs) 0)

-- a booking's arrays have 64 cells
booking_sized : (j : Job) → j.booking ≡ booking_of j.booking.start (chosen j.booking) (units j.booking) → length (chosen j.booking) ≤ 64 → length (units j.booking) ≤ 64 → JobSized j
unfolding booking_of
booking_sized j e h k =
    let ks = chosen j.booking in
    let xs = units j.booking in
    record {
      nodes = ap (λ (b : Booking). length b.nodes) e ∙ padded ks h;
      shares = ap (λ (b : Booking). length b.shares) e ∙ padded xs k;
    }

-- A feasible booking of a job whose other figures are within the limits is one of a plan.
pub feasible_planned : (f : Farm) (b : FreeTimes) (j : Job) → f.nodes ≤ 64 → CostsWithin f.costs → length b.free ≡ 64 → HeadWithin f.used f.shows j
    → Feasible (request_of (walk_terms_of f) b j) b.free (step (walk_terms_of f) b j).booking → Planned f (step (walk_terms_of f) b j)
feasible_planned f b j n r l h x =
    let w = walk_terms_of f in
    let q = (step w b j).booking in
    let k = x.choice in
    let s = feasible_sends w b j n r (omega arith) h.deadline h.compute.1 x in
    let some : 1 ≤ length (units q) = some_share (units q) (omega (arith, k.all, h.size.0)) in
    let by : q.start ≤ j.deadline = ((finish_latest (own_costs f.costs j) q.start j.deadline (units q)).0 k.ends).0 in
    record {
      within = record {
        number = h.number;
        show = h.show;
        size = h.size;
        compute = h.compute;
        deadline = h.deadline;
        start = omega (arith, h.deadline);
        count = (omega (arith, s.shares), s.few);
        nodes = k.known;
      };
      kept = record { clock = omega (arith, k.after); each = k.each; all = k.all; ends = omega (arith, finish_shares f.costs (step w b j) k.paired, k.ends) };
      paired = (k.paired, omega (arith, k.paired));
      sized = booking_sized (step w b j) x.blank (omega (arith, s.nodes, s.few)) (omega (arith, s.shares, s.few));
    }

-- ---- A queue

-- a walk of the jobs js on a farm that passes, u job numbers used after it: at most 128 jobs within their limits, of different numbers, that it books all
pub record WalksAll (f : Farm) (u : ℕ) (js : List Job) : Type 0 where
  pub passes : Passes f
  pub used : u ≤ greatest
  pub few : length js ≤ 128
  pub heads : All (HeadWithin u f.shows) js
  pub differ : Differ (map number_of_job js)
  pub books : books_all (walk_terms_of f) (free_times_of f) (by_deadline js) ≡ true

-- The numbers of a plan are those of its queue.
pub plan_queue_numbers : (P : ℕ → Type 0) (w : WalkTerms) (b : FreeTimes) (js : List Job) → All (λ (j : Job). P j.number) js → All (λ (j : Job). P j.number) (plan w b (by_deadline js))
plan_queue_numbers P w b js h =
    image_all P number_of_job (plan w b (by_deadline js))
    (subst (All P) (sym (plan_numbers w b (by_deadline js))) (all_image P number_of_job (by_deadline js) (perm_all (λ (j : Job). P j.number) (by_deadline_perm js) h)))

module _ (f : Farm) (u : ℕ) (js : List Job) (sized : Sized f) (x : WalksAll f u js) where
  -- its plan, and the farm that has it
  abbrev plan_of : List Job
  plan_of = plan (walk_terms_of f) (free_times_of f) (by_deadline js)

  abbrev next : Farm
  next = with_queue f u plan_of

  figures : Within f
  figures = x.passes.within

  heads : All (HeadWithin u f.shows) (by_deadline js)
  heads = perm_all (HeadWithin u f.shows) (by_deadline_perm js) x.heads

  feasible : FeasibleAll (walk_terms_of f) (free_times_of f) (by_deadline js)
  feasible =
      books_feasible (walk_terms_of f) (free_times_of f) (by_deadline js) (answered (default_costs f.costs) f.nodes figures.costs.send.0 figures.nodes.1) (omega (arith, sized.free, figures.nodes.1))
      (all_map (λ j h. h.size.0) (by_deadline js) heads) x.books

  -- Each job of the plan is within its limits and kept.
  jobs_planned : All (Planned next) plan_of
  jobs_planned =
      plan_all (HeadWithin u f.shows) (Planned next) (walk_terms_of f) (free_times_of f) (by_deadline js)
      (λ b j l h y. feasible_planned next b j figures.nodes.1 figures.costs l h y) sized.free heads feasible

  count : length plan_of ≡ length js
  count = plan_length (walk_terms_of f) (free_times_of f) (by_deadline js) ∙ sym (perm_length (by_deadline_perm js))

  -- The farm with the plan has its arrays.
  pub walked_sized : Sized (with_queue f u (plan (walk_terms_of f) (free_times_of f) (by_deadline js)))
  walked_sized = queue_sized f u plan_of sized (omega (arith, count, x.few)) (all_map (λ j h. h.sized) plan_of jobs_planned)

  spans_proper : All (Proper 64) (spans_of_all f.costs plan_of)
  spans_proper =
      spans_all (Proper 64) f.costs plan_of
      (all_map (λ j h. job_spans (bounds_of next) j (record { nodes = figures.nodes.1; costs = figures.costs }) h.within h.kept.each) plan_of jobs_planned)

  chain : Chain (free_times_of f) (spans_of_all f.costs plan_of)
  chain = plan_chain (walk_terms_of f) (free_times_of f) (by_deadline js) feasible

  -- Each job of the plan is behind the farm's free times.
  jobs_behind : All (Behind (free_times_of f)) plan_of
  jobs_behind =
      let fits = spans_each (Fits (free_times_of f)) f.costs plan_of ((chain_follows (free_times_of f) (spans_of_all f.costs plan_of) sized.free spans_proper).0 chain).0 in
      all_both (λ j h k. fits_behind (free_times_of f) f.costs j h.paired k) plan_of jobs_planned fits

  numbers_differ : Differ (map number_of_job plan_of)
  numbers_differ =
      subst Differ (sym (plan_numbers (walk_terms_of f) (free_times_of f) (by_deadline js)))
      (perm_pairs (λ (a b : ℕ). a ≡ b → ⊥) (λ a b n e. n (sym e)) (Permᴰ.map number_of_job (by_deadline_perm js)) x.differ)

  -- It passes question 11.
  pub walked_passes : Passes (with_queue f u (plan (walk_terms_of f) (free_times_of f) (by_deadline js)))
  walked_passes =
      let waits = queue_waits f u plan_of in
      record {
        opened = x.passes.opened;
        within = jobs_within f u (length plan_of) next.jobs figures x.used (omega (arith, count, x.few));
        jobs = subst (All (JobWithin (bounds_of next))) (sym waits) (all_map (λ j h. h.within) plan_of jobs_planned);
        sound = record {
          jobs = subst (All (JobSound (bounds_of next) (free_times_of next))) (sym waits)
              (all_both (λ j h b. record { clock = h.kept.clock; link = b.0; free = b.1; each = h.kept.each; all = h.kept.all; ends = h.kept.ends }) plan_of jobs_planned jobs_behind);
          apart = subst (λ (l : List Job). Pairs Apart (spans_of_all f.costs l)) (sym waits) (chain_apart (free_times_of f) (spans_of_all f.costs plan_of) sized.free spans_proper chain);
          differ = subst (λ (l : List Job). Differ (map number_of_job l)) (sym waits) numbers_differ;
        };
      }
