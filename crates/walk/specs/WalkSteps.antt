-- What `walked` starts from and comes to, and its loop's steps, one job each.
use Rattle.std.specs.Prelude.{◌≡◌, List, [], ◌∷◌, ◌++◌, map, true, false, ◌&&◌, Option, MatchOption, ℕ, ◌+◌, ◌≤◌, ◌<◌, length, get_or, take, drop, set, leb}
use Rattle.std.proofs.Common.{ap, sym, ◌∙◌, append_assoc, leb-true, add-one, arith}
use Rattle.std.proofs.Math.Seq.{take-suc-set, drop-cons}
use Rattle.lists.specs.Laws.{All, all_map}
use Rattle.shares.specs.Model.{answers}
use Rattle.limits.specs.Model.{CostsWithin}
use Rattle.limits.specs.Tests.{and_both}
use Rattle.booking.specs.declared.Booking.{Booking}
use Rattle.booking.specs.Model.{booking_of, ranked}
use Rattle.booking.specs.Best.{chosen, Feasible}
use Rattle.booking.specs.Rank.{ranked_is}
use Rattle.booking.specs.NoneEarlier.{no_more}
use Rattle.booking.specs.Booked.{book_feasible}
use Rattle.walk.specs.declared.Job.{Job}
use Rattle.walk.specs.declared.WalkTerms.{WalkTerms}
use Rattle.walk.specs.declared.FreeTimes.{FreeTimes}
use Rattle.walk.specs.declared.QueueEntry.{QueueEntry}
use Rattle.walk.specs.Model.{greatest, no_job, default_costs, lines_of, by_deadline, request_of, step, free_times_after, plan, books_all, InTurn}
use Rattle.walk.specs.View.{bare, jobs_of, Short}
use Rattle.walk.specs.Chain.{afters_length}
use Rattle.walk.specs.Chunks.{Sendable, finish_shares}

-- a job that can be walked
abbrev pub Walkable : Job → Type 0
Walkable j = (1 ≤ j.size) × (j.deadline ≤ greatest) × (j.compute ≤ 1_000_000)

-- what a walk starts from: costs and nodes for which the shares answer, costs within the table, free times in the time range, and jobs of at least one unit with a deadline in it and a compute cost within its limit
pub record Ready (w : WalkTerms) (b : FreeTimes) (js : List Job) : Type 0 where
  pub answered : answers (default_costs w.costs) w.nodes ≡ true
  pub costs : CostsWithin w.costs
  pub free : All (λ (t : ℕ). t ≤ greatest) (take w.nodes b.free)
  pub jobs : All Walkable js

-- the plan of the first n of these jobs, with its rows of cells: all are booked, the first n entries with these rows are
-- the plan, and the entries behind them are as they were
pub record Planned (w : WalkTerms) (b : FreeTimes) (jobs : List QueueEntry) (n : ℕ) (ks xs : List ℕ) (plans : List QueueEntry) : Type 0 where
  pub books : books_all w b (by_deadline (map bare (take n jobs))) ≡ true
  pub jobs_are : take n (jobs_of ks xs plans) ≡ plan w b (by_deadline (map bare (take n jobs)))
  pub few : All Short (take n plans)
  pub rest : drop n plans ≡ drop n jobs
  pub size : length plans ≡ 128

-- what the walk of the first n of these jobs comes to, with rows of cells for it: their plan where all are booked
abbrev pub Walked : WalkTerms → FreeTimes → List QueueEntry → ℕ → Option (List QueueEntry) → List ℕ → List ℕ → Type 0
Walked w b jobs n r ks xs = MatchOption r (books_all w b (by_deadline (map bare (take n jobs))) ≡ false) (Planned w b jobs n ks xs)

-- each job has a feasible booking behind those before it
abbrev pub FeasibleAll : WalkTerms → FreeTimes → List Job → Type 0
FeasibleAll = InTurn (λ w b j. Feasible (request_of w b j) b.free (step w b j).booking)

-- A job that is booked has a feasible booking behind those before it.
pub step_feasible : (w : WalkTerms) (b : FreeTimes) (j : Job) → answers (default_costs w.costs) w.nodes ≡ true → w.nodes ≤ length b.free → 1 ≤ j.size
    → ((step w b j).booking.count ≡ 0 → ⊥) → Feasible (request_of w b j) b.free (step w b j).booking
step_feasible w b j e h z n = book_feasible (request_of w b j) b.free e h z n

-- Its chunks can be worked out.
pub feasible_sends : (w : WalkTerms) (b : FreeTimes) (j : Job) → w.nodes ≤ 64 → CostsWithin w.costs → w.nodes ≤ length b.free → j.deadline ≤ greatest → j.compute ≤ 1_000_000 → Feasible (request_of w b j) b.free (step w b j).booking
    → Sendable w.costs (step w b j)
unfolding booking_of
feasible_sends w b j f r h d p x =
    let q : Booking = (step w b j).booking in
    let k : q.count ≡ length (chosen q) = ap (λ (y : Booking). y.count) x.blank in
    let m : length (chosen q) ≤ w.nodes = no_more w.nodes b.free (ranked w.nodes b.free) (ranked_is w.nodes b.free h) (chosen q) x.choice.known x.choice.differ in
    record {
      few = omega arith;
      nodes = sym k;
      shares = sym (k ∙ x.choice.paired);
      known = all_map (λ y a. (a.0, omega (arith, a.1))) (chosen q) x.choice.known;
      ends = omega (arith, finish_shares w.costs (step w b j) x.choice.paired, x.choice.ends);
      costs = r;
      compute = p;
    }

-- A walk that books all has a feasible booking for each job.
pub books_feasible : (w : WalkTerms) (b : FreeTimes) (js : List Job) → answers (default_costs w.costs) w.nodes ≡ true → w.nodes ≤ length b.free → All (λ (j : Job). 1 ≤ j.size) js → books_all w b js ≡ true
    → FeasibleAll w b js
unfolding books_all
books_feasible w b [] e h z t = tt
books_feasible w b (j ∷ js) e h z t =
    let both = and_both (leb 1 (step w b j).booking.count) (books_all w (free_times_after w b j) js) t in
    let one : 1 ≤ (step w b j).booking.count = leb-true 1 _ both.0 in (
      step_feasible w b j e h z.0 (λ n. omega arith),
      books_feasible w (free_times_after w b j) js e (omega (arith, afters_length b (lines_of w.costs (step w b j)))) z.1 both.1,
    )

-- Jobs in a row, of which the one at place i comes next.
module _ (w : WalkTerms) (queue : List Job) (i : ℕ) (h : i < length queue) (b : FreeTimes) where
  abbrev next : Job
  next = get_or queue i no_job

  -- All are booked if it is, and those behind it.
  pub books_next : books_all w b (drop i queue) ≡ (leb 1 (step w b next).booking.count && books_all w (free_times_after w b next) (drop (i + 1) queue))
  unfolding books_all
  books_next = rw (add-one i, drop-cons queue i no_job h)

  -- The plan has it next.
  pub plan_next : (out : List Job) → i < length out → (whole : List Job) → whole ≡ take i out ++ plan w b (drop i queue)
      → whole ≡ take (i + 1) (set out i (step w b next)) ++ plan w (free_times_after w b next) (drop (i + 1) queue)
  unfolding plan
  plan_next out k whole e = e ∙ rw (add-one i, drop-cons queue i no_job h, take-suc-set out i (step w b next) k, append_assoc)
