-- Demand 2 on the walk: it books every job exactly when each has the best of all choices behind those before it; a job fails there exactly when it
-- has no choice at all behind the best of those before it. One booking is shown best, and the only one with these properties, in the crate booking
-- (`book_is`, `book_iff`, `only`).
use Rattle.std.specs.Prelude.{◌≡◌, refl, true, false, ◌&&◌, ◌⊎◌, ◌↔◌, ◌≤◌, leb, length}
use Rattle.std.proofs.Common.{sym, ◌∙◌, ⊎_elim, arith, le-leb}
use mathlib.Core.List.{List, [], ◌∷◌, Permᴰ}
use Rattle.std.proofs.lemmas.Bool.{false≢true}
use Rattle.std.proofs.Math.Logic.{inl, inr}
use Rattle.lists.specs.Laws.{All, Pairs, all_map}
use Rattle.shares.specs.Model.{answers}
use Rattle.booking.specs.Model.{booking_of}
use Rattle.booking.specs.Best.{NoChoice, Best, IsBooking}
use Rattle.booking.specs.Booked.{best_some, book_is, book_iff}
use Rattle.walk.specs.declared.Job.{Job}
use Rattle.walk.specs.declared.WalkTerms.{WalkTerms}
use Rattle.walk.specs.declared.FreeTimes.{FreeTimes}
use Rattle.walk.specs.Model.{default_costs, lines_of, by_deadline, deadline_of, request_of, step, free_times_after, books_all, InTurn}
use Rattle.walk.specs.Chain.{afters_length}
use Rattle.walk.specs.Order.{Precedes, by_deadline_perm, by_deadline_sorted}
use Rattle.walk.specs.WalkSteps.{Ready}

-- each job has the best of all choices behind those before it
abbrev pub BestAll : WalkTerms → FreeTimes → List Job → Type 0
BestAll = InTurn (λ w b j. Best (request_of w b j) b.free (step w b j).booking)

-- a job has no choice at all behind the best of those before it
abbrev pub Fails : WalkTerms → FreeTimes → List Job → Type 0
Fails w b [] = ⊥
Fails w b (j ∷ js) = NoChoice (request_of w b j) b.free ⊎ (Best (request_of w b j) b.free (step w b j).booking × Fails w (free_times_after w b j) js)

-- one job: booked and best, or not booked and without a choice
step_is : (w : WalkTerms) (b : FreeTimes) (j : Job) → answers (default_costs w.costs) w.nodes ≡ true → w.nodes ≤ length b.free → 1 ≤ j.size
    → ((leb 1 (step w b j).booking.count ≡ false) × NoChoice (request_of w b j) b.free)
    ⊎ ((leb 1 (step w b j).booking.count ≡ true) × Best (request_of w b j) b.free (step w b j).booking)
unfolding booking_of
step_is w b j e h z =
    ⊎_elim (λ x. inl (rw x.0, x.1)) (λ x. inr (le-leb 1 (step w b j).booking.count (best_some (request_of w b j) b.free (step w b j).booking z x), x))
    (book_is (request_of w b j) b.free e h z)

-- Costs and nodes for which the shares answer, and jobs of at least one unit.
module _ (w : WalkTerms) (e : answers (default_costs w.costs) w.nodes ≡ true) where
  -- all are booked and best, or some job is without a choice
  turns_are : (b : FreeTimes) (js : List Job) → All (λ (j : Job). 1 ≤ j.size) js → w.nodes ≤ length b.free
      → ((books_all w b js ≡ true) × BestAll w b js) ⊎ ((books_all w b js ≡ false) × Fails w b js)
  unfolding books_all
  turns_are b [] z h = inl (refl, tt)
  turns_are b (j ∷ js) z h =
      go (turns_are (free_times_after w b j) js z.1 (omega (arith, afters_length b (lines_of w.costs (step w b j)))))
      (step_is w b j e h z.0)
    where
      go : ((books_all w (free_times_after w b j) js ≡ true) × BestAll w (free_times_after w b j) js) ⊎ ((books_all w (free_times_after w b j) js ≡ false) × Fails w (free_times_after w b j) js)
          → ((leb 1 (step w b j).booking.count ≡ false) × NoChoice (request_of w b j) b.free)
          ⊎ ((leb 1 (step w b j).booking.count ≡ true) × Best (request_of w b j) b.free (step w b j).booking)
          → (((leb 1 (step w b j).booking.count && books_all w (free_times_after w b j) js) ≡ true) × BestAll w b (j ∷ js))
          ⊎ (((leb 1 (step w b j).booking.count && books_all w (free_times_after w b j) js) ≡ false) × Fails w b (j ∷ js))
      go rest (inl x) = inr (rw x.0, inl x.1)
      go (inl y) (inr x) = inl (rw x.0 y.0, (x.1, y.1))
      go (inr y) (inr x) = inr (rw x.0 y.0, inr (x.1, y.1))

  -- each has no booking exactly when it has no choice, otherwise the best
  turns_each : (b : FreeTimes) (js : List Job) → All (λ (j : Job). 1 ≤ j.size) js → w.nodes ≤ length b.free
      → InTurn (λ v c j. IsBooking (request_of v c j) c.free (step v c j).booking) w b js
  turns_each b [] z h = tt
  turns_each b (j ∷ js) z h =
      (book_iff (request_of w b j) b.free e h z.0, turns_each (free_times_after w b j) js z.1 (omega (arith, afters_length b (lines_of w.costs (step w b j)))))

-- **The walk.** It books all exactly when each job has the best of all choices behind those before it; otherwise some job has no choice at all behind
-- the best of those before it.
pub walk_is : (w : WalkTerms) (b : FreeTimes) (js : List Job) → Ready w b js → w.nodes ≤ length b.free
    → ((books_all w b js ≡ true) × BestAll w b js) ⊎ ((books_all w b js ≡ false) × Fails w b js)
walk_is w b js r h = turns_are w r.answered b js (all_map (λ j x. x.0) js r.jobs) h

-- Not each job has the best of all choices where one has none.
best_or_fails : (w : WalkTerms) (b : FreeTimes) (js : List Job) → BestAll w b js → Fails w b js → ⊥
best_or_fails w b [] x y = y
best_or_fails w b (j ∷ js) x (inl n) = n _ _ _ x.0.best.choice
best_or_fails w b (j ∷ js) x (inr y) = best_or_fails w (free_times_after w b j) js x.1 y.1

-- **The walk, as equivalences.** It books all exactly when each job has the best of all choices behind those before it, and not all exactly when some job has no
-- choice at all behind the best of those before it.
pub walk_iff : (w : WalkTerms) (b : FreeTimes) (js : List Job) → Ready w b js → w.nodes ≤ length b.free
    → ((books_all w b js ≡ true) ↔ BestAll w b js) × ((books_all w b js ≡ false) ↔ Fails w b js)
walk_iff w b js r h =
    ⊎_elim (λ x. ((λ e. x.1, λ y. x.0), (λ e. absurd (false≢true (sym e ∙ x.0)), λ y. absurd (best_or_fails w b js x.1 y))))
    (λ x. ((λ e. absurd (false≢true (sym x.0 ∙ e)), λ y. absurd (best_or_fails w b js y x.1)), (λ e. x.1, λ y. x.0)))
    (walk_is w b js r h)

-- **Each job of the walk**, at its place: it has no booking exactly when it has no choice; otherwise the best of all choices, and no other.
pub walk_each : (w : WalkTerms) (b : FreeTimes) (js : List Job) → Ready w b js → w.nodes ≤ length b.free
    → InTurn (λ v c j. IsBooking (request_of v c j) c.free (step v c j).booking) w b js
walk_each w b js r h = turns_each w r.answered b js (all_map (λ j x. x.0) js r.jobs) h

-- A walk that books all has the best of all choices for each job.
pub walk_best : (w : WalkTerms) (b : FreeTimes) (js : List Job) → Ready w b js → w.nodes ≤ length b.free → books_all w b js ≡ true → BestAll w b js
walk_best w b js r h = (walk_iff w b js r h).0.0

-- What is walked is the jobs of the queue, each once, by deadline, equal deadlines by number.
pub walked_jobs : (js : List Job) → Permᴰ js (by_deadline js) × Pairs (Precedes deadline_of) (by_deadline js)
walked_jobs js = (by_deadline_perm js, by_deadline_sorted js)
