-- A withdrawal from a farm that passes question 11: what the functions of src/withdraw.rt promise each other.
use Rattle.std.specs.Prelude.{◌≡◌, refl, List, [], ◌∷◌, ◌++◌, true, false, ℕ, suc, ◌+◌, ◌-◌, ◌≤◌, ◌<◌, length, get_or, take, drop, set, Ok, Err}
use Rattle.std.proofs.Common.{ap, ap₂, sym, subst, ◌∙◌, arith, take-take, length-take-le}
use Rattle.lists.specs.Laws.{All, front_next, front_none}
use Rattle.lists.specs.Fronts.{Kept, behind_same, kept_all_lem}
use Rattle.walk.specs.declared.Job.{Job}
use Rattle.walk.specs.declared.QueueEntry.{QueueEntry}
use Rattle.walk.specs.View.{jobs_of, no_entry, Few}
use Rattle.queue.specs.RowSteps.{QueueSized, MovedUp, count_few, sized_moved, kept_moved}
use Rattle.queue.specs.Steps.{place_of}
use Rattle.planner.specs.declared.Figures.{Figures}
use Rattle.planner.specs.declared.Farm as stored
use Rattle.planner.specs.declared.Reply.{Reply}
use Rattle.answers.specs.declared.Question.TheVariants as question
use Rattle.answers.specs.declared.Granted.TheVariants as answer
use Rattle.planner.specs.Model.{Farm, farm_of, meant, no_job, waiting_of}
use Rattle.planner.specs.Passes.{passes_of}
use Rattle.planner.specs.Changes.{with_jobs}
use Rattle.planner.specs.Calls.{Gone, Said, granted, has_number, without, Replies, withdraw_said, withdraw_farm}
use Rattle.planner.specs.Parts.{with_entries}
use Rattle.planner.specs.PlaceSteps.{without_at}
use Rattle.planner.specs.CallsSteps.{refuses}

module _ (g : stored.Farm) (n : ℕ) (e : passes_of (meant g) ≡ true) where
  abbrev f : Farm
  f = meant g

  -- Where the number is none of theirs, all is as it was.
  pub withdraws_none : has_number n (waiting_of (meant g)) ≡ false
      → Replies g (record { answer = Err question.Waiting; farm = g }) (withdraw_said (meant g) n) (withdraw_farm (meant g) n)
  unfolding withdraw_said withdraw_farm
  withdraws_none none = record { says = rw (e, none); hands = rw (e, none); same = λ _. refl }

  -- Where one has it, the first `kept` entries with their rows are the others, and the other figures are as they were.
  pub withdraws_one : (kept : ℕ) (next : Figures) (ks xs : List ℕ) → has_number n (waiting_of (meant g)) ≡ true
      → next ≡ with_entries g.figures g.figures.used g.figures.waiting next.jobs
      → kept ≡ length (without n (waiting_of (meant g)))
      → jobs_of ks xs next.jobs ≡ without n (waiting_of (meant g)) ++ drop kept (jobs_of g.cells.nodes g.cells.shares g.figures.jobs)
      → Replies g (record {
        answer = Ok (answer.Gone n);
        farm = record { figures = with_entries next next.used kept next.jobs; cells = record { nodes = ks; shares = xs } };
      }) (withdraw_said (meant g) n) (withdraw_farm (meant g) n)
  unfolding withdraw_said withdraw_farm
  withdraws_one kept next ks xs has other count left_is =
      let jobs : jobs_of ks xs next.jobs ≡ without n (waiting_of f) ++ drop (length (without n (waiting_of f))) f.jobs = left_is ∙ ap (λ (k : ℕ). without n (waiting_of f) ++ drop k f.jobs) count in
      let says : withdraw_said f n ≡ granted Gone (n ∷ []) = rw (e, has) in
      record {
        says = sym says;
        hands = ap (λ (x : Figures). farm_of (with_entries x x.used kept x.jobs) ks xs) other ∙ rw (e, has) (ap₂ (with_jobs f g.figures.used) count jobs);
        same = λ h. absurd (h (ap (λ (a : Said). a.number) says));
      }

-- ---- The jobs behind the one that leaves, moved up with their rows

-- where the loop stands at the entry i: the jobs before it without the one of the number are in front, and behind them
-- the entries and their rows mean the old jobs
pub record Leaves (f : Farm) (n : ℕ) (ks xs : List ℕ) (hs : List QueueEntry) (i : ℕ) : Type 0 where
  pub some : 1 ≤ i
  pub sized : QueueSized ks xs hs
  pub left : Kept 128 (without n (waiting_of f)) f.jobs (jobs_of ks xs hs) (i - 1) (drop i (waiting_of f))

module _ (f : Farm) (n : ℕ) (size : length f.jobs ≡ 128) (most : f.waiting ≤ 128) (ks xs : List ℕ) (hs : List QueueEntry) where
  -- It starts behind the job of the number.
  pub leaves_first : (place : ℕ) → f.jobs ≡ jobs_of ks xs hs → QueueSized ks xs hs → place < length (waiting_of f) → place_of n (waiting_of f) ≡ place
      → Leaves f n ks xs hs (place + 1)
  leaves_first place q s h at =
      let here : place + 1 - 1 ≡ place = omega arith in
      let next : suc place ≡ place + 1 = omega arith in
      let front : without n (waiting_of f) ≡ take place (jobs_of ks xs hs) ++ drop (place + 1) (waiting_of f) =
      without_at n (waiting_of f) (omega (arith, at, h))
      ∙ ap (λ (k : ℕ). take k (waiting_of f) ++ drop (suc k) (waiting_of f)) at
      ∙ ap₂ ◌++◌ (take-take place f.waiting f.jobs (omega (arith, h, length-take-le f.waiting f.jobs (omega (arith, size)))) ∙ ap (take place) q) (ap (λ (k : ℕ). drop k (waiting_of f)) next) in
      record {
        some = omega arith;
        sized = s;
        left = rw here (record { size = ap length (sym q) ∙ size; front = front; behind = ap (drop place) (sym q) });
      }

  module _ (i : ℕ) (x : Leaves f n ks xs hs i) where
    -- At the end the array has the others in front, and is as it was behind them.
    pub leaves_all : i ≡ f.waiting → (f.waiting - 1 ≡ length (without n (waiting_of f))) × (jobs_of ks xs hs ≡ without n (waiting_of f) ++ drop (f.waiting - 1) f.jobs)
    leaves_all h =
        let none : drop i (waiting_of f) ≡ [] = front_none f.jobs f.waiting i (omega (arith, size)) (omega arith) in
        subst (λ (k : ℕ). (k - 1 ≡ length (without n (waiting_of f))) × (jobs_of ks xs hs ≡ without n (waiting_of f) ++ drop (k - 1) f.jobs)) h
        (kept_all_lem 128 (without n (waiting_of f)) f.jobs (jobs_of ks xs hs) (i - 1) (omega arith)
        (subst (Kept 128 (without n (waiting_of f)) f.jobs (jobs_of ks xs hs) (i - 1)) none x.left))

    module _ (h : i < f.waiting) where
      pub leaves_few : All Few (waiting_of f) → (get_or hs i no_entry).count ≤ 64
      leaves_few a = count_few ks xs hs f.jobs f.waiting (i - 1) i (omega arith) h (omega (arith, size)) (omega (arith, x.sized.entries)) x.left.behind a

      pub leaves_moved : (ks' xs' : List ℕ) → All Few (waiting_of f) → MovedUp (i - 1) i (get_or hs i no_entry).count ks xs ks' xs'
          → Leaves f n ks' xs' (set hs (i - 1) (get_or hs i no_entry)) (i + 1)
      leaves_moved ks' xs' a m =
          let same : get_or (jobs_of ks xs hs) i no_job ≡ get_or f.jobs i no_job = behind_same no_job (jobs_of ks xs hs) f.jobs (i - 1) i (omega arith) x.left.behind in
          let next : drop i (waiting_of f) ≡ get_or (jobs_of ks xs hs) i no_job ∷ drop (i + 1) (waiting_of f) =
          front_next no_job f.jobs f.waiting i h (omega (arith, size)) ∙ ap (λ (j : Job). j ∷ drop (i + 1) (waiting_of f)) (sym same) in
          let here : i - 1 + 1 ≡ i + 1 - 1 = omega (arith, x.some) in
          let up : i - 1 < i = omega (arith, x.some) in
          record {
            some = omega arith;
            sized = sized_moved ks xs ks' xs' hs (i - 1) i (get_or hs i no_entry).count up (omega arith) x.sized refl (leaves_few a) m;
            left = subst (λ (k : ℕ). Kept 128 (without n (waiting_of f)) f.jobs (jobs_of ks' xs' (set hs (i - 1) (get_or hs i no_entry))) k (drop (i + 1) (waiting_of f))) here
                (kept_moved ks xs ks' xs' hs (i - 1) i (get_or hs i no_entry).count up (omega arith) x.sized refl (leaves_few a) m (without n (waiting_of f)) f.jobs (drop (i + 1) (waiting_of f))
                (subst (Kept 128 (without n (waiting_of f)) f.jobs (jobs_of ks xs hs) (i - 1)) next x.left));
          }

-- A farm that does not pass is told so and handed back.
pub withdraw_unsound : (f : stored.Farm) (n : ℕ) (r : Reply) → passes_of (meant f) ≡ false → r ≡ record { answer = Err question.Farm; farm = f }
    → Replies f r (withdraw_said (meant f) n) (withdraw_farm (meant f) n)
unfolding withdraw_said withdraw_farm
withdraw_unsound f n r e h = refuses f r question.Farm _ _ h (rw e) (rw e)
