-- Entries moved up with their rows, as the jobs that they mean, place by place.
use Rattle.std.specs.Prelude.{◌≡◌, List, ◌∷◌, ℕ, ◌+◌, ◌≤◌, ◌<◌, length, get_or, take, drop, set}
use Rattle.std.proofs.Common.{ap, sym, subst, ◌∙◌, arith, length-set}
use Rattle.lists.specs.Laws.{All, all_front}
use Rattle.lists.specs.Rows.{row_moved}
use Rattle.lists.specs.Fronts.{Kept, behind_same, kept_more}
use Rattle.walk.specs.declared.Job.{Job}
use Rattle.walk.specs.declared.QueueEntry.{QueueEntry}
use Rattle.walk.specs.Model.{no_job}
use Rattle.walk.specs.View.{job_at, jobs_of, no_entry, Few, job_there, jobs_moved}
use Rattle.queue.specs.Steps.{Leaving, leave_up, leave_stay, leave_out}

-- entries and rows have the lengths of their arrays
pub record QueueSized (ks xs : List ℕ) (hs : List QueueEntry) : Type 0 where
  pub entries : length hs ≡ 128
  pub nodes : length ks ≡ 8192
  pub shares : length xs ≡ 8192

-- the first n cells of row i are moved to row k
abbrev pub MovedUp : ℕ → ℕ → ℕ → List ℕ → List ℕ → List ℕ → List ℕ → Type 0
MovedUp k i n ks xs ks' xs' = (ks' ≡ row_moved 64 k i n ks) × (xs' ≡ row_moved 64 k i n xs) × (length ks' ≡ 8192) × (length xs' ≡ 8192)

-- An entry that stands behind those looked at has as few chunks as its job.
pub count_few : (ks xs : List ℕ) (hs : List QueueEntry) (old : List Job) (count k i : ℕ) → k ≤ i → i < count → count ≤ length old → i < length hs
    → drop k (jobs_of ks xs hs) ≡ drop k old → All Few (take count old) → (get_or hs i no_entry).count ≤ 64
count_few ks xs hs old count k i h l f g e a =
    subst Few (sym (behind_same no_job (jobs_of ks xs hs) old k i h e) ∙ job_there ks xs hs i g) (all_front no_job Few old count i l f a)

-- ---- One entry moved

module _ (ks xs ks' xs' : List ℕ) (hs : List QueueEntry) (k i n : ℕ) (h : k < i) (low : i < 128) (s : QueueSized ks xs hs) (its : n ≡ (get_or hs i no_entry).count) (few : n ≤ 64)
    (m : MovedUp k i n ks xs ks' xs') where
  pub sized_moved : QueueSized ks' xs' (set hs k (get_or hs i no_entry))
  sized_moved = record { entries = length-set hs k (get_or hs i no_entry) ∙ s.entries; nodes = m.2; shares = m.3 }

  -- An entry moved with its row is a job moved.
  pub entry_moved : jobs_of ks' xs' (set hs k (get_or hs i no_entry)) ≡ set (jobs_of ks xs hs) k (get_or (jobs_of ks xs hs) i no_job)
  entry_moved = rw (m.0, m.1, its) (jobs_moved ks xs hs k i (λ q. omega arith) (omega arith) low s.nodes s.shares (omega (arith, s.entries)) (omega arith))

  -- It is one more that is kept.
  pub kept_moved : (whole old rest : List Job) → Kept 128 whole old (jobs_of ks xs hs) k (get_or (jobs_of ks xs hs) i no_job ∷ rest)
      → Kept 128 whole old (jobs_of ks' xs' (set hs k (get_or hs i no_entry))) (k + 1) rest
  kept_moved whole old rest y = rw entry_moved (kept_more 128 whole old (jobs_of ks xs hs) k (get_or (jobs_of ks xs hs) i no_job) rest (omega arith) y)

-- ---- The jobs without the one of a number

module _ (number : ℕ) (jobs : List Job) (count : ℕ) (size : length jobs ≡ 128) (most : count ≤ 128) (ks xs : List ℕ) (hs : List QueueEntry) (kept i : ℕ) (h : i < count)
    (s : QueueSized ks xs hs) (x : Leaving number jobs count (jobs_of ks xs hs) kept i) where
  there : get_or (jobs_of ks xs hs) i no_job ≡ job_at ks xs i (get_or hs i no_entry)
  there = job_there ks xs hs i (omega (arith, s.entries))

  -- Behind the one that leaves each entry moves up with its row.
  pub leave_moved : (ks' xs' : List ℕ) (n : ℕ) → kept < i → n ≡ (get_or hs i no_entry).count → n ≤ 64 → MovedUp kept i n ks xs ks' xs'
      → Leaving number jobs count (jobs_of ks' xs' (set hs kept (get_or hs i no_entry))) (kept + 1) (i + 1)
  leave_moved ks' xs' n k its few m = rw (entry_moved ks xs ks' xs' hs kept i n k (omega arith) s its few m) (leave_up number jobs count size most (jobs_of ks xs hs) kept i h x k)

  pub leave_few : kept < i → All Few (take count jobs) → (get_or hs i no_entry).count ≤ 64
  leave_few k a = count_few ks xs hs jobs count kept i x.some h (omega arith) (omega (arith, s.entries)) (x.without_one k).behind a

  -- Before it each stays where it is, and it is left out.
  pub leave_standing : i ≤ kept → ((get_or hs i no_entry).number ≡ number → ⊥) → Leaving number jobs count (jobs_of ks xs hs) (kept + 1) (i + 1)
  leave_standing k d = leave_stay number jobs count size most (jobs_of ks xs hs) kept i h x k (λ e. d (sym (ap (λ (j : Job). j.number) there) ∙ e))

  pub leave_found : i ≤ kept → (get_or hs i no_entry).number ≡ number → Leaving number jobs count (jobs_of ks xs hs) kept (i + 1)
  leave_found k e = leave_out number jobs count size most (jobs_of ks xs hs) kept i h x k (ap (λ (j : Job). j.number) there ∙ e)
