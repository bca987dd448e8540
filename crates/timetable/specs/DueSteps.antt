-- What starts by a time, found in one pass over the jobs: what `due` promises, and its loop's steps.
use Rattle.std.specs.Prelude.{◌≡◌, refl, Bool, true, false, cond, ℕ, suc, ◌+◌, ◌*◌, ◌≤◌, ◌<◌, min, leb, length, get_or, take, drop, set}
use Rattle.std.proofs.Math.Path.{ap, subst}
use Rattle.std.proofs.Common.{ap₂, sym, ◌∙◌, add-zero, take-take, length-take-le, arith}
use mathlib.Core.List.Permᴰ
use mathlib.Core.List.{List, [], ◌∷◌, Permᴰ}
use Rattle.std.proofs.Math.Numerals.{add-one}
use borrow.Author.Tests.{le-leb, lt-leb}
use Rattle.lists.specs.Laws.{All, all_map, front_next, front_none}
use Rattle.lists.specs.Places.{each_take}
use Rattle.lists.specs.Keep.{keep, keep_all, keep_perm}
use Rattle.lists.specs.Fronts.{Kept, kept_more, kept_front}
use Rattle.keys.specs.declared.Key.{Key}
use Rattle.keys.specs.Model.{no_later, sort_keys, sorted_front}
use Rattle.keys.specs.Sorted.{Sorted, sort_perm, sort_sorted, sort_only, sort_all, front_sorted, front_length}
use Rattle.walk.specs.declared.Job.{Job}
use Rattle.walk.specs.declared.QueueEntry.{QueueEntry}
use Rattle.walk.specs.Model.{no_job, keys_by, in_order, start_of, by_start}
use Rattle.walk.specs.View.{job_at, jobs_of}
use Rattle.walk.specs.Order.{by_start_perm}
use Rattle.walk.specs.OrderSteps.{order_within, in_order_front}
use Rattle.timetable.specs.declared.Due.{Due}
use Rattle.timetable.specs.Model.{starts_by}
use Rattle.timetable.specs.BeginSteps.{chunks}

-- r is what a move to t begins of the first `waiting` jobs of a row: its keys name the jobs that start by t, in order of start
pub record IsDue (row : List Job) (waiting t : ℕ) (r : Due) : Type 0 where
  pub few : r.count ≤ waiting
  pub whole : length r.keys ≡ 128
  pub places : All (λ (k : Key). k.place < waiting) (take r.count r.keys)
  pub jobs : in_order row (take r.count r.keys) ≡ keep (starts_by t) (by_start (take waiting row))
  pub lines : r.lines ≡ chunks (keep (starts_by t) (by_start (take waiting row)))
  pub most : r.lines ≤ 8192

-- its time is at most t
abbrev pub timed_by : ℕ → Key → Bool
timed_by t k = leb k.time t

-- ---- To sort what passes a test is to keep what passes of all that are sorted

-- What is kept of keys in order is in order.
keep_sorted : (p : Key → Bool) (ks : List Key) → Sorted ks → Sorted (keep p ks)
unfolding keep
keep_sorted p [] h = tt
keep_sorted p (k ∷ ks) h = go (p k) (keep_sorted p ks h.1)
  where
    go : (b : Bool) → Sorted (keep p ks) → Sorted (cond b (k ∷ keep p ks) (keep p ks))
    go true r = (all_map (λ x a. a.0) (keep p ks) (keep_all p (λ (x : Key). no_later k x ≡ true) ks h.0), r)
    go false r = r

-- The keys that pass, sorted, are those that pass of the sorted keys.
pub sort_keep : (p : Key → Bool) (ks : List Key) → sort_keys (keep p ks) ≡ keep p (sort_keys ks)
sort_keep p ks =
    sort_only (sort_keys (keep p ks)) (keep p (sort_keys ks)) (sort_sorted (keep p ks)) (keep_sorted p (sort_keys ks) (sort_sorted ks))
    (Permᴰ.trans (Permᴰ.symm (sort_perm (keep p ks))) (keep_perm p (sort_perm ks)))

-- a key's time is the start of the job at its place
abbrev StartKey : List Job → Key → Type 0
StartKey all x = x.time ≡ start_of (get_or all x.place no_job)

-- The jobs' keys have their starts.
start_keys : (all js : List Job) (i : ℕ) → ((k : ℕ) → get_or all (i + k) no_job ≡ get_or js k no_job) → All (StartKey all) (keys_by start_of i js)
unfolding keys_by
start_keys all [] i f = tt
start_keys all (j ∷ js) i f = (
  ap start_of (sym (f 0) ∙ ap (λ (k : ℕ). get_or all k no_job) (add-zero i)),
  start_keys all js (suc i) (λ k. let e : suc i + k ≡ i + suc k = omega arith in ap (λ (n : ℕ). get_or all n no_job) e ∙ f (suc k)),
)

-- Keys kept by their time name the jobs kept by their start.
in_order_keep : (t : ℕ) (all : List Job) (ks : List Key) → All (StartKey all) ks → in_order all (keep (timed_by t) ks) ≡ keep (starts_by t) (in_order all ks)
unfolding keep
in_order_keep t all [] h = refl
in_order_keep t all (x ∷ ks) h =
    ap (λ (s : ℕ). in_order all (cond (leb s t) (x ∷ keep (timed_by t) ks) (keep (timed_by t) ks))) h.0 ∙ go (starts_by t (get_or all x.place no_job)) (in_order_keep t all ks h.1)
  where
    go : (b : Bool) → in_order all (keep (timed_by t) ks) ≡ keep (starts_by t) (in_order all ks)
        → in_order all (cond b (x ∷ keep (timed_by t) ks) (keep (timed_by t) ks)) ≡ cond b (get_or all x.place no_job ∷ keep (starts_by t) (in_order all ks)) (keep (starts_by t) (in_order all ks))
    go true r = ap (λ (l : List Job). get_or all x.place no_job ∷ l) r
    go false r = r

-- The order of jobs does not change how many chunks they have.
chunks_perm : {xs ys : List Job} → Permᴰ xs ys → chunks xs ≡ chunks ys
unfolding chunks
chunks_perm Permᴰ.nil = refl
chunks_perm (Permᴰ.cons e d) = ap₂ ◌+◌ (ap (λ (j : Job). j.booking.count) e) (chunks_perm d)
chunks_perm (Permᴰ.swap e f) = omega (arith, ap (λ (j : Job). j.booking.count) e, ap (λ (j : Job). j.booking.count) f)
chunks_perm (Permᴰ.trans d₁ d₂) = chunks_perm d₁ ∙ chunks_perm d₂

-- ---- The pass

-- where the pass over the first n jobs stands at place i
pub record Finding (jobs : List Job) (n t : ℕ) (first keys : List Key) (count lines i : ℕ) : Type 0 where
  pub kept : Kept 128 (keep (timed_by t) (keys_by start_of 0 (take n jobs))) first keys count (keep (timed_by t) (keys_by start_of i (drop i (take n jobs))))
  pub sum : chunks (keep (starts_by t) (take n jobs)) ≡ lines + chunks (keep (starts_by t) (drop i (take n jobs)))
  pub few : count ≤ i
  pub most : lines ≤ 64 * i

module _ (jobs : List Job) (n i t : ℕ) (h : i < n) (m : n ≤ 128) (f : n ≤ length jobs) (job : Job) (q : get_or jobs i no_job ≡ job) (first keys : List Key) (count lines : ℕ) (x : Finding jobs n t first keys count lines i) where
  abbrev later : List Job
  later = drop (i + 1) (take n jobs)

  next : drop i (take n jobs) ≡ job ∷ later
  next = front_next no_job jobs n i h f ∙ ap (λ (j : Job). j ∷ later) q

  -- The job starts by t: its key and its lines are added.
  pub finding_begins : job.booking.count ≤ 64 → job.booking.start ≤ t
      → Finding jobs n t first (set keys count (record { time = job.booking.start; number = job.number; place = i })) (count + 1) (lines + job.booking.count) (i + 1)
  unfolding keep keys_by chunks
  finding_begins b k =
      let a = x.few in
      let key : Key = record { time = job.booking.start; number = job.number; place = i } in
      let e : keep (timed_by t) (keys_by start_of i (drop i (take n jobs))) ≡ key ∷ keep (timed_by t) (keys_by start_of (i + 1) later) = rw (next, le-leb job.booking.start t k, add-one i) in
      let s : chunks (keep (starts_by t) (drop i (take n jobs))) ≡ job.booking.count + chunks (keep (starts_by t) later) = rw (next, le-leb job.booking.start t k) in
      record {
        kept = kept_more 128 _ first keys count key _ (omega arith) (subst (Kept 128 _ first keys count) e x.kept);
        sum = omega (arith, x.sum, s);
        few = omega arith;
        most = omega (arith, x.most);
      }

  -- It starts later: nothing is added.
  pub finding_waits : t < job.booking.start → Finding jobs n t first keys count lines (i + 1)
  unfolding keep keys_by chunks
  finding_waits k =
      let e : keep (timed_by t) (keys_by start_of i (drop i (take n jobs))) ≡ keep (timed_by t) (keys_by start_of (i + 1) later) = rw (next, lt-leb job.booking.start t k, add-one i) in
      let s : chunks (keep (starts_by t) (drop i (take n jobs))) ≡ chunks (keep (starts_by t) later) = rw (next, lt-leb job.booking.start t k) in
      record {
        kept = subst (Kept 128 _ first keys count) e x.kept;
        sum = x.sum ∙ ap (λ (a : ℕ). lines + a) s;
        few = omega (arith, x.few);
        most = omega (arith, x.most);
      }

-- At the end of the pass, the keys in order name what is due.
pub finding_all : (jobs : List Job) (n i t : ℕ) (first keys order : List Key) (count lines : ℕ) → i ≡ n → n ≤ 128 → n ≤ length jobs
    → Finding jobs n t first keys count lines i → order ≡ sorted_front keys count → IsDue jobs n t (record { count = count; lines = lines; keys = order })
unfolding keep keys_by chunks
finding_all jobs n i t first keys order count lines e m f x o =
    let few = x.few in
    let size = x.kept.size in
    let ks = sort_keys (keys_by start_of 0 (take n jobs)) in
    let c : min count 128 ≡ count = omega arith in
    let none = front_none jobs n i f (omega arith) in
    let all : take count keys ≡ keep (timed_by t) (keys_by start_of 0 (take n jobs)) = kept_front 128 _ first keys count (rw none at x.kept) in
    let is : take count order ≡ keep (timed_by t) ks = ap (take count) o ∙ rw c at (front_sorted keys count size) ∙ ap sort_keys all ∙ sort_keep (timed_by t) (keys_by start_of 0 (take n jobs)) in
    let within : All (λ (k : Key). k.place < n) (keep (timed_by t) ks) = all_map (λ k a. a.0) (keep (timed_by t) ks) (keep_all (timed_by t) (λ (k : Key). k.place < n) ks (order_within start_of jobs n f)) in
    let starts : All (StartKey (take n jobs)) ks = sort_all (StartKey (take n jobs)) (keys_by start_of 0 (take n jobs)) (start_keys (take n jobs) (take n jobs) 0 (λ k. ap (λ (a : ℕ). get_or (take n jobs) a no_job) (omega arith))) in
    let sum : chunks (keep (starts_by t) (take n jobs)) ≡ lines + 0 = x.sum ∙ rw none in
    record {
      few = omega arith;
      whole = ap length o ∙ front_length keys count ∙ size;
      places = rw is within;
      jobs = ap (in_order jobs) is ∙ in_order_front jobs n (keep (timed_by t) ks) within ∙ in_order_keep t (take n jobs) ks starts;
      lines = omega (arith, sum, chunks_perm (keep_perm (starts_by t) (by_start_perm (take n jobs))));
      most = omega (arith, x.most);
    }

-- What is due of the front of a queue, as of the whole queue.
pub due_front : (ks xs : List ℕ) (hs : List QueueEntry) (n t : ℕ) (r : Due) → n ≤ length hs → IsDue (jobs_of ks xs (take n hs)) (length (take n hs)) t r → IsDue (jobs_of ks xs hs) n t r
due_front ks xs hs n t r h x =
    let size : length (take n hs) ≡ n = length-take-le n hs h in
    let few : r.count ≤ n = omega (arith, x.few, size) in
    let places : All (λ (k : Key). k.place < n) (take r.count r.keys) = rw size at x.places in
    let front : jobs_of ks xs (take n hs) ≡ take n (jobs_of ks xs hs) = sym (each_take (job_at ks xs) 0 n hs) in
    let same : take n (jobs_of ks xs (take n hs)) ≡ take n (jobs_of ks xs hs) = ap (take n) front ∙ take-take n n (jobs_of ks xs hs) (omega arith) in
    record {
      few = few;
      whole = x.whole;
      places = places;
      jobs = in_order_front (jobs_of ks xs hs) n (take r.count r.keys) places ∙ ap (λ (js : List Job). in_order js (take r.count r.keys)) (sym front) ∙ rw (size, same) at x.jobs;
      lines = rw (size, same) at x.lines;
      most = x.most;
    }
