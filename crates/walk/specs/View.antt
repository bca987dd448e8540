-- What the queue's entries and the rows of cells beside them mean: the waiting jobs, each with its booking. How the
-- bookings lie in memory is said here and nowhere else; everything above speaks of the jobs.
use Rattle.std.specs.Prelude.{◌≡◌, refl, List, [], ◌∷◌, ◌++◌, map, Bool, ◌&&◌, ℕ, zero, suc, ◌+◌, ◌*◌, ◌-◌, ◌≤◌, ◌<◌, min, leb, length, get_or, take, drop, set, replicate}
use Rattle.std.proofs.Common.{sym, ap, ap₂, subst, ◌∙◌, add-one, arith, length-drop, length-append, take_all, length-take-le, get_or-take, take-suc, take-suc-set}
use Rattle.std.proofs.Math.Decide.{dec_le}
use Rattle.std.proofs.lemmas.List.{length-replicate, length-map, drop-replicate, take-append-le}
use Rattle.lists.specs.Laws.{All}
use Rattle.lists.specs.Places.{each_at, each_length, each_set, each_get, each_front, each_same}
use Rattle.lists.specs.Rows.{row_at, row_put, row_moved, Elsewhere, Behind, Alike, put_size, put_front, put_elsewhere, moved_front, moved_elsewhere, cell_in}
use Rattle.shares.specs.Model.{earliest}
use Rattle.shares.specs.Optimal.{greedy_length}
use Rattle.limits.specs.declared.FarmCosts.{FarmCosts}
use Rattle.keys.specs.declared.Key.{Key}
use Rattle.booking.specs.declared.Request.{Request}
use Rattle.booking.specs.declared.Found.{Found}
use Rattle.booking.specs.declared.Booking.{Booking}
use Rattle.booking.specs.Model.{booking_of, booked_at}
use Rattle.walk.specs.declared.Job.{Job}
use Rattle.walk.specs.declared.QueueEntry.{QueueEntry}
use Rattle.walk.specs.declared.ChunkTerms.{ChunkTerms}
use Rattle.walk.specs.declared.FreeTimes.{FreeTimes}
use Rattle.walk.specs.declared.WalkTerms.{WalkTerms}
use Rattle.walk.specs.Model.{no_job, empty_job, booked, chunk_terms, chunk_on, chunk_at, chunks_from, lines_of, plan, books_all, step, free_times_after, JobSized}

-- ---- Definitions

-- the first n of some cells in an array of 64, 0 in the others: cells past the count are not looked at
abbrev pub blanked : ℕ → List ℕ → List ℕ
blanked n xs = take n xs ++ replicate (64 - n) 0

-- the booking of n chunks from s on with these rows of nodes and of shares
abbrev pub booking_in : ℕ → ℕ → List ℕ → List ℕ → Booking
booking_in s n ks xs = record { start = s; count = n; nodes = blanked n ks; shares = blanked n xs }

-- an entry with its rows, as a job
abbrev pub job_of : QueueEntry → List ℕ → List ℕ → Job
job_of h ks xs = record {
  number = h.number;
  show = h.show;
  size = h.size;
  compute = h.compute;
  deadline = h.deadline;
  booking = booking_in h.start h.count ks xs;
}

-- the job at place i: its cells are row i, of 64 cells, of the arrays of nodes and of shares
abbrev pub job_at : List ℕ → List ℕ → ℕ → QueueEntry → Job
job_at ks xs i h = job_of h (row_at 64 i ks) (row_at 64 i xs)

-- the jobs at the places 0, 1, …
abbrev pub jobs_of : List ℕ → List ℕ → List QueueEntry → List Job
jobs_of ks xs hs = each_at (job_at ks xs) 0 hs

-- the booking of n chunks from s on whose cells are row i
abbrev pub booking_at : List ℕ → List ℕ → ℕ → ℕ → ℕ → Booking
booking_at ks xs i s n = booking_in s n (row_at 64 i ks) (row_at 64 i xs)

-- past a list's end
abbrev pub no_entry : QueueEntry
no_entry = record { number = 0; show = 0; size = 0; compute = 0; deadline = 0; start = 0; count = 0 }

-- ---- What functions promise each other

-- an entry as a job without a booking
abbrev pub bare : QueueEntry → Job
bare h = record { number = h.number; show = h.show; size = h.size; compute = h.compute; deadline = h.deadline; booking = no_job.booking }

-- a job with its booking left out
abbrev pub bared : Job → Job
bared j = booked j no_job.booking

-- an entry with a booking's start and count
abbrev pub entered : QueueEntry → Booking → QueueEntry
entered h b = record { number = h.number; show = h.show; size = h.size; compute = h.compute; deadline = h.deadline; start = b.start; count = b.count }

-- an entry whose row has room for its count
abbrev pub Short : QueueEntry → Type 0
Short h = h.count ≤ 64

-- a job whose booking has no more chunks than a row has cells
abbrev pub Few : Job → Type 0
Few j = j.booking.count ≤ 64

-- how many cells of row i are in use
abbrev pub use_of : List QueueEntry → ℕ → ℕ
use_of hs i = (get_or hs i no_entry).count

-- a booking has 0 in the cells past its count
pub record Blank (b : Booking) : Type 0 where
  pub few : b.count ≤ 64
  pub nodes : b.nodes ≡ blanked b.count b.nodes
  pub shares : b.shares ≡ blanked b.count b.shares

-- row i holds a booking, and the other rows are as they were
pub record Written (i : ℕ) (b : Booking) (ks xs ks' xs' : List ℕ) : Type 0 where
  pub nodes_size : length ks' ≡ length ks
  pub shares_size : length xs' ≡ length xs
  pub holds : (h : QueueEntry) → job_at ks' xs' i (entered h b) ≡ booked (bare h) b
  pub nodes : Elsewhere 64 i ks ks'
  pub shares : Elsewhere 64 i xs xs'

-- ---- One booking

pub written : (i : ℕ) (b : Booking) (ks xs ks' xs' : List ℕ) → i < 128 → length ks ≡ 8192 → length xs ≡ 8192 → length b.nodes ≡ 64 → length b.shares ≡ 64 → Blank b
    → ks' ≡ row_put 64 i b.count b.nodes ks → xs' ≡ row_put 64 i b.count b.shares xs → Written i b ks xs ks' xs'
written i b ks xs ks' xs' h l m n s z e f =
    let few = z.few in
    let front : take b.count (row_at 64 i ks') ≡ take b.count b.nodes = rw e (put_front 64 i b.count b.nodes ks (omega arith) few (omega arith)) in
    let parts : take b.count (row_at 64 i xs') ≡ take b.count b.shares = rw f (put_front 64 i b.count b.shares xs (omega arith) few (omega arith)) in
    let ns : blanked b.count (row_at 64 i ks') ≡ b.nodes = ap (λ (r : List ℕ). r ++ replicate (64 - b.count) 0) front ∙ sym z.nodes in
    let ss : blanked b.count (row_at 64 i xs') ≡ b.shares = ap (λ (r : List ℕ). r ++ replicate (64 - b.count) 0) parts ∙ sym z.shares in
    record {
      nodes_size = rw e (put_size 64 i b.count b.nodes ks (omega arith) few (omega arith));
      shares_size = rw f (put_size 64 i b.count b.shares xs (omega arith) few (omega arith));
      holds = λ g. ap₂ (λ (p q : List ℕ). booked (bare g) (record { start = b.start; count = b.count; nodes = p; shares = q })) ns ss;
      nodes = rw e (put_elsewhere 64 i b.count b.nodes ks (omega arith) few (omega arith));
      shares = rw f (put_elsewhere 64 i b.count b.shares xs (omega arith) few (omega arith));
    }

-- A list filled up with a's has a's past any place that is no less than its length.
pub pads : {A : Type 0} (a : A) (k r n : ℕ) (xs : List A) → k + length xs ≡ r + n → length xs ≤ n → xs ++ replicate k a ≡ take n (xs ++ replicate k a) ++ replicate r a
pads a k r zero [] e h = let s : k ≡ r = omega arith in ap (λ (m : ℕ). replicate m a) s
pads a k r zero (x ∷ xs) e h = absurd (omega arith)
pads a zero r (suc n) [] e h = absurd (omega arith)
pads {A} a (suc k) r (suc n) [] e h = ap (λ (l : List A). a ∷ l) (pads a k r n [] (omega arith) (omega arith))
pads {A} a k r (suc n) (x ∷ xs) e h = ap (λ (l : List A). x ∷ l) (pads a k r n xs (omega arith) (omega arith))

pub of_blank : (s : ℕ) (ks xs : List ℕ) → length xs ≤ length ks → length ks ≤ 64 → Blank (booking_of s ks xs)
unfolding booking_of
of_blank s ks xs h k = record {
  few = k;
  nodes = pads 0 (64 - length ks) (64 - length ks) (length ks) ks (omega arith) (omega arith);
  shares = pads 0 (64 - length xs) (64 - length ks) (length ks) xs (omega arith) h;
}

-- What is booked has.
pub booked_blank : (q : Request) (ks : List Key) (f : Found) → f.count ≤ length ks → f.count ≤ 64 → Blank (booked_at q ks f)
unfolding booked_at
booked_blank q ks f h k =
    let n : length (map (λ (x : Key). x.number) (take f.count ks)) ≡ f.count = length-map (take f.count ks) _ ∙ length-take-le f.count ks h in
    of_blank f.start _ _ (omega (arith, greedy_length q.costs f.count (earliest q.costs f.count q.size (q.deadline - f.start)))) (omega arith)

-- ---- Jobs without their bookings

-- A walk does not look at the bookings that the jobs come with.
pub plan_bared : (w : WalkTerms) (b : FreeTimes) (js : List Job) → plan w b (map bared js) ≡ plan w b js
unfolding plan
plan_bared w b [] = refl
plan_bared w b (j ∷ js) = ap (λ (l : List Job). step w b j ∷ l) (plan_bared w (free_times_after w b j) js)

pub books_bared : (w : WalkTerms) (b : FreeTimes) (js : List Job) → books_all w b (map bared js) ≡ books_all w b js
unfolding books_all
books_bared w b [] = refl
books_bared w b (j ∷ js) = ap (λ (t : Bool). leb 1 (step w b j).booking.count && t) (books_bared w (free_times_after w b j) js)

-- With their bookings left out, the jobs of rows are the entries.
pub bared_jobs : (ks xs : List ℕ) (a : ℕ) (hs : List QueueEntry) → map bared (each_at (job_at ks xs) a hs) ≡ map bare hs
unfolding each_at
bared_jobs ks xs a [] = refl
bared_jobs ks xs a (h ∷ hs) = ap (λ (l : List Job). bare h ∷ l) (bared_jobs ks xs (suc a) hs)

-- ---- All jobs

-- A row written and its entry written is a job written.
pub jobs_set : (ks xs ks' xs' : List ℕ) (hs : List QueueEntry) (i : ℕ) (h : QueueEntry) → Elsewhere 64 i ks ks' → Elsewhere 64 i xs xs'
    → jobs_of ks' xs' (set hs i h) ≡ set (jobs_of ks xs hs) i (job_at ks' xs' i h)
jobs_set ks xs ks' xs' hs i h e f =
    let z : 0 + i ≡ i = omega arith in
    each_set (job_at ks xs) (job_at ks' xs') 0 hs i h (job_at ks' xs' i h) (ap (λ (m : ℕ). job_at ks' xs' m h) z)
    (λ j g d. let o : j ≡ i → ⊥ = λ q. d (q ∙ sym z) in ap₂ (job_of g) (e j o) (f j o))

-- ---- A job read out of its entry and its row

-- The cells in use of a row, in an array of 64, whatever the count.
pub read_blanked : (n k : ℕ) (row own : List ℕ) → k ≡ min n 64 → length row ≤ 64 → own ≡ take k row → own ++ drop k (replicate 64 0) ≡ blanked n row
read_blanked n k row own e few is = elim (dec_le n 64) [
  | yes h ↦
      let same : k ≡ n = omega arith in
      rw (is, same, drop-replicate {X = ℕ} n 64 0)
  | no h ↦
      let same : k ≡ 64 = omega arith in
      let z : 64 - n ≡ 0 = omega arith in
      rw (is, same, z, take_all 64 row few, take_all n row (omega arith))
]

-- The cells in use of a row, one by one.
pub cell_blanked : (n i k : ℕ) (ks : List ℕ) → k < n → n ≤ 64 → i * 64 + 64 ≤ length ks → get_or ks (i * 64 + k) 0 ≡ get_or (blanked n (row_at 64 i ks)) k 0
cell_blanked n i k ks h few fits =
    let long : length (row_at 64 i ks) ≡ 64 = length-take-le 64 (drop (i * 64) ks) (omega (arith, length-drop (i * 64) ks)) in
    cell_in 64 i k ks 0 (omega arith)
    ∙ sym (get_or-take n (row_at 64 i ks) k 0 h)
    ∙ sym (get_or-take n (take n (row_at 64 i ks)) k 0 h)
    ∙ ap (λ (l : List ℕ). get_or l k 0) (sym (take-append-le n (take n (row_at 64 i ks)) (replicate (64 - n) 0) (omega (arith, length-take-le n (row_at 64 i ks) (omega arith)))))
    ∙ get_or-take n (blanked n (row_at 64 i ks)) k 0 h

-- The first n cells of a row, where it has so many, are those of a booking of n chunks, and make a job's lines.
pub row_used : (n i : ℕ) (ks own : List ℕ) → own ≡ take n (row_at 64 i ks) → length own ≡ n → take n (blanked n (row_at 64 i ks)) ≡ own
row_used n i ks own e l =
    let long : length (take n (row_at 64 i ks)) ≡ n = rw e at l in
    take-append-le n (take n (row_at 64 i ks)) (replicate (64 - n) 0) (omega arith) ∙ take_all n (take n (row_at 64 i ks)) (omega arith) ∙ sym e

pub row_lines : (c : FarmCosts) (w : ChunkTerms) (h : QueueEntry) (i : ℕ) (ks xs own parts : List ℕ) → w ≡ chunk_terms c (bare h) → own ≡ take h.count (row_at 64 i ks) → length own ≡ h.count
    → parts ≡ take h.count (row_at 64 i xs) → length parts ≡ h.count → lines_of c (job_at ks xs i h) ≡ chunks_from w h.start own parts
row_lines c w h i ks xs own parts t e l f m =
    ap₂ (chunks_from (chunk_terms c (bare h)) h.start) (row_used h.count i ks own e l) (row_used h.count i xs parts f m) ∙ ap (λ (v : ChunkTerms). chunks_from v h.start own parts) (sym t)

-- So a chunk is worked out of two cells of the arrays.
pub chunk_cells : (w : ChunkTerms) (ks xs : List ℕ) (i s n k t : ℕ) → k < n → n ≤ 64 → i < 128 → length ks ≡ 8192 → length xs ≡ 8192
    → chunk_on w t (get_or ks (i * 64 + k) 0) (get_or xs (i * 64 + k) 0) ≡ chunk_at w (booking_at ks xs i s n) k t
chunk_cells w ks xs i s n k t h few low l m = ap₂ (chunk_on w t) (cell_blanked n i k ks h few (omega arith)) (cell_blanked n i k xs h few (omega arith))

-- Rows of 64 cells make a job whose arrays have their lengths.
pub blanked_length : (n : ℕ) (row : List ℕ) → length row ≡ 64 → length (blanked n row) ≡ 64
blanked_length n row e = elim (dec_le n 64) [
  | yes h ↦ omega (arith, length-append (take n row) (replicate (64 - n) 0), length-take-le n row (omega arith), length-replicate {A = ℕ} (64 - n) 0)
  | no h ↦ omega (arith, length-append (take n row) (replicate (64 - n) 0), ap length (take_all n row (omega arith)), length-replicate {A = ℕ} (64 - n) 0)
]

-- Jobs of rows have arrays of their lengths.
row_length : (i : ℕ) (ks : List ℕ) → i < 128 → length ks ≡ 8192 → length (row_at 64 i ks) ≡ 64
row_length i ks h l = length-take-le 64 (drop (i * 64) ks) (omega (arith, length-drop (i * 64) ks))

jobs_sized_from : (ks xs : List ℕ) (a : ℕ) (hs : List QueueEntry) → length ks ≡ 8192 → length xs ≡ 8192 → a + length hs ≤ 128 → All JobSized (each_at (job_at ks xs) a hs)
unfolding each_at
jobs_sized_from ks xs a [] l m h = tt
jobs_sized_from ks xs a (g ∷ hs) l m h = (
  record { nodes = blanked_length g.count (row_at 64 a ks) (row_length a ks (omega arith) l); shares = blanked_length g.count (row_at 64 a xs) (row_length a xs (omega arith) m) },
  jobs_sized_from ks xs (suc a) hs l m (omega arith),
)

pub jobs_sized : (ks xs : List ℕ) (hs : List QueueEntry) → length ks ≡ 8192 → length xs ≡ 8192 → length hs ≤ 128 → All JobSized (jobs_of ks xs hs)
jobs_sized ks xs hs l m h = jobs_sized_from ks xs 0 hs l m (omega arith)

-- The empty entry is the empty job, whatever its row holds.
pub empty_jobs : (ks xs : List ℕ) (a n : ℕ) → each_at (job_at ks xs) a (replicate n no_entry) ≡ replicate n empty_job
unfolding each_at booking_of
empty_jobs ks xs a zero = refl
empty_jobs ks xs a (suc n) = ap (λ (l : List Job). empty_job ∷ l) (empty_jobs ks xs (suc a) n)

-- The job at a place is the entry there with its row.
pub job_there : (ks xs : List ℕ) (hs : List QueueEntry) (i : ℕ) → i < length hs → get_or (jobs_of ks xs hs) i no_job ≡ job_at ks xs i (get_or hs i no_entry)
job_there ks xs hs i h =
    let z : 0 + i ≡ i = omega arith in
    each_get (job_at ks xs) 0 i hs no_entry no_job h ∙ ap (λ (m : ℕ). job_at ks xs m (get_or hs i no_entry)) z

-- ---- Rows taken over, and rows moved

-- The jobs of such rows are the others' jobs.
pub alike_jobs : (hs : List QueueEntry) (n : ℕ) (ks xs from parts ks' xs' : List ℕ) → Alike 64 (use_of hs) n ks from ks' → Alike 64 (use_of hs) n xs parts xs'
    → take n (jobs_of ks' xs' hs) ≡ take n (jobs_of from parts hs)
alike_jobs hs n ks xs from parts ks' xs' a b =
    each_front (job_at ks' xs') (job_at from parts) no_entry 0 n hs
    (λ k h l.
    let z : k ≡ 0 + k = omega arith in
    let g : QueueEntry = get_or hs k no_entry in
    let e : job_at ks' xs' k g ≡ job_at from parts k g =
    ap₂ (λ (p q : List ℕ). record { number = g.number; show = g.show; size = g.size; compute = g.compute; deadline = g.deadline; booking = record { start = g.start; count = g.count; nodes = p ++ replicate (64 - g.count) 0; shares = q ++ replicate (64 - g.count) 0 } })
    (a.front k h) (b.front k h) in
    subst (λ (m : ℕ). job_at ks' xs' m g ≡ job_at from parts m g) z e)

-- The jobs of rows that are as they were are as they were.
pub behind_jobs : (ks xs ks' xs' : List ℕ) (n : ℕ) (hs : List QueueEntry) → Behind 64 n ks ks' → Behind 64 n xs xs' → each_at (job_at ks' xs') n hs ≡ each_at (job_at ks xs) n hs
behind_jobs ks xs ks' xs' n hs a b = each_same (job_at ks' xs') (job_at ks xs) n hs (λ k z h. ap₂ (job_of z) (a k h) (b k h))

-- An entry moved with its row is a job moved.
pub jobs_moved : (ks xs : List ℕ) (hs : List QueueEntry) (i j : ℕ) → (j ≡ i → ⊥) → i < 128 → j < 128 → length ks ≡ 8192 → length xs ≡ 8192 → j < length hs → (get_or hs j no_entry).count ≤ 64
    → jobs_of (row_moved 64 i j (get_or hs j no_entry).count ks) (row_moved 64 i j (get_or hs j no_entry).count xs) (set hs i (get_or hs j no_entry)) ≡ set (jobs_of ks xs hs) i (get_or (jobs_of ks xs hs) j no_job)
jobs_moved ks xs hs i j d h k l m low few =
    let g : QueueEntry = get_or hs j no_entry in
    let ks' : List ℕ = row_moved 64 i j g.count ks in
    let xs' : List ℕ = row_moved 64 i j g.count xs in
    let same : job_at ks' xs' i g ≡ job_at ks xs j g =
    ap₂ (λ (p q : List ℕ). record { number = g.number; show = g.show; size = g.size; compute = g.compute; deadline = g.deadline; booking = record { start = g.start; count = g.count; nodes = p ++ replicate (64 - g.count) 0; shares = q ++ replicate (64 - g.count) 0 } })
    (moved_front 64 i j ks d (omega arith) (omega arith) g.count few) (moved_front 64 i j xs d (omega arith) (omega arith) g.count few) in
    jobs_set ks xs ks' xs' hs i g (moved_elsewhere 64 i j ks d (omega arith) (omega arith) g.count few) (moved_elsewhere 64 i j xs d (omega arith) (omega arith) g.count few)
    ∙ ap (set (jobs_of ks xs hs) i) (same ∙ sym (job_there ks xs hs j low))

-- ---- The jobs by value

-- The first jobs by value, one more.
pub read_next : (ks xs : List ℕ) (hs : List QueueEntry) (i : ℕ) (out : List Job) → i < length hs → i < length out → take i out ≡ take i (jobs_of ks xs hs)
    → take (i + 1) (set out i (job_at ks xs i (get_or hs i no_entry))) ≡ take (i + 1) (jobs_of ks xs hs)
read_next ks xs hs i out h k e =
    let at = job_there ks xs hs i h in
    ap (λ (n : ℕ). take n (set out i (job_at ks xs i (get_or hs i no_entry)))) (add-one i)
    ∙ take-suc-set out i (job_at ks xs i (get_or hs i no_entry)) k
    ∙ ap₂ (λ (p : List Job) (q : Job). p ++ q ∷ []) e (sym at)
    ∙ sym (take-suc (jobs_of ks xs hs) i no_job (omega (arith, each_length (job_at ks xs) 0 hs)))
    ∙ ap (λ (n : ℕ). take n (jobs_of ks xs hs)) (sym (add-one i))
