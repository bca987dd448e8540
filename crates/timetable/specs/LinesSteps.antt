-- Lines in lent memory, one by one: what the functions of src/lines.rt promise each other.
use Rattle.std.specs.Prelude.{◌≡◌, refl, ℕ, suc, ◌+◌, ◌-◌, ◌≤◌, ◌<◌, get_or, take, drop, set}
use Rattle.std.proofs.Math.Path.{ap}
use Rattle.std.proofs.Common.{sym, subst, ◌∙◌, add-one, drop-cons, drop_of_length-le, arith, length-append, length-drop, take-append-drop, take-suc-set, drop-set-lt, drop-drop, length-take-le, take_at, drop_at}
use mathlib.Core.List.{List, [], ◌∷◌, ◌++◌, map, append_assoc}
use Rattle.std.proofs.Math.ListN.{length, length-map}
use Rattle.lists.specs.Laws.{All, all_nth, image_all, map_join}
use Rattle.limits.specs.declared.FarmCosts.{FarmCosts}
use Rattle.keys.specs.declared.Key.{Key}
use Rattle.keys.specs.Model.{no_key}
use Rattle.walk.specs.declared.Job.{Job}
use Rattle.walk.specs.declared.QueueEntry.{QueueEntry}
use Rattle.walk.specs.declared.Chunk.{Chunk}
use Rattle.walk.specs.declared.ChunkTerms.{ChunkTerms}
use Rattle.walk.specs.Model.{no_job, chunk_terms, chunk_on, chunks_from, lines_of, in_order}
use Rattle.walk.specs.View.{job_at, jobs_of, no_entry, job_there}
use Rattle.walk.specs.OrderSteps.{PlacesWithin}
use Rattle.walk.specs.Chunks.{Sendable, chunks_next}
use Rattle.booking.specs.Best.{chosen, units}
use Rattle.timetable.specs.Model.{lines_of_all}
use Rattle.timetable.specs.BeginSteps.{chunks}

-- memory of which the first n records stand, then come these lines, and from place e on it is what it is
abbrev pub Filled : {A : Type 0} → List A → ℕ → List A → ℕ → List A
Filled l n xs e = take n l ++ (xs ++ drop e l)

-- A line is stored where it belongs.
pub filled_next : {A : Type 0} (l : List A) (at i e : ℕ) (x : A) (xs ys : List A) → ys ≡ x ∷ xs → at + i < e → e ≤ length l → Filled l (at + i) ys e ≡ Filled (set l (at + i) x) (at + (i + 1)) xs e
filled_next l at i e x xs ys q h k =
    let n : at + (i + 1) ≡ suc (at + i) = omega arith in
    rw (q, n, take-suc-set l (at + i) x (omega arith), drop-set-lt e l (at + i) x h, append_assoc)

-- All are stored.
pub filled_all : {A : Type 0} (l : List A) (e : ℕ) → Filled l e [] e ≡ l
filled_all l e = take-append-drop e l

-- The next chunk's line is stored, in whatever form, where the chunks left have these nodes and shares and their lines fill the memory to `all`.
pub line_next : {L : Type 0} (f : Chunk → L) (all out : List L) (at i e : ℕ) (w : ChunkTerms) (t : ℕ) (x : Chunk) (k a : ℕ) (ks xs ks' xs' : List ℕ) → x ≡ chunk_on w t k a → (ks ≡ k ∷ ks') × (xs ≡ a ∷ xs')
    → at + i < e → e ≤ length out → all ≡ Filled out (at + i) (map f (chunks_from w t ks xs)) e → all ≡ Filled (set out (at + i) (f x)) (at + (i + 1)) (map f (chunks_from w x.sent ks' xs')) e
line_next f all out at i e w t x k a ks xs ks' xs' is steps h l same =
    same ∙ filled_next out at i e (f x) (map f (chunks_from w x.sent ks' xs')) (map f (chunks_from w t ks xs)) (ap (map f) (chunks_next w t x k a ks xs ks' xs' is steps)) h l

-- All are.
pub line_done : {L : Type 0} (f : Chunk → L) (all out : List L) (n e : ℕ) (left : List Chunk) → left ≡ [] → n ≡ e → all ≡ Filled out n (map f left) e → out ≡ all
line_done f all out n e left none full same = sym (same ∙ rw (none, full) (filled_all out e))

-- ---- Several jobs

-- A job's lines are as many as its chunks.
pub lines_length : (w : ChunkTerms) (t : ℕ) (ks xs : List ℕ) → length ks ≡ length xs → length (chunks_from w t ks xs) ≡ length xs
unfolding chunks_from
lines_length w t [] [] e = refl
lines_length w t [] (a ∷ xs) e = absurd (omega arith)
lines_length w t (k ∷ ks) [] e = absurd (omega arith)
lines_length w t (k ∷ ks) (a ∷ xs) e = ap suc (lines_length w (chunk_on w t k a).sent ks xs (omega arith))

pub job_lines : (c : FarmCosts) (j : Job) → Sendable c j → length (lines_of c j) ≡ j.booking.count
job_lines c j s = lines_length (chunk_terms c j) j.booking.start (chosen j.booking) (units j.booking) (s.nodes ∙ sym s.shares) ∙ s.shares

-- So are those of several jobs.
pub all_lines : (c : FarmCosts) (js : List Job) → All (Sendable c) js → length (lines_of_all c js) ≡ chunks js
unfolding lines_of_all chunks
all_lines c [] h = refl
all_lines c (j ∷ js) h = length-append (lines_of c j) (lines_of_all c js) ∙ omega (arith, job_lines c j h.0, all_lines c js h.1)

-- Lines are stored behind one another.
pub filled_more : {A : Type 0} (l xs ys : List A) (n m e : ℕ) → length xs ≡ m → n + m ≤ e → e ≤ length l → Filled l n (xs ++ ys) e ≡ Filled (Filled l n xs (n + m)) (n + m) ys e
filled_more {A} l xs ys n m e f h k =
    let q = n + m in
    let p : length (take n l ++ xs) ≡ q = length-append (take n l) xs ∙ omega (arith, f, length-take-le n l (omega arith)) in
    let whole : Filled l n xs q ≡ (take n l ++ xs) ++ drop q l = sym (append_assoc (take n l) xs (drop q l)) in
    let front : take q (Filled l n xs q) ≡ take n l ++ xs = ap (take q) whole ∙ take_at (take n l ++ xs) (drop q l) q p in
    let back : drop q (Filled l n xs q) ≡ drop q l = ap (drop q) whole ∙ drop_at (take n l ++ xs) (drop q l) q p in
    let split : q + (e - q) ≡ e = omega arith in
    let past : drop e (Filled l n xs q) ≡ drop e l =
    ap (λ (i : ℕ). drop i (Filled l n xs q)) (sym split) ∙ sym (drop-drop (e - q) q (Filled l n xs q)) ∙ ap (drop (e - q)) back ∙ drop-drop (e - q) q l ∙ ap (λ (i : ℕ). drop i l) split in
    ap (λ (t : List A). take n l ++ t) (append_assoc xs ys (drop e l)) ∙ sym (append_assoc (take n l) xs (ys ++ drop e l))
    ∙ sym (ap (λ (t : List A). t ++ (ys ++ drop e (Filled l n xs q))) front ∙ ap (λ (t : List A). (take n l ++ xs) ++ (ys ++ t)) past)

pub filled_length : {A : Type 0} (l xs : List A) (n m : ℕ) → length xs ≡ m → n + m ≤ length l → length (Filled l n xs (n + m)) ≡ length l
filled_length l xs n m f h =
    length-append (take n l) (xs ++ drop (n + m) l) ∙ omega (arith, f, length-append xs (drop (n + m) l), length-take-le n l (omega arith), length-drop (n + m) l)

-- ---- The jobs that keys name

-- Keys, of which key k comes next.
module _ (keys : List Key) (k : ℕ) (h : k < length keys) where
  abbrev place : ℕ
  place = (get_or keys k no_key).place

  pub place_within : PlacesWithin keys → place < 128
  place_within a = all_nth no_key (λ (x : Key). x.place < 128) keys k a h

  module _ (jobs : List Job) (j : Job) (q : get_or jobs place no_job ≡ j) where
    -- The job that it names is followed by those of the keys after it.
    pub named_next : in_order jobs (drop k keys) ≡ j ∷ in_order jobs (drop (k + 1) keys)
    named_next = ap (in_order jobs) (rw (← add-one k) at (drop-cons keys k no_key h)) ∙ ap (λ (a : Job). a ∷ in_order jobs (drop (k + 1) keys)) q

    -- What holds of all named jobs holds of it.
    pub named_all : (P : Job → Type 0) → All P (in_order jobs keys) → P j
    named_all P a = subst P q (all_nth no_key (λ (x : Key). P (get_or jobs x.place no_job)) keys k (image_all P (λ (x : Key). get_or jobs x.place no_job) keys a) h)

  -- Of a queue it names an entry with its row.
  module _ (ks xs : List ℕ) (hs : List QueueEntry) (l : length hs ≡ 128) (within : PlacesWithin keys) where
    abbrev entry : Job
    entry = job_at ks xs place (get_or hs place no_entry)

    there : get_or (jobs_of ks xs hs) place no_job ≡ entry
    there = job_there ks xs hs place (omega (arith, place_within within))

    pub entry_next : in_order (jobs_of ks xs hs) (drop k keys) ≡ entry ∷ in_order (jobs_of ks xs hs) (drop (k + 1) keys)
    entry_next = named_next (jobs_of ks xs hs) entry there

    pub entry_all : (P : Job → Type 0) → All P (in_order (jobs_of ks xs hs) keys) → P entry
    entry_all P a = named_all (jobs_of ks xs hs) entry there P a

-- No key, no job.
pub named_none : (jobs : List Job) (keys : List Key) (k : ℕ) → length keys ≤ k → in_order jobs (drop k keys) ≡ []
named_none jobs keys k h = ap (in_order jobs) (drop_of_length-le keys {i = k} h)

-- ---- Their lines

module _ {L : Type 0} (f : Chunk → L) (c : FarmCosts) (js : List Job) where
  -- where a loop over these jobs stands, with `at` lines written: those left fill the memory to what all make of the first
  pub record Writing (first out : List L) (at : ℕ) (left : List Job) : Type 0 where
    pub size : length out ≡ length first
    pub same : Filled first 0 (map f (lines_of_all c js)) (chunks js) ≡ Filled out at (map f (lines_of_all c left)) (chunks js)
    pub rest : at + chunks left ≡ chunks js

  module _ (first out : List L) (at : ℕ) (left : List Job) (x : Writing first out at left) where
    -- The next job's lines have room.
    pub writing_room : (j : Job) (later : List Job) → left ≡ j ∷ later → at + j.booking.count ≤ chunks js
    unfolding chunks
    writing_room j later e = omega (arith, x.rest, ap chunks e)

    -- They are written, and those of the others come next.
    pub writing_next : (j : Job) (later : List Job) → left ≡ j ∷ later → Sendable c j → chunks js ≤ length first
        → Writing first (Filled out at (map f (lines_of c j)) (at + j.booking.count)) (at + j.booking.count) later
    unfolding lines_of_all chunks
    writing_next j later e s fits =
        let size = x.size in
        let many : length (map f (lines_of c j)) ≡ j.booking.count = length-map (lines_of c j) f ∙ job_lines c j s in
        let split : map f (lines_of_all c left) ≡ map f (lines_of c j) ++ map f (lines_of_all c later) = rw e (map_join f (lines_of c j) (lines_of_all c later)) in
        record {
          size = filled_length out (map f (lines_of c j)) at j.booking.count many (omega (arith, size, writing_room j later e)) ∙ size;
          same = x.same ∙ rw split (filled_more out (map f (lines_of c j)) (map f (lines_of_all c later)) at j.booking.count (chunks js) many (writing_room j later e) (omega (arith, size)));
          rest = omega (arith, x.rest, ap chunks e);
        }

    -- At the end all are written.
    pub writing_all : left ≡ [] → out ≡ Filled first 0 (map f (lines_of_all c js)) (chunks js)
    unfolding lines_of_all chunks
    writing_all none =
        let e : at + 0 ≡ chunks js = rw none at x.rest in
        let g : at ≡ chunks js = omega arith in
        sym (x.same ∙ rw (none, g) (filled_all out (chunks js)))
