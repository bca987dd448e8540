-- A clock move and showing, question by question: what the functions of src/clock.rt need and promise each other.
use Rattle.std.specs.Prelude.{◌≡◌, refl, Bool, true, false, cond, not, ℕ, zero, suc, ◌+◌, ◌-◌, ◌≤◌, ◌<◌, leb, eqb, get_or, take, set, Result, Ok, Err, is_ok}
use Rattle.std.proofs.Math.Path.{ap, sym}
use Rattle.std.proofs.Common.{ap₂, subst, ◌∙◌, arith, leb-true, le-leb, eqb-true, eq-eqb, ne_eqb, take-append-drop, take_at}
use mathlib.Core.List.Permᴰ
use mathlib.Core.List.{List, [], ◌∷◌, ◌++◌}
use Rattle.std.proofs.lemmas.Bool.{lt-leb}
use Rattle.std.proofs.Math.ListN.{length, drop}
use Rattle.std.proofs.lemmas.List.{length-map, length-take}
use Rattle.std.proofs.Math.Seq.{length-take-le}
use Rattle.lists.specs.Laws.{All, all_map, all_both, all_front, all_take, perm_all, perm_length, front_none}
use Rattle.lists.specs.Fronts.{Kept, behind_same, kept_same, kept_all_lem}
use Rattle.lists.specs.Places.{each_at}
use Rattle.booking.specs.Best.{chosen}
use Rattle.walk.specs.declared.Job.{Job}
use Rattle.walk.specs.declared.QueueEntry.{QueueEntry}
use Rattle.walk.specs.declared.FreeTimes.{FreeTimes}
use Rattle.walk.specs.declared.Chunk.{Chunk}
use Rattle.keys.specs.declared.Key.{Key}
use Rattle.walk.specs.Order.{by_start_perm}
use Rattle.walk.specs.OrderSteps.{in_order_front}
use Rattle.walk.specs.Chunks.{Sendable}
use Rattle.timetable.specs.declared.Due.{Due}
use Rattle.walk.specs.View.{job_at, jobs_of, no_entry, Short, Few, job_there}
use Rattle.queue.specs.RowSteps.{QueueSized, MovedUp, count_few, sized_moved, kept_moved}
use Rattle.timetable.specs.BeginSteps.{chunks, RaisesAll, keep_next, keep_past}
use Rattle.timetable.specs.DueSteps.{IsDue}
use Rattle.timetable.specs.LinesSteps.{all_lines}
use Rattle.lists.specs.Keep.{keep_all, keep_none, keep_every}
use Rattle.limits.specs.Model.{CostsWithin}
use Rattle.limits.specs.Says.{between_is}
use Rattle.soundness.specs.Sound.{JobKept}
use Rattle.planner.specs.declared.Farm as stored
use Rattle.planner.specs.declared.Reply.{Reply}
use Rattle.answers.specs.declared.Question.{Question}
use Rattle.answers.specs.declared.Question.TheVariants as question
use Rattle.answers.specs.declared.Granted.TheVariants as answer
use Rattle.answers.specs.declared.Granted.{Granted}
use Rattle.planner.specs.declared.Move.{Move}
use Rattle.planner.specs.Model.{Farm, meant, greatest, most_held, between, Between, no_job, afters, in_order, by_start, waiting_of, free_times_of, JobSized, Sized}
use Rattle.planner.specs.Passes.{passes_of, bounds_of, JobWithin}
use Rattle.planner.specs.PassesSteps.{passes_within, passes_jobs, passes_few}
use Rattle.planner.specs.Changes.{with_jobs, at_time}
use Rattle.planner.specs.Calls.{Clock, Shown, said, number_of, granted, Replies, Tells}
use Rattle.planner.specs.Clock.{keep, starts_by, starts_after, lines_of_all, raised, begun, waiting_on, issued, moved_farm, move_asked, move_said, move_farm, move_memory, move_lines, shown, shown_asked, shown_said, shown_memory, shown_lines}

-- what questions 11, 9 and 10 ask, all answered yes
pub record MoveGranted (f : Farm) (t n : ℕ) : Type 0 where
  pub passes : passes_of f ≡ true
  pub time : Between f.clock t greatest
  pub lines : length (issued f t) ≤ n

-- ---- The questions

asked_yes : (a b c : Bool) → ◌≡◌ {A = ℕ} (cond a (cond b (cond c 0 10) 9) 11) 0 → (a ≡ true) × (b ≡ true) × (c ≡ true)
asked_yes true true true h = (refl, refl, refl)
asked_yes true true false h = absurd (omega arith)
asked_yes true false c h = absurd (omega arith)
asked_yes false b c h = absurd (omega arith)

-- A clock move that is asked all its questions has each answered yes.
pub move_granted : (f : Farm) (t n : ℕ) → move_asked f t n ≡ 0 → MoveGranted f t n
unfolding move_asked
move_granted f t n h =
    let q = asked_yes (passes_of f) (between f.clock t greatest) (leb (length (issued f t)) n) h in
    record { passes = q.0; time = between_is f.clock t greatest q.1; lines = leb-true (length (issued f t)) n q.2 }

module _ (f : Farm) (t n : ℕ) where
  -- The questions of a clock move in their order. Refused with 11: the farm.
  pub move_unsound : passes_of f ≡ false → move_asked f t n ≡ 11
  unfolding move_asked
  move_unsound a = rw a

  -- Refused with 9: the time.
  pub move_untimely : passes_of f ≡ true → between f.clock t greatest ≡ false → move_asked f t n ≡ 9
  unfolding move_asked
  move_untimely a b = rw (a, b)

  -- Refused with 10: the lent timetable.
  pub move_unheld : passes_of f ≡ true → between f.clock t greatest ≡ true → leb (length (issued f t)) n ≡ false → move_asked f t n ≡ 10
  unfolding move_asked
  move_unheld a b c = rw (a, b, c)

  -- All answered yes.
  pub move_asked_lem : passes_of f ≡ true → between f.clock t greatest ≡ true → leb (length (issued f t)) n ≡ true → move_asked f t n ≡ 0
  unfolding move_asked
  move_asked_lem a b c = rw (a, b, c)

module _ (f : Farm) (n : ℕ) where
  -- The questions of showing in their order. Refused with 11: the farm.
  pub shown_unsound : passes_of f ≡ false → shown_asked f n ≡ 11
  unfolding shown_asked
  shown_unsound a = rw a

  -- Refused with 10: the lent timetable.
  pub shown_unheld : passes_of f ≡ true → leb (length (shown f)) n ≡ false → shown_asked f n ≡ 10
  unfolding shown_asked
  shown_unheld a b = rw (a, b)

  -- All answered yes.
  pub shown_asked_lem : passes_of f ≡ true → leb (length (shown f)) n ≡ true → shown_asked f n ≡ 0
  unfolding shown_asked
  shown_asked_lem a b = rw (a, b)

-- ---- In order of start

-- The waiting jobs in order of start, at the front of an array.
pub ordered_front : (f : Farm) (js ordered : List Job) → Sized f → f.waiting ≤ 128 → take f.waiting js ≡ waiting_of f → ordered ≡ by_start (take f.waiting js) ++ drop f.waiting js → take f.waiting ordered ≡ by_start (waiting_of f)
ordered_front f js ordered sized w e o =
    ap (take f.waiting) (o ∙ ap (λ (l : List Job). by_start l ++ drop f.waiting js) e) ∙ take_at (by_start (waiting_of f)) (drop f.waiting js) f.waiting
    (sym (perm_length (by_start_perm (waiting_of f))) ∙ length-take-le f.waiting f.jobs (omega (arith, sized.jobs)))

-- ---- Jobs that wait

-- The chunks of a waiting job can be worked out.
waiting_sends : (f : Farm) (j : Job) → f.nodes ≤ 64 → CostsWithin f.costs → JobSized j → JobWithin (bounds_of f) j → JobKept (bounds_of f) j → Sendable f.costs j
waiting_sends f j n r z w k = record {
  few = w.count.1;
  nodes = length-take-le j.booking.count j.booking.nodes (omega (arith, z.nodes, w.count.1));
  shares = length-take-le j.booking.count j.booking.shares (omega (arith, z.shares, w.count.1));
  known = all_map (λ k b. (b.0, omega (arith, b.1))) (chosen j.booking) w.nodes;
  ends = omega (arith, k.ends, w.deadline);
  costs = r;
  compute = w.compute.1;
}

-- what the jobs of a list bring where they begin: chunks that can be worked out, shows with a cell, cells with room
pub record CanBegin (f : Farm) (j : Job) : Type 0 where
  pub sends : Sendable f.costs j
  pub show : (1 ≤ j.show) × (j.show ≤ 32)
  pub room : get_or f.held (j.show - 1) 0 ≤ most_held

module _ (f : Farm) (sized : Sized f) (e : passes_of f ≡ true) where
  pub waiting_few : f.waiting ≤ 128
  waiting_few = (passes_within f e).waiting

  waiting_can_begin : All (CanBegin f) (waiting_of f)
  waiting_can_begin =
      let w = passes_within f e in
      let room : (j : Job) → JobWithin (bounds_of f) j → get_or f.held (j.show - 1) 0 ≤ most_held =
      λ j h.
      let i : j.show - 1 < f.shows = omega (arith, h.show) in
      all_front 0 (λ (x : ℕ). x ≤ most_held) f.held f.shows (j.show - 1) i (omega (arith, w.shows.1, sized.held)) w.held in
      all_both (λ j z h. record {
        sends = waiting_sends f j w.nodes.1 w.costs z h.0 h.1;
        show = (h.0.show.0, omega (arith, h.0.show.1, w.shows.1));
        room = room j h.0;
      }) (waiting_of f) (all_take JobSized f.waiting f.jobs sized.each) (passes_jobs f e)

  pub by_start_can_begin : All (CanBegin f) (by_start (waiting_of f))
  by_start_can_begin = perm_all (CanBegin f) (by_start_perm (waiting_of f)) waiting_can_begin

  pub begun_can_begin : (t : ℕ) → All (CanBegin f) (begun f t)
  begun_can_begin t = all_map (λ j h. h.0) (begun f t) (keep_all (starts_by t) (CanBegin f) (by_start (waiting_of f)) by_start_can_begin)

can_begin_sends : (f : Farm) (js : List Job) → All (CanBegin f) js → All (Sendable f.costs) js
can_begin_sends f js h = all_map (λ j a. a.sends) js h

pub can_begin_few : (f : Farm) (js : List Job) → All (CanBegin f) js → All Few js
can_begin_few f js h = all_map (λ j a. a.sends.few) js h

-- ---- A clock move, worked out

-- a farm that passes, and what a move to t begins on it
pub record Begins (f : Farm) (t : ℕ) (d : Due) : Type 0 where
  pub passes : passes_of f ≡ true
  pub due : IsDue f.jobs f.waiting t d

-- Where each job has few chunks so has each entry.
few_entries : (ks xs : List ℕ) (a n : ℕ) (hs : List QueueEntry) → All Few (take n (each_at (job_at ks xs) a hs)) → All Short (take n hs)
unfolding each_at
few_entries ks xs a zero hs h = tt
few_entries ks xs a (suc n) [] h = tt
few_entries ks xs a (suc n) (g ∷ hs) h = (h.0, few_entries ks xs (suc a) n hs h.1)

module _ (f : Farm) (sized : Sized f) (e : passes_of f ≡ true) where
  -- what is asked to find it
  pub due_asked : (ks xs : List ℕ) (hs : List QueueEntry) → f.jobs ≡ jobs_of ks xs hs → (length (take f.waiting hs) ≤ 128) × All Short (take f.waiting hs)
  due_asked ks xs hs q = (
    omega (arith, length-take f.waiting hs, waiting_few f sized e),
    few_entries ks xs 0 f.waiting hs (subst (λ (js : List Job). All Few (take f.waiting js)) q (passes_few f e)),
  )

module _ (f : Farm) (t : ℕ) (d : Due) (sized : Sized f) (x : Begins f t d) where
  -- The jobs that the keys name.
  abbrev named : List Job
  named = in_order f.jobs (take d.count d.keys)

  pub begins_few : d.count ≤ 128
  begins_few = omega (arith, x.due.few, waiting_few f sized x.passes)

  pub begins_keys : length (take d.count d.keys) ≤ 128
  begins_keys = omega (arith, length-take d.count d.keys, begins_few)

  pub begins_places : All (λ (k : Key). k.place < 128) (take d.count d.keys)
  begins_places = all_map (λ k p. omega (arith, waiting_few f sized x.passes)) (take d.count d.keys) x.due.places

  begins_ready : All (CanBegin f) named
  begins_ready = subst (All (CanBegin f)) (sym x.due.jobs) (begun_can_begin f sized x.passes t)

  pub begins_sends : All (Sendable f.costs) named
  begins_sends = can_begin_sends f named begins_ready

  pub begins_raises : RaisesAll f.costs f.held named
  begins_raises = record {
    sends = begins_sends;
    shows = all_map (λ j a. a.show) named begins_ready;
    room = all_map (λ j a. a.room) named begins_ready;
  }

  -- Their lines are those that are issued, and as many as were counted.
  pub begins_lines : lines_of_all f.costs named ≡ issued f t
  begins_lines = ap (lines_of_all f.costs) x.due.jobs

  pub begins_count : length (issued f t) ≡ d.lines
  begins_count = all_lines f.costs (begun f t) (can_begin_sends f (begun f t) (begun_can_begin f sized x.passes t)) ∙ sym x.due.lines

-- The farm with what its parts come to is the moved farm.
pub moved_is : (f : Farm) (t : ℕ) (ls : List Job) (b : FreeTimes) (hs : List ℕ) (k : ℕ) (js : List Job) → ls ≡ begun f t
    → b ≡ afters (free_times_of f) (lines_of_all f.costs ls)
    → hs ≡ raised f.held (lines_of_all f.costs ls)
    → k ≡ length (waiting_on f t)
    → js ≡ waiting_on f t ++ drop k f.jobs
    → with_jobs (at_time f t b hs) f.used k js ≡ moved_farm f t
moved_is f t ls b hs k js q e₁ e₂ e₃ e₄ =
    let b' : b ≡ afters (free_times_of f) (issued f t) = e₁ ∙ ap (λ (l : List Job). afters (free_times_of f) (lines_of_all f.costs l)) q in
    let h' : hs ≡ raised f.held (issued f t) = e₂ ∙ ap (λ (l : List Job). raised f.held (lines_of_all f.costs l)) q in
    let j' : js ≡ waiting_on f t ++ drop (length (waiting_on f t)) f.jobs = e₄ ∙ ap (λ (i : ℕ). waiting_on f t ++ drop i f.jobs) e₃ in
    rw (b', h', j', e₃)

-- ---- The jobs that wait on, moved up with their rows

-- where the loop over the waiting entries stands at place i: of the jobs before it those that start after t are in
-- front, and behind them the entries and their rows mean the old jobs
pub record WaitsOn (f : Farm) (t : ℕ) (ks xs : List ℕ) (hs : List QueueEntry) (kept i : ℕ) : Type 0 where
  pub within : i ≤ f.waiting
  pub some : kept ≤ i
  pub sized : QueueSized ks xs hs
  pub left : Kept 128 (waiting_on f t) f.jobs (jobs_of ks xs hs) kept (keep (starts_after t) (drop i (waiting_of f)))

-- What is the same stands the same.
pub waits_same : {f : Farm} {t : ℕ} {ks xs ks' xs' : List ℕ} {hs hs' : List QueueEntry} {kept kept' i : ℕ} → ks' ≡ ks → xs' ≡ xs → hs' ≡ hs → kept' ≡ kept → WaitsOn f t ks xs hs kept i
    → WaitsOn f t ks' xs' hs' kept' i
waits_same e₁ e₂ e₃ e₄ x = rw (e₁, e₂, e₃, e₄) x

module _ (f : Farm) (t : ℕ) (size : length f.jobs ≡ 128) (most : f.waiting ≤ 128) (ks xs : List ℕ) (hs : List QueueEntry) where
  pub waits_first : f.jobs ≡ jobs_of ks xs hs → QueueSized ks xs hs → WaitsOn f t ks xs hs 0 0
  waits_first q s = record { within = omega arith; some = omega arith; sized = s; left = record { size = ap length (sym q) ∙ size; front = refl; behind = sym q } }

  module _ (kept i : ℕ) (x : WaitsOn f t ks xs hs kept i) where
    -- At the end they are all in front.
    pub waits_all : f.waiting ≤ i → (kept ≡ length (waiting_on f t)) × (jobs_of ks xs hs ≡ waiting_on f t ++ drop kept f.jobs)
    unfolding keep
    waits_all h =
        kept_all_lem 128 (waiting_on f t) f.jobs (jobs_of ks xs hs) kept (omega (arith, x.some, x.within))
        (subst (λ (js : List Job). Kept 128 (waiting_on f t) f.jobs (jobs_of ks xs hs) kept (keep (starts_after t) js)) (front_none f.jobs f.waiting i (omega arith) h) x.left)

    module _ (h : i < f.waiting) where
      same : get_or (jobs_of ks xs hs) i no_job ≡ get_or f.jobs i no_job
      same = behind_same no_job (jobs_of ks xs hs) f.jobs kept i x.some x.left.behind

      starts : (get_or f.jobs i no_job).booking.start ≡ (get_or hs i no_entry).start
      starts = ap (λ (j : Job). j.booking.start) (sym same ∙ job_there ks xs hs i (omega (arith, x.sized.entries)))

      -- The entry there has few chunks.
      pub waits_few : All Few (waiting_of f) → (get_or hs i no_entry).count ≤ 64
      waits_few a = count_few ks xs hs f.jobs f.waiting kept i x.some h (omega arith) (omega (arith, x.sized.entries)) x.left.behind a

      -- It starts by t: it is left out.
      pub waits_past : (get_or hs i no_entry).start ≤ t → WaitsOn f t ks xs hs kept (i + 1)
      waits_past k = record {
        within = omega arith;
        some = omega (arith, x.some);
        sized = x.sized;
        left = subst (Kept 128 (waiting_on f t) f.jobs (jobs_of ks xs hs) kept) (keep_past f.jobs f.waiting i h (omega arith) t (omega (arith, starts))) x.left;
      }

      module _ (k : t < (get_or hs i no_entry).start) where
        next : Kept 128 (waiting_on f t) f.jobs (jobs_of ks xs hs) kept (get_or (jobs_of ks xs hs) i no_job ∷ keep (starts_after t) (drop (i + 1) (waiting_of f)))
        next =
            subst (Kept 128 (waiting_on f t) f.jobs (jobs_of ks xs hs) kept)
            (keep_next f.jobs f.waiting i h (omega arith) t (omega (arith, starts)) ∙ ap (λ (j : Job). j ∷ keep (starts_after t) (drop (i + 1) (waiting_of f))) (sym same)) x.left

        -- It starts later: it stays where it is, where none is left out yet,
        pub waits_stay : i ≤ kept → WaitsOn f t ks xs hs (kept + 1) (i + 1)
        waits_stay g =
            let e : i ≡ kept = omega (arith, x.some) in
            record {
              within = omega arith;
              some = omega (arith, x.some);
              sized = x.sized;
              left = kept_same no_job 128 (waiting_on f t) f.jobs (jobs_of ks xs hs) kept _ (omega arith)
                  (subst (λ (n : ℕ). Kept 128 (waiting_on f t) f.jobs (jobs_of ks xs hs) kept (get_or (jobs_of ks xs hs) n no_job ∷ keep (starts_after t) (drop (i + 1) (waiting_of f)))) e next);
            }

        -- and moves up with its row behind one that is.
        pub waits_moved : (ks' xs' : List ℕ) → All Few (waiting_of f) → kept < i → MovedUp kept i (get_or hs i no_entry).count ks xs ks' xs'
            → WaitsOn f t ks' xs' (set hs kept (get_or hs i no_entry)) (kept + 1) (i + 1)
        waits_moved ks' xs' a g m = record {
          within = omega arith;
          some = omega arith;
          sized = sized_moved ks xs ks' xs' hs kept i (get_or hs i no_entry).count g (omega arith) x.sized refl (waits_few a) m;
          left = kept_moved ks xs ks' xs' hs kept i (get_or hs i no_entry).count g (omega arith) x.sized refl (waits_few a) m (waiting_on f t) f.jobs _ next;
        }

-- what a move on a farm that passes comes to before its lines are written; what is due is said of a refused one too
pub record MoveDecides (f : Farm) (t n : ℕ) (r : Move) : Type 0 where
  pub says : said r.answer ≡ move_said f t n
  pub granted : is_ok r.answer ≡ eqb (move_asked f t n) 0
  pub due : IsDue f.jobs f.waiting t r.due
  pub sized : Sized f

module _ (f : Farm) (t n : ℕ) (d : Due) (sized : Sized f) (x : Begins f t d) where
  -- Refused with 9: the time.
  pub decides_untimely : between f.clock t greatest ≡ false → MoveDecides f t n (record { answer = Err question.Time; due = d })
  unfolding move_said
  decides_untimely b = let a = move_untimely f t n x.passes b in record { says = rw a; granted = rw a; due = x.due; sized = sized }

  -- Refused with 10: the lent timetable.
  pub decides_unheld : between f.clock t greatest ≡ true → n < d.lines → MoveDecides f t n (record { answer = Err question.Lines; due = d })
  unfolding move_said
  decides_unheld b h =
      let a = move_unheld f t n x.passes b (lt-leb (length (issued f t)) n (omega (arith, begins_count f t d sized x))) in
      record { says = rw a; granted = rw a; due = x.due; sized = sized }

  -- Granted.
  pub decides_granted : between f.clock t greatest ≡ true → d.lines ≤ n → MoveDecides f t n (record { answer = Ok (answer.Clock t d.lines); due = d })
  unfolding move_said
  decides_granted b h =
      let a = move_asked_lem f t n x.passes b (le-leb (length (issued f t)) n (omega (arith, begins_count f t d sized x))) in
      record { says = rw a (ap (λ (i : ℕ). granted Clock (t ∷ i ∷ [])) (sym (begins_count f t d sized x))); granted = rw a; due = x.due; sized = sized }

-- What follows for the farm that is handed back, and for the lines.
module _ (f : Farm) (t n : ℕ) (r : Move) (x : MoveDecides f t n r) where
  pub move_refused : is_ok r.answer ≡ false → (move_farm f t n ≡ f) × (move_lines f t n ≡ [])
  unfolding move_farm
  move_refused e = let z = sym x.granted ∙ e in (rw z, rw z)

  pub move_taken : is_ok r.answer ≡ true → (move_farm f t n ≡ moved_farm f t) × (move_lines f t n ≡ issued f t) × (length (issued f t) ≤ n)
  unfolding move_farm
  move_taken e = let z = sym x.granted ∙ e in (rw z, rw z, (move_granted f t n (eqb-true (move_asked f t n) 0 z)).lines)

-- ---- A clock move

-- A move that is refused hands back the very farm, and writes nothing.
pub move_stops : (f : stored.Farm) (t : ℕ) (m : List Chunk) (a : Result Granted Question) (r : Reply) → r ≡ record { answer = a; farm = f } → said a ≡ move_said (meant f) t (length m) → eqb (move_asked (meant f) t (length m)) 0 ≡ false
    → Replies f r (move_said (meant f) t (length m)) (move_farm (meant f) t (length m)) × (m ≡ move_memory (meant f) t m)
unfolding move_farm move_memory
move_stops f t m a r e says z = (
  record {
    says = ap (λ (x : Reply). said x.answer) e ∙ says;
    hands = ap (λ (x : Reply). meant x.farm) e ∙ rw z;
    same = λ _. ap (λ (x : Reply). x.farm) e;
  },
  rw z,
)

-- So does one to a farm that does not pass.
pub move_unsound_stops : (f : stored.Farm) (t : ℕ) (m : List Chunk) (r : Reply) → r ≡ record { answer = Err question.Farm; farm = f } → passes_of (meant f) ≡ false
    → Replies f r (move_said (meant f) t (length m)) (move_farm (meant f) t (length m)) × (m ≡ move_memory (meant f) t m)
unfolding move_said
move_unsound_stops f t m r e p = let a = move_unsound (meant f) t (length m) p in move_stops f t m (Err question.Farm) r e (rw a) (rw a)

move_number : (f : Farm) (t n : ℕ) → eqb (move_asked f t n) 0 ≡ true → (move_said f t n).number ≡ 0
unfolding move_said
move_number f t n e = rw e

-- What is due, at the front of an array of jobs: what its writer asks for, and what it leaves.
module _ (f : Farm) (t : ℕ) (d : Due) (sized : Sized f) (x : Begins f t d) (js : List Job) (q : take d.count js ≡ in_order f.jobs (take d.count d.keys)) where
  due_sends : All (Sendable f.costs) (take d.count js)
  due_sends = subst (All (Sendable f.costs)) (sym q) (begins_sends f t d sized x)

  due_lines : lines_of_all f.costs (take d.count js) ≡ issued f t
  due_lines = ap (lines_of_all f.costs) q ∙ begins_lines f t d sized x

  due_count : chunks (take d.count js) ≡ length (issued f t)
  due_count = sym (all_lines f.costs (take d.count js) due_sends) ∙ ap length due_lines

  pub due_asks : (n : ℕ) → length (issued f t) ≤ n → All (Sendable f.costs) (take d.count js) × (chunks (take d.count js) ≤ n)
  due_asks n h = (due_sends, omega (arith, due_count))

  pub due_written : (m : List Chunk) → lines_of_all f.costs (take d.count js) ++ drop (chunks (take d.count js)) m ≡ issued f t ++ drop (length (issued f t)) m
  due_written m = rw (due_lines, due_count)

-- A move that is granted writes the lines of what begins.
pub move_goes : (f : stored.Farm) (t : ℕ) (m out : List Chunk) (r : Move) (next : stored.Farm) → MoveDecides (meant f) t (length m) r → is_ok r.answer ≡ true
    → meant next ≡ moved_farm (meant f) t → out ≡ issued (meant f) t ++ drop (length (issued (meant f) t)) m
    → Replies f (record { answer = r.answer; farm = next }) (move_said (meant f) t (length m)) (move_farm (meant f) t (length m)) × (out ≡ move_memory (meant f) t m)
unfolding move_farm move_memory
move_goes f t m out r next x g e o =
    let z = sym x.granted ∙ g in (
      record {
        says = x.says;
        hands = e ∙ rw z;
        same = λ h. absurd (h (move_number (meant f) t (length m) z));
      },
      o ∙ rw z,
    )

-- The jobs that are due, at the front of an array.
pub due_front : (f : Farm) (t : ℕ) (d : Due) (all js : List Job) → Sized f → Begins f t d → length all ≡ 128 → take f.waiting all ≡ waiting_of f → js ≡ in_order all (take d.count d.keys) ++ drop (length (take d.count d.keys)) all
    → take d.count js ≡ in_order f.jobs (take d.count d.keys)
due_front f t d all js sized x full front e =
    ap (take d.count) e ∙ take_at (in_order all (take d.count d.keys)) (drop (length (take d.count d.keys)) all) d.count
    (length-map (take d.count d.keys) (λ (k : Key). get_or all k.place no_job) ∙ length-take-le d.count d.keys (omega (arith, begins_few f t d sized x, x.due.whole)))
    ∙ in_order_front all f.waiting (take d.count d.keys) x.due.places
    ∙ ap (λ (l : List Job). in_order l (take d.count d.keys)) front
    ∙ sym (in_order_front f.jobs f.waiting (take d.count d.keys) x.due.places)

-- ---- A move that begins no job

-- the farm with another clock
abbrev pub clock_at : Farm → ℕ → Farm
clock_at f t = at_time f t (free_times_of f) f.held

module _ (f : Farm) (t : ℕ) (few : f.waiting ≤ length f.jobs) (late : All (λ (j : Job). starts_by t j ≡ false) (waiting_of f)) where
  pub none_begun : begun f t ≡ []
  none_begun = keep_none (starts_by t) (by_start (waiting_of f)) (perm_all (λ (j : Job). starts_by t j ≡ false) (by_start_perm (waiting_of f)) late)

  all_left : waiting_on f t ≡ waiting_of f
  all_left = keep_every (starts_after t) (waiting_of f) (all_map (λ j e. ap not e) (waiting_of f) late)

  -- Only its clock changes.
  pub unbegun_farm : clock_at f t ≡ moved_farm f t
  unfolding raised afters lines_of_all
  unbegun_farm =
      let count : length (waiting_on f t) ≡ f.waiting = ap length all_left ∙ length-take-le f.waiting f.jobs few in
      let jobs : waiting_on f t ++ drop (length (waiting_on f t)) f.jobs ≡ f.jobs = rw (count, all_left) (take-append-drop f.waiting f.jobs) in
      rw (none_begun, jobs, count)

  pub none_issued : issued f t ≡ []
  unfolding lines_of_all
  none_issued = rw none_begun

keep_empty : (p : Job → Bool) (js : List Job) → length (keep p js) ≡ 0 → All (λ (j : Job). p j ≡ false) js
unfolding keep
keep_empty p [] h = tt
keep_empty p (j ∷ js) h = go (p j) refl h (keep_empty p js)
  where
    go : (b : Bool) → p j ≡ b → length (cond b (j ∷ keep p js) (keep p js)) ≡ 0 → (length (keep p js) ≡ 0 → All (λ (j : Job). p j ≡ false) js) → (p j ≡ false) × All (λ (j : Job). p j ≡ false) js
    go true e h r = absurd (omega arith)
    go false e h r = (e, r h)

-- Where no job is due only the clock changes, and no line is issued.
pub none_due_yet : (f : Farm) (t : ℕ) (d : Due) → Sized f → Begins f t d → d.count ≡ 0 → (clock_at f t ≡ moved_farm f t) × (issued f t ≡ [])
none_due_yet f t d sized x e =
    let none : length (begun f t) ≡ 0 = ap length (sym x.due.jobs) ∙ ap (λ (k : ℕ). length (in_order f.jobs (take k d.keys))) e in
    let late : All (λ (j : Job). starts_by t j ≡ false) (waiting_of f) =
    perm_all (λ (j : Job). starts_by t j ≡ false) (Permᴰ.symm (by_start_perm (waiting_of f))) (keep_empty (starts_by t) (by_start (waiting_of f)) none) in
    let few : f.waiting ≤ length f.jobs = omega (arith, waiting_few f sized x.passes, sized.jobs) in
    (unbegun_farm f t few late, none_issued f t few late)

-- ---- The lent memory

-- The lent memory is the lines that are written with the rest of it behind them.
pub move_memory_lem : (f : Farm) (t : ℕ) (m : List Chunk) → move_memory f t m ≡ move_lines f t (length m) ++ drop (length (move_lines f t (length m))) m
unfolding move_memory
move_memory_lem f t m = go (eqb (move_asked f t (length m)) 0)
  where
    go : (b : Bool) → cond b (issued f t ++ drop (length (issued f t)) m) m ≡ cond b (issued f t) [] ++ drop (length (cond b (issued f t) [])) m
    go true = refl
    go false = refl

-- ---- Showing

-- Showing that is refused writes nothing.
pub show_stops : (f : stored.Farm) (m : List Chunk) (n : ℕ) (q : Question) (r : Reply) → r ≡ record { answer = Err q; farm = f } → shown_asked (meant f) (length m) ≡ suc n → number_of q ≡ suc n
    → Tells f r (shown_said (meant f) (length m)) × (m ≡ shown_memory (meant f) m)
unfolding shown_said shown_memory
show_stops f m n q r e a b =
    let z = ne_eqb (shown_asked (meant f) (length m)) 0 (λ h. omega (arith, a)) in (
      record { says = ap (λ (y : Reply). said y.answer) e ∙ rw (z, a, b); hands = ap (λ (y : Reply). y.farm) e },
      rw z,
    )

-- The lines that are shown are as many as the waiting bookings' chunks.
pub shown_lines_lem : (f : Farm) (ordered : List Job) → take f.waiting ordered ≡ by_start (waiting_of f) → All (CanBegin f) (take f.waiting ordered)
    → length (shown f) ≡ chunks (take f.waiting ordered)
shown_lines_lem f ordered o h =
    ap (λ (js : List Job). length (lines_of_all f.costs js)) (sym o) ∙ all_lines f.costs (take f.waiting ordered) (can_begin_sends f (take f.waiting ordered) h)

-- What its writer asks for, and what it leaves.
module _ (f : Farm) (ordered : List Job) (o : take f.waiting ordered ≡ by_start (waiting_of f)) (h : All (CanBegin f) (take f.waiting ordered)) where
  pub shown_sends : All (Sendable f.costs) (take f.waiting ordered)
  shown_sends = can_begin_sends f (take f.waiting ordered) h

  pub shown_written : (m : List Chunk) → lines_of_all f.costs (take f.waiting ordered) ++ drop (chunks (take f.waiting ordered)) m ≡ shown f ++ drop (length (shown f)) m
  shown_written m =
      ap₂ (λ (xs : List Chunk) (n : ℕ). xs ++ drop n m) (ap (lines_of_all f.costs) o) (sym (shown_lines_lem f ordered o h))

-- Showing that is granted writes the lines of every waiting booking.
pub show_goes : (f : stored.Farm) (m out : List Chunk) (lines : ℕ) → shown_asked (meant f) (length m) ≡ 0 → lines ≡ length (shown (meant f)) → out ≡ shown (meant f) ++ drop (length (shown (meant f))) m
    → Tells f (record { answer = Ok (answer.Shown lines); farm = f }) (shown_said (meant f) (length m)) × (out ≡ shown_memory (meant f) m)
unfolding shown_said shown_memory
show_goes f m out lines a e o =
    let z = eq-eqb (shown_asked (meant f) (length m)) 0 a in
    (record { says = rw z (ap (λ (i : ℕ). granted Shown (i ∷ [])) e); hands = refl }, o ∙ rw z)

-- Showing that is granted has room for the lines.
pub shown_fits : (f : Farm) (n : ℕ) → shown_asked f n ≡ 0 → length (shown f) ≤ n
unfolding shown_asked
shown_fits f n a = go (passes_of f) (leb (length (shown f)) n) refl a
  where
    go : (p b : Bool) → leb (length (shown f)) n ≡ b → cond {A = ℕ} p (cond b 0 10) 11 ≡ 0 → length (shown f) ≤ n
    go true true e h = leb-true (length (shown f)) n e
    go true false e h = absurd (omega arith)
    go false b e h = absurd (omega arith)

pub show_memory : (f : Farm) (m : List Chunk) → shown_memory f m ≡ shown_lines f (length m) ++ drop (length (shown_lines f (length m))) m
unfolding shown_memory
show_memory f m = go (eqb (shown_asked f (length m)) 0)
  where
    go : (b : Bool) → cond b (shown f ++ drop (length (shown f)) m) m ≡ cond b (shown f) [] ++ drop (length (cond b (shown f) [])) m
    go true = refl
    go false = refl
