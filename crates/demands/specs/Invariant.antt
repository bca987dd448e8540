-- What holds after every list of calls: history and plan are one chain of spans, and the farm is what the issued chunks and the accepted jobs make it.
use Rattle.std.specs.Prelude.{◌≡◌, refl, true, ◌&&◌, ℕ, suc, ◌+◌, ◌-◌, ◌≤◌, ◌<◌, length, get_or, replicate}
use Rattle.std.proofs.Common.{ap, sym, subst, ◌∙◌, arith}
use mathlib.Core.List.{List, [], ◌∷◌, ◌++◌, map, append-nil, append_assoc, Memᴰ, Permᴰ}
use Rattle.std.proofs.Math.Numerals.{add-one}
use Rattle.std.proofs.lemmas.List.{length-replicate, get_or-replicate}
use Rattle.lists.specs.Laws.{All, all_map, all_both, all_of, all_image, all_take, all_append, all_join, perm_all, map_join}
use Rattle.queue.specs.Numbers.{of_number_has}
use Rattle.limits.specs.declared.FarmCosts.{FarmCosts}
use Rattle.shares.specs.Model.{sum}
use Rattle.shares.specs.Lists.{Positive}
use Rattle.booking.specs.Best.{units}
use Rattle.walk.specs.declared.Job.{Job}
use Rattle.walk.specs.declared.WalkTerms.{WalkTerms}
use Rattle.walk.specs.declared.FreeTimes.{FreeTimes}
use Rattle.walk.specs.declared.Chunk.{Chunk}
use Rattle.answers.specs.declared.Offer.{Offer}
use Rattle.planner.specs.Model.{Farm, greatest, most_held, between, costs_within, finish_of, Span, lines_of, spans_of, spans_of_all, Sized, afters, waiting_of, free_times_of, walk_terms_of, free_times_after, by_deadline, plan, Between}
use Rattle.planner.specs.Passes.{passes_of}
use Rattle.walk.specs.Chain.{Chain, chain_append, Proper, job_finish, afters_length}
use Rattle.walk.specs.Order.{by_deadline_perm}
use Rattle.soundness.specs.Sweep.{spans_all}
use Rattle.soundness.specs.Sound.{Paired}
use Rattle.demands.specs.QuestionEleven.{passes_iff}
use Rattle.planner.specs.Calls.{of_number, without, opened_with, shows_within, open_farm, held_by, new_job, planned, with_plan, withdrawn_farm}
use Rattle.planner.specs.Changes.{queue_waits}
use Rattle.demands.specs.OfferPasses.{all_replicate, opens_with, open_sized, open_passes, accepted_sized, accepted_passes}
use Rattle.planner.specs.Clock.{holds, lines_of_all, begun, waiting_on, issued, moved_farm}
use Rattle.demands.specs.CallLists.{Call, Accepted, Noted, nothing, accepting, withdrawing, moving, handed, noted, History, chunk_of, opening, noting, note, run, held_of, up_to, accepted_of}
use Rattle.timetable.specs.BeginSteps.{afters_append}
use Rattle.demands.specs.BegunJobs.{begun_left, lines_joined, lines_all, spans_append, spans_chunks}
use Rattle.demands.specs.HeldTicks.{afters_within, sum_within, held_part, held_append, held_free, raised_held}
use Rattle.demands.specs.WithdrawPasses.{leaves_others, withdrawn_waiting, withdrawn_sized, withdrawn_passes}
use Rattle.demands.specs.MovePasses.{Waiting, moved_chain, begun_jobs, moved_waiting, moved_sized, moved_passes}
use Rattle.demands.specs.Outcome.{taken, Takes, Leaves, Outcome, stays, takes, leaves, moves, outcome, started_issued, job_named}

-- ---- The invariant

-- the free times before any chunk
abbrev pub idle : FreeTimes
idle = record { link = 0; free = replicate 64 0 }

-- what is kept of a job, begun or waiting: its show, its compute cost, its shares, and its chunks by its deadline
pub record Whole (c : FarmCosts) (shows : ℕ) (j : Job) : Type 0 where
  pub show : Between 1 j.show shows
  pub compute : 1 ≤ j.compute
  pub deadline : j.deadline ≤ greatest
  pub paired : Paired j
  pub each : Positive (units j.booking)
  pub all : sum (units j.booking) ≡ j.size
  pub ends : finish_of c j ≤ j.deadline
  pub proper : All (Proper 64) (spans_of c j)

-- what holds after every list of calls
pub record Inv (w : History) : Type 0 where
  -- the jobs begun, in order, and those withdrawn
  pub past : List Job
  pub gone : List Accepted
  pub sized : Sized w.farm
  pub passes : passes_of w.farm ≡ true
  pub whole : All (Whole w.farm.costs w.farm.shows) past
  -- what was issued is their chunks, one after the other
  pub lines : w.lines ≡ lines_of_all w.farm.costs past
  pub spans : w.spans ≡ spans_of_all w.farm.costs past
  pub chain : Chain idle w.spans
  -- the farm's free times and held ticks are what it left
  pub times : free_times_of w.farm ≡ afters idle w.lines
  pub held : (s : ℕ) → Between 1 s 32 → held_by w.farm s ≡ held_of s w.lines
  -- each accepted job was withdrawn, has begun or waits
  pub jobs : Permᴰ w.jobs (gone ++ map accepted_of (past ++ waiting_of w.farm))
  pub named : Permᴰ w.gone (map (λ (x : Accepted). x.number) gone)
  pub numbers : map (λ (x : Accepted). x.number) w.jobs ≡ up_to w.farm.used
  pub latest : All (λ (j : Job). Memᴰ j w.latest) (waiting_of w.farm)
  pub clock : w.farm.clock ≡ w.time

-- A waiting job of a farm that passes is whole.
pub waiting_whole : (f : Farm) (j : Job) → Waiting f j → Whole f.costs f.shows j
waiting_whole f j h = record {
  show = h.within.show;
  compute = h.within.compute.0;
  deadline = h.within.deadline;
  paired = h.paired;
  each = h.sound.each;
  all = h.sound.all;
  ends = h.sound.ends;
  proper = h.proper;
}

-- ---- An opening

opened_inv : (n : ℕ) (c : FarmCosts) (al : List ℕ) → Sized (opened_with n c al) → passes_of (opened_with n c al) ≡ true → Inv (opening (opened_with n c al))
unfolding lines_of_all spans_of_all afters held_of up_to
opened_inv n c al z e = record {
  past = [];
  gone = [];
  sized = z;
  passes = e;
  whole = tt;
  lines = refl;
  spans = refl;
  chain = tt;
  times = refl;
  held = λ s h. get_or-replicate 32 (s - 1) 0 0 (omega arith);
  jobs = mathlib.Core.List.Permᴰ.nil;
  named = mathlib.Core.List.Permᴰ.nil;
  numbers = refl;
  latest = tt;
  clock = refl;
}

-- A granted opening has it.
pub open_inv : (n : ℕ) (c : FarmCosts) (al : List ℕ) → (between 1 n 64 && costs_within c && shows_within al) ≡ true → Inv (opening (open_farm n c al))
open_inv n c al e =
    let q = opens_with n c al e in
    subst (λ (f : Farm). Inv (opening f)) (sym q) (opened_inv n c al (subst Sized q (open_sized n c al)) (subst (λ (f : Farm). passes_of f ≡ true) q (open_passes n c al e)))

-- ---- A world by its parts

abbrev history_of : Farm → List Chunk → List Span → List Accepted → List ℕ → List Job → ℕ → History
history_of f l s j g p t = record { farm = f; lines = l; spans = s; jobs = j; gone = g; latest = p; time = t }

-- Worlds with the same parts are the same.
same_world : {f g : Farm} {k l : List Chunk} {r s : List Span} {i j : List Accepted} {m n : List ℕ} {p q : List Job} {t u : ℕ} → f ≡ g → k ≡ l → r ≡ s → i ≡ j → m ≡ n → p ≡ q → t ≡ u
    → history_of f k r i m p t ≡ history_of g l s j n q u
same_world a b y c d e x = rw (a, b, y, c, d, e, x)

-- ---- What is noted

-- A call notes what it is known to hand back and to note.
noting_as : (w : History) (c : Call) {g : Farm} {n : Noted} → handed w.farm c ≡ g → noted w.farm c ≡ n
    → note w c ≡ noting w g n
noting_as w c h q = rw (h, q)

-- A call that is refused or only tells changes nothing.
pub stays_note : (w : History) (c : Call) → handed w.farm c ≡ w.farm → noted w.farm c ≡ nothing → note w c ≡ w
stays_note w c h q =
    noting_as w c h q
    ∙ same_world refl (append-nil w.lines) (append-nil w.spans) (append-nil w.jobs)
    (append-nil w.gone) refl refl

-- ---- An accepted offer

-- A plan keeps what the jobs were accepted as.
pub plan_accepted : (w : WalkTerms) (b : FreeTimes) (js : List Job) → map accepted_of (plan w b js) ≡ map accepted_of js
unfolding plan
plan_accepted w b [] = refl
plan_accepted w b (j ∷ js) = ap (λ (l : List Accepted). accepted_of j ∷ l) (plan_accepted w (free_times_after w b j) js)

-- A walk of any queue keeps what its jobs were accepted as.
pub queue_accepted : (w : WalkTerms) (b : FreeTimes) (js : List Job) → Permᴰ (map accepted_of js) (map accepted_of (plan w b (by_deadline js)))
queue_accepted w b js = subst (Permᴰ (map accepted_of js)) (sym (plan_accepted w b (by_deadline js))) (mathlib.Core.List.Permᴰ.map accepted_of (by_deadline_perm js))

-- Where the queue is the waiting jobs and new ones, each accepted job was withdrawn, has begun or is planned after the walk.
walked_jobs : (w : WalkTerms) (b : FreeTimes) (jobs gone new : List Accepted) (past ws js : List Job) → map accepted_of js ≡ map accepted_of ws ++ new → Permᴰ jobs (gone ++ map accepted_of (past ++ ws))
    → Permᴰ (jobs ++ new) (gone ++ map accepted_of (past ++ plan w b (by_deadline js)))
walked_jobs w b jobs gone new past ws js e h =
    let begun' = map accepted_of past in
    let all : (gone ++ map accepted_of (past ++ ws)) ++ new ≡ gone ++ (begun' ++ map accepted_of js) =
    append_assoc gone (map accepted_of (past ++ ws)) new
    ∙ ap (λ (l : List Accepted). gone ++ (l ++ new)) (map_join accepted_of past ws)
    ∙ ap (λ (l : List Accepted). gone ++ l) (append_assoc begun' (map accepted_of ws) new ∙ ap (λ (l : List Accepted). begun' ++ l) (sym e)) in
    mathlib.Core.List.Permᴰ.trans (subst (Permᴰ (jobs ++ new)) all (mathlib.Core.List.Permᴰ.append_right new h))
    (subst (λ (l : List Accepted). Permᴰ (gone ++ (begun' ++ map accepted_of js)) (gone ++ l)) (sym (map_join accepted_of past (plan w b (by_deadline js))))
    (mathlib.Core.List.Permᴰ.append_left gone (mathlib.Core.List.Permᴰ.append_left begun' (queue_accepted w b js))))

module _ (w : History) (o : Offer) where
  abbrev offered : History
  offered = history_of (with_plan w.farm (planned w.farm o)) w.lines w.spans (w.jobs ++ taken w.farm o ∷ []) w.gone (planned w.farm o) w.time

  takes_note : noting w (with_plan w.farm (planned w.farm o)) (accepting (taken w.farm o) (planned w.farm o))
      ≡ offered
  takes_note = same_world refl (append-nil w.lines) (append-nil w.spans) refl (append-nil w.gone) refl refl

  taken_numbers : map (λ (x : Accepted). x.number) w.jobs ≡ up_to w.farm.used → map (λ (x : Accepted). x.number) (w.jobs ++ taken w.farm o ∷ []) ≡ up_to (w.farm.used + 1)
  unfolding up_to
  taken_numbers h =
      map_join (λ (x : Accepted). x.number) w.jobs (taken w.farm o ∷ []) ∙ rw (h, add-one w.farm.used)

  -- An accepted offer keeps the invariant.
  takes_inv : Inv w → Takes w.farm o → Inv offered
  takes_inv i k =
      let f = w.farm in
      let now : waiting_of (with_plan f (planned f o)) ≡ planned f o = queue_waits f (f.used + 1) (planned f o) in
      let size = accepted_sized f o i.sized k.granted k.books in
      record {
        past = i.past;
        gone = i.gone;
        sized = size;
        passes = (passes_iff (with_plan f (planned f o)) size).1 (accepted_passes f o i.sized k.granted k.books);
        whole = i.whole;
        lines = i.lines;
        spans = i.spans;
        chain = i.chain;
        times = i.times;
        held = i.held;
        jobs = subst (λ (l : List Job). Permᴰ (w.jobs ++ taken f o ∷ []) (i.gone ++ map accepted_of (i.past ++ l))) (sym now) (walked_jobs (walk_terms_of f) (free_times_of f) w.jobs i.gone (taken f o ∷ []) i.past (waiting_of f) (waiting_of f ++ new_job f o ∷ []) (map_join accepted_of (waiting_of f) (new_job f o ∷ [])) i.jobs);
        named = i.named;
        numbers = taken_numbers i.numbers;
        latest = subst (All (λ (j : Job). Memᴰ j (planned f o))) (sym now) (all_of (planned f o) (λ j m. m));
        clock = i.clock;
      }

-- ---- A granted withdrawal

module _ (w : History) (n : ℕ) where
  abbrev departed : History
  departed = history_of (withdrawn_farm w.farm n) w.lines w.spans w.jobs (w.gone ++ n ∷ []) w.latest w.time

  leaves_note : noting w (withdrawn_farm w.farm n) (withdrawing n) ≡ departed
  leaves_note = same_world refl (append-nil w.lines) (append-nil w.spans) (append-nil w.jobs) refl refl refl

  module _ (i : Inv w) (k : Leaves w.farm n) where
    abbrev leaver : Job
    leaver = of_number n (waiting_of w.farm)

    abbrev others : List Job
    others = without n (waiting_of w.farm)

    departed_jobs : Permᴰ w.jobs (accepted_of leaver ∷ (i.gone ++ map accepted_of (i.past ++ others)))
    departed_jobs =
        let split : Permᴰ (i.past ++ waiting_of w.farm) (leaver ∷ (i.past ++ others)) =
        mathlib.Core.List.Permᴰ.trans (mathlib.Core.List.Permᴰ.append_left i.past (leaves_others w.farm n i.sized i.passes k.has)) (mathlib.Core.List.Permᴰ.middle leaver i.past others) in
        mathlib.Core.List.Permᴰ.trans i.jobs
        (mathlib.Core.List.Permᴰ.trans (mathlib.Core.List.Permᴰ.append_left i.gone (mathlib.Core.List.Permᴰ.map accepted_of split)) (mathlib.Core.List.Permᴰ.middle (accepted_of leaver) i.gone (map accepted_of (i.past ++ others))))

    departed_named : Permᴰ (w.gone ++ n ∷ []) (leaver.number ∷ map (λ (x : Accepted). x.number) i.gone)
    departed_named =
        mathlib.Core.List.Permᴰ.trans (mathlib.Core.List.Permᴰ.append_comm w.gone (n ∷ [])) (mathlib.Core.List.Permᴰ.cons (sym (of_number_has n (waiting_of w.farm) k.has)) i.named)

    -- A granted withdrawal keeps the invariant.
    leaves_inv : Inv departed
    leaves_inv =
        let f = w.farm in
        let now : waiting_of (withdrawn_farm f n) ≡ others = withdrawn_waiting f n i.sized i.passes k.has in
        let size = withdrawn_sized f n i.sized i.passes k.has in
        let P : Job → Type 0 = λ (j : Job). Memᴰ j w.latest in
        record {
          past = i.past;
          gone = accepted_of leaver ∷ i.gone;
          sized = size;
          passes = (passes_iff (withdrawn_farm f n) size).1 (withdrawn_passes f n i.sized i.passes k.has);
          whole = i.whole;
          lines = i.lines;
          spans = i.spans;
          chain = i.chain;
          times = i.times;
          held = i.held;
          jobs = subst (λ (l : List Job). Permᴰ w.jobs (accepted_of leaver ∷ (i.gone ++ map accepted_of (i.past ++ l)))) (sym now) departed_jobs;
          named = departed_named;
          numbers = i.numbers;
          latest = subst (All P) (sym now) (perm_all P (leaves_others f n i.sized i.passes k.has) i.latest).1;
          clock = i.clock;
        }

-- ---- What was issued

-- The spans noted are those of the chunks noted.
pub spans_issued : (w : History) → Inv w → map chunk_of w.spans ≡ w.lines
spans_issued w i = ap (map chunk_of) i.spans ∙ spans_chunks w.farm.costs i.past ∙ sym i.lines

-- The farm's free times are what the spans left.
pub times_spans : (w : History) → Inv w → free_times_of w.farm ≡ afters idle (map chunk_of w.spans)
times_spans w i = i.times ∙ ap (afters idle) (sym (spans_issued w i))

-- The spans of whole jobs are proper.
pub whole_proper : (c : FarmCosts) (n : ℕ) (js : List Job) → All (Whole c n) js → All (Proper 64) (spans_of_all c js)
whole_proper c n js h = spans_all (Proper 64) c js (all_map (λ j k. k.proper) js h)

-- The chunks of whole jobs are sent and finish within the time range.
whole_limits : (c : FarmCosts) (n : ℕ) (js : List Job) → All (Whole c n) js → All (λ (x : Chunk). (x.sent ≤ greatest) × (x.finish ≤ greatest)) (lines_of_all c js)
whole_limits c n js h =
    subst (All (λ (x : Chunk). (x.sent ≤ greatest) × (x.finish ≤ greatest))) (spans_chunks c js)
    (all_image (λ (x : Chunk). (x.sent ≤ greatest) × (x.finish ≤ greatest)) chunk_of (spans_of_all c js)
    (spans_all (λ (x : Span). (x.chunk.sent ≤ greatest) × (x.chunk.finish ≤ greatest)) c js (all_map one js h)))
  where
    one : (j : Job) → Whole c n j → All (λ (x : Span). (x.chunk.sent ≤ greatest) × (x.chunk.finish ≤ greatest)) (spans_of c j)
    one j k = all_both (λ x p q. (omega (arith, p.ends, k.ends, k.deadline), omega (arith, k.ends, k.deadline))) (spans_of c j) k.proper (job_finish c j)

all_by : (P : ℕ → Type 0) (xs : List ℕ) → ((i : ℕ) → i < length xs → P (get_or xs i 0)) → All P xs
all_by P [] h = tt
all_by P (x ∷ xs) h = (h 0 (omega arith), all_by P xs (λ i l. h (suc i) (omega arith)))

-- The free times behind whole jobs are within the time range.
free_limits : (c : FarmCosts) (n : ℕ) (js : List Job) → All (Whole c n) js
    → ((afters idle (lines_of_all c js)).link ≤ greatest) × All (λ (x : ℕ). x ≤ greatest) (afters idle (lines_of_all c js)).free
free_limits c n js h =
    afters_within greatest idle (lines_of_all c js) (omega arith) (all_replicate (λ (x : ℕ). x ≤ greatest) 64 0 (omega arith)) (whole_limits c n js h)

-- As spans on a node do not overlap, all held ticks together are within the free times,
held_within_free : (c : FarmCosts) (n : ℕ) (js : List Job) → All (Whole c n) js → Chain idle (spans_of_all c js) → sum (map holds (lines_of_all c js)) ≤ sum (afters idle (lines_of_all c js)).free
held_within_free c n js h k =
    let within : sum (map holds (lines_of_all c js)) + sum idle.free ≤ sum (afters idle (lines_of_all c js)).free =
    subst (λ (l : List Chunk). sum (map holds l) + sum idle.free ≤ sum (afters idle l).free) (spans_chunks c js)
    (held_free idle (spans_of_all c js) (length-replicate {A = ℕ} 64 0) (whole_proper c n js h) k) in
    omega arith

-- and a show's are at most 64 times the time range.
held_limit : (c : FarmCosts) (n s : ℕ) (js : List Job) → All (Whole c n) js → Chain idle (spans_of_all c js) → held_of s (lines_of_all c js) ≤ most_held
held_limit c n s js h k =
    omega (
      arith,
      held_part s (lines_of_all c js),
      held_within_free c n js h k,
      sum_within greatest (afters idle (lines_of_all c js)).free (free_limits c n js h).1,
      afters_length idle (lines_of_all c js),
      length-replicate {A = ℕ} 64 0,
    )

-- So it is of all that was issued.
pub issued_within_free : (w : History) → Inv w → sum (map holds w.lines) ≤ sum w.farm.free
issued_within_free w i =
    let c = w.farm.costs in
    let lines : sum (map holds w.lines) ≡ sum (map holds (lines_of_all c i.past)) = ap (λ (l : List Chunk). sum (map holds l)) i.lines in
    let free : sum w.farm.free ≡ sum (afters idle (lines_of_all c i.past)).free = ap (λ (b : FreeTimes). sum b.free) (i.times ∙ ap (afters idle) i.lines) in
    omega (arith, lines, free, held_within_free c w.farm.shows i.past i.whole (subst (Chain idle) i.spans i.chain))

-- ---- A granted clock move

module _ (w : History) (t : ℕ) where
  abbrev moved : History
  moved = history_of (moved_farm w.farm t) (w.lines ++ issued w.farm t) (w.spans ++ spans_of_all w.farm.costs (begun w.farm t)) w.jobs w.gone w.latest t

  module _ (i : Inv w) where
    moves_note : noting w (moved_farm w.farm t) (moving t (issued w.farm t)) ≡ moved
    moves_note =
        same_world refl refl (ap (λ (l : List Span). w.spans ++ l) (started_issued w.farm t i.sized i.passes))
        (append-nil w.jobs) (append-nil w.gone) refl refl

    moved_whole : All (Whole w.farm.costs w.farm.shows) (i.past ++ begun w.farm t)
    moved_whole =
        all_join (Whole w.farm.costs w.farm.shows) i.past (begun w.farm t) i.whole
        (all_map (λ j h. waiting_whole w.farm j h.0) (begun w.farm t) (begun_jobs w.farm i.sized i.passes t))

    moved_lines : w.lines ++ issued w.farm t ≡ lines_of_all w.farm.costs (i.past ++ begun w.farm t)
    moved_lines = ap (λ (l : List Chunk). l ++ issued w.farm t) i.lines ∙ sym (lines_joined w.farm.costs i.past (begun w.farm t))

    moved_spans : w.spans ++ spans_of_all w.farm.costs (begun w.farm t) ≡ spans_of_all w.farm.costs (i.past ++ begun w.farm t)
    moved_spans = ap (λ (l : List Span). l ++ spans_of_all w.farm.costs (begun w.farm t)) i.spans ∙ sym (spans_append w.farm.costs i.past (begun w.farm t))

    all_chain : Chain idle (w.spans ++ spans_of_all w.farm.costs (begun w.farm t))
    all_chain =
        (chain_append idle w.spans (spans_of_all w.farm.costs (begun w.farm t))).1
        (i.chain, subst (λ (b : FreeTimes). Chain b (spans_of_all w.farm.costs (begun w.farm t))) (times_spans w i) (moved_chain w.farm i.sized i.passes t).0)

    moved_times : free_times_of (moved_farm w.farm t) ≡ afters idle (w.lines ++ issued w.farm t)
    moved_times = ap (λ (b : FreeTimes). afters b (issued w.farm t)) i.times ∙ sym (afters_append idle w.lines (issued w.farm t))

    begun_shows : All (λ (x : Chunk). Between 1 x.show (length w.farm.held)) (issued w.farm t)
    begun_shows =
        let f = w.farm in
        let limit = ((passes_iff f i.sized).0 i.passes).within.shows.1 in
        lines_all (λ (x : Chunk). Between 1 x.show (length f.held)) f.costs (begun f t)
        (all_map (λ j h.
        all_map (λ x e. (omega (arith, e.1, h.0.within.show.0), omega (arith, e.1, h.0.within.show.1, i.sized.held))) (lines_of f.costs j)
        (job_named f.costs j))
        (begun f t) (begun_jobs f i.sized i.passes t))

    moved_held : (s : ℕ) → Between 1 s 32 → held_by (moved_farm w.farm t) s ≡ held_of s (w.lines ++ issued w.farm t)
    moved_held s h =
        omega (arith, raised_held s w.farm.held (issued w.farm t) h.0 begun_shows, i.held s h, held_append s w.lines (issued w.farm t))

    held_within : All (λ (x : ℕ). x ≤ most_held) (moved_farm w.farm t).held
    held_within =
        let size = (moved_sized w.farm i.sized i.passes t).held in
        all_by (λ (x : ℕ). x ≤ most_held) (moved_farm w.farm t).held (λ n l. one n (omega arith))
      where
        one : (n : ℕ) → n < 32 → get_or (moved_farm w.farm t).held n 0 ≤ most_held
        one n l =
            let p : n ≡ suc n - 1 = omega arith in
            let h : get_or (moved_farm w.farm t).held n 0 ≡ held_of (suc n) (lines_of_all w.farm.costs (i.past ++ begun w.farm t)) =
            ap (λ (x : ℕ). get_or (moved_farm w.farm t).held x 0) p ∙ moved_held (suc n) (omega arith, omega arith) ∙ ap (held_of (suc n)) moved_lines in
            omega (arith, held_limit w.farm.costs w.farm.shows (suc n) (i.past ++ begun w.farm t) moved_whole (subst (Chain idle) moved_spans all_chain))

    -- the free times are within the time range
    times_within_lem : ((moved_farm w.farm t).link ≤ greatest) × All (λ (x : ℕ). x ≤ greatest) (moved_farm w.farm t).free
    times_within_lem =
        subst (λ (b : FreeTimes). (b.link ≤ greatest) × All (λ (x : ℕ). x ≤ greatest) b.free) (sym (moved_times ∙ ap (afters idle) moved_lines))
        (free_limits w.farm.costs w.farm.shows (i.past ++ begun w.farm t) moved_whole)

    moved_jobs : Permᴰ w.jobs (i.gone ++ map accepted_of ((i.past ++ begun w.farm t) ++ waiting_on w.farm t))
    moved_jobs =
        let f = w.farm in
        mathlib.Core.List.Permᴰ.trans i.jobs
        (mathlib.Core.List.Permᴰ.append_left i.gone
        (subst (λ (l : List Job). Permᴰ (map accepted_of (i.past ++ waiting_of f)) (map accepted_of l)) (sym (append_assoc i.past (begun f t) (waiting_on f t)))
        (mathlib.Core.List.Permᴰ.map accepted_of (mathlib.Core.List.Permᴰ.append_left i.past (begun_left f t)))))

    moved_latest : All (λ (j : Job). Memᴰ j w.latest) (waiting_on w.farm t)
    moved_latest =
        let f = w.farm in
        let P : Job → Type 0 = λ (j : Job). Memᴰ j w.latest in
        (all_append P (begun f t) (waiting_on f t) (perm_all P (begun_left f t) i.latest)).1

    -- A granted clock move keeps the invariant.
    moves_inv : t ≤ greatest → Inv moved
    moves_inv limit =
        let f = w.farm in
        let after : waiting_of (moved_farm f t) ≡ waiting_on f t = moved_waiting f i.sized i.passes t in
        let size = moved_sized f i.sized i.passes t in
        record {
          past = i.past ++ begun f t;
          gone = i.gone;
          sized = size;
          passes = (passes_iff (moved_farm f t) size).1
              (moved_passes f i.sized i.passes t limit (all_take (λ (x : ℕ). x ≤ most_held) f.shows (moved_farm f t).held held_within) times_within_lem.0
              (all_take (λ (x : ℕ). x ≤ greatest) f.nodes (moved_farm f t).free times_within_lem.1));
          whole = moved_whole;
          lines = moved_lines;
          spans = moved_spans;
          chain = all_chain;
          times = moved_times;
          held = moved_held;
          jobs = subst (λ (l : List Job). Permᴰ w.jobs (i.gone ++ map accepted_of ((i.past ++ begun f t) ++ l))) (sym after) moved_jobs;
          named = i.named;
          numbers = i.numbers;
          latest = subst (All (λ (j : Job). Memᴰ j w.latest)) (sym after) moved_latest;
          clock = refl;
        }

-- ---- Every list

-- A call keeps the invariant.
pub note_inv : (w : History) (c : Call) → Inv w → Inv (note w c)
note_inv w c i = go (outcome w.farm c)
  where
    go : Outcome w.farm c → Inv (note w c)
    go (stays h q) = subst Inv (sym (stays_note w c h q)) i
    go (takes o e k h q) = subst Inv (sym (noting_as w c h q ∙ takes_note w o)) (takes_inv w o i k)
    go (leaves n k h q) = subst Inv (sym (noting_as w c h q ∙ leaves_note w n)) (leaves_inv w n i k)
    go (moves t n k h q) = subst Inv (sym (noting_as w c h q ∙ moves_note w t i)) (moves_inv w t i k.time.1)

-- So does every list of calls.
pub run_inv : (w : History) (cs : List Call) → Inv w → Inv (run w cs)
unfolding run
run_inv w [] i = i
run_inv w (c ∷ cs) i = run_inv (note w c) cs (note_inv w c i)

-- A list of calls in two parts is run the one part after the other.
pub run_append : (w : History) (xs ys : List Call) → run w (xs ++ ys) ≡ run (run w xs) ys
unfolding run
run_append w [] ys = refl
run_append w (c ∷ xs) ys = run_append (note w c) xs ys
