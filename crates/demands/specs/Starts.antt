-- Waiting jobs start at different ticks, since their first sends share no tick of the link. So a move to the next start begins one job, and a
-- timetable of 64 records holds its lines: after a refusal with 10 shorter moves get through.
use Rattle.std.specs.Prelude.{◌≡◌, refl, Bool, true, false, cond, ℕ, ◌≤◌, length}
use Rattle.std.proofs.Common.{sym, ◌∙◌, arith, leb-true, le-leb}
use mathlib.Core.List.{List, [], ◌∷◌, Memᴰ}
use Rattle.lists.specs.Laws.{All, Pairs, all_map, all_both, perm_all, perm_pairs, pairs_parts, pairs_across, at_member}
use Rattle.booking.specs.Best.{chosen, units}
use Rattle.walk.specs.declared.Job.{Job}
use Rattle.walk.specs.declared.ChunkTerms.{ChunkTerms}
use Rattle.walk.specs.Model.{chunk_terms, spans_from}
use Rattle.walk.specs.Chain.{Proper}
use Rattle.walk.specs.Order.{by_start_perm}
use Rattle.soundness.specs.Sweep.{spans_each}
use Rattle.planner.specs.Model.{Farm, greatest, between, chunks_from, Span, spans_of, spans_of_all, by_start, waiting_of, Sized, Apart}
use Rattle.planner.specs.Passes.{passes_of}
use Rattle.demands.specs.QuestionEleven.{passes_iff}
use Rattle.planner.specs.Clock.{keep, starts_by, begun, issued, move_asked}
use Rattle.lists.specs.Keep.{keep_all}
use Rattle.planner.specs.ClockSteps.{move_asked_lem}
use Rattle.demands.specs.MovePasses.{Waiting, waiting_jobs, begun_jobs, lines_few}

-- two jobs start at different ticks
abbrev pub StartsDiffer : Job → Job → Type 0
StartsDiffer a b = a.booking.start ≡ b.booking.start → ⊥

-- A job's first chunk is sent at its start.
first_chunk : (P : Span → Type 0) (w : ChunkTerms) (f t : ℕ) (ks xs : List ℕ) → length ks ≡ length xs → 1 ≤ length ks
    → All P (spans_from w f t ks xs) → (x : Span) × (P x × (x.chunk.start ≡ t))
unfolding chunks_from
first_chunk P w f t [] xs e h a = absurd (omega arith)
first_chunk P w f t (k ∷ ks) [] e h a = absurd (omega arith)
first_chunk P w f t (k ∷ ks) (u ∷ xs) e h a = (_, (a.0, refl))

first_send : (P : Span → Type 0) (f : Farm) (j : Job) → Waiting f j → All P (spans_of f.costs j) → (x : Span) × ((P x × Proper 64 x) × (x.chunk.start ≡ j.booking.start))
first_send P f j w a =
    first_chunk (λ (x : Span). P x × Proper 64 x) (chunk_terms f.costs j) j.booking.start j.booking.start (chosen j.booking) (units j.booking) w.paired.0 (omega (arith, w.paired.1))
    (all_both (λ x p q. (p, q)) (spans_of f.costs j) a w.proper)

-- Sendable that share no tick begin at different ones.
sends_differ : (x y : Span) → Apart x y → Proper 64 x → Proper 64 y → x.chunk.start ≡ y.chunk.start → ⊥
sends_differ x y a p q e = a.send x.chunk.start (omega arith, p.sends) (omega (arith, e), omega (arith, e, q.sends))

jobs_differ : (f : Farm) (js : List Job) → All (Waiting f) js → Pairs Apart (spans_of_all f.costs js) → Pairs StartsDiffer js
unfolding spans_of_all
jobs_differ f [] w h = tt
jobs_differ f (j ∷ js) w h =
    let across = pairs_across Apart (spans_of f.costs j) (spans_of_all f.costs js) h in
    let x = first_send (λ (x : Span). All (Apart x) (spans_of_all f.costs js)) f j w.0 across in
    let each : All (λ (k : Job). All (Apart x.0) (spans_of f.costs k)) js = spans_each (Apart x.0) f.costs js x.1.0.0 in (
      all_both (λ k v a e.
          let y = first_send (Apart x.0) f k v a in
          sends_differ x.0 y.0 y.1.0.0 x.1.0.1 y.1.0.1 (x.1.1 ∙ e ∙ sym y.1.1)) js w.1 each,
      jobs_differ f js w.1 (pairs_parts Apart (spans_of f.costs j) (spans_of_all f.costs js) h).1,
    )

-- What a test keeps of jobs that start at different ticks does too.
keep_differ : (p : Job → Bool) (js : List Job) → Pairs StartsDiffer js → Pairs StartsDiffer (keep p js)
unfolding keep
keep_differ p [] h = tt
keep_differ p (j ∷ js) h = go (p j) (all_map (λ k a. a.0) (keep p js) (keep_all p (StartsDiffer j) js h.0)) (keep_differ p js h.1)
  where
    go : (b : Bool) → All (StartsDiffer j) (keep p js) → Pairs StartsDiffer (keep p js) → Pairs StartsDiffer (cond b (j ∷ keep p js) (keep p js))
    go true a r = (a, r)
    go false a r = r

one_at : (t : ℕ) (js : List Job) → All (λ (k : Job). k.booking.start ≡ t) js → Pairs StartsDiffer js → length js ≤ 1
one_at t [] h d = omega arith
one_at t (j ∷ []) h d = omega arith
one_at t (j ∷ k ∷ js) h d = absurd (d.0.0 (h.0 ∙ sym h.1.0))

module _ (f : Farm) (sized : Sized f) (e : passes_of f ≡ true) where
  -- No two waiting jobs of a farm that passes share a start.
  pub starts_differ : Pairs StartsDiffer (waiting_of f)
  starts_differ = jobs_differ f (waiting_of f) (waiting_jobs f sized e) ((passes_iff f sized).0 e).sound.apart

  module _ (j : Job) (m : Memᴰ j (waiting_of f)) (least : All (λ (k : Job). j.booking.start ≤ k.booking.start) (waiting_of f)) where
    -- A move to the next start begins one job at most.
    next_one : length (begun f j.booking.start) ≤ 1
    next_one =
        let t = j.booking.start in
        let order = by_start (waiting_of f) in
        let late : All (λ (k : Job). t ≤ k.booking.start) (by_start (waiting_of f)) = perm_all (λ (k : Job). t ≤ k.booking.start) (by_start_perm (waiting_of f)) least in
        let at : All (λ (k : Job). k.booking.start ≡ t) (begun f t) =
        all_map (λ k h. let b = leb-true k.booking.start t h.1 in omega (arith, h.0)) (begun f t) (keep_all (starts_by t) (λ (k : Job). t ≤ k.booking.start) order late) in
        one_at t (begun f t) at (keep_differ (starts_by t) order (perm_pairs StartsDiffer (λ a b n q. n (sym q)) (by_start_perm (waiting_of f)) starts_differ))

    -- It issues at most 64 lines.
    pub next_few : length (issued f j.booking.start) ≤ 64
    next_few =
        let t = j.booking.start in
        let w : All (Waiting f) (begun f t) = all_map (λ k h. h.0) (begun f t) (begun_jobs f sized e t) in
        omega (arith, lines_few f (begun f t) w, next_one)

    -- So it is granted wherever 64 records are lent.
    pub next_granted : (n : ℕ) → 64 ≤ n → move_asked f j.booking.start n ≡ 0
    next_granted n h =
        let w = at_member (Waiting f) m (waiting_jobs f sized e) in
        let t = j.booking.start in
        let timely : between f.clock t greatest ≡ true = rw (le-leb f.clock t w.sound.clock, le-leb t greatest w.within.start) in
        move_asked_lem f t n e timely (le-leb (length (issued f t)) n (omega (arith, next_few)))
