-- Demand 3, its sentences beside the parts of the claim (`Demand3` below; `demand3` at the end is the theorem):
--   "For every list of offers and clock moves, refused ones included, after a granted opening, each call given the farm
--    that the one before it handed back,"                                             demand3, over `run` (CallLists.antt), withdrawals and quotes among them
--   "no accepted job is late."                                                        each, due
--   "Its chunks are issued, each once, all by the first granted clock move after its acceptance to reach the start it
--    has at that move,"                                                               lifecycles (`Lifecycle` in CallLists.antt)
--   "and no others are ever issued."                                                  only
--   "They add up to its size, end by its deadline,"                                   each (`Fulfils` in CallLists.antt)
--   document 02 (i): "Deadlines are kept for mixed jobs as they were for equal ones." each, due (`Accepted` has the compute cost, and `Fulfils` says that
--                                                                                     sends and finishes are what the costs with it make them)
--   document 02 (iii): "A chunk finishes when its audio is back, so the time after its send is SC + units × (p + r). Node free times and held ticks use
--    that finish."                                                                    each (`finish` of `Fulfils`; `rest_is` in walk/specs/Returning.antt),
--                                                                                     free, held
--   document 02 (vii): "the end of computing, which is send end + SC + units × p. It lies after the send end and at or before the finish."
--                                                                                     each (`computed` of `Fulfils`), of chunks issued and booked
--   "and have been issued once the clock has reached that deadline."                  due
--   "No later call alters an issued chunk."                                           unaltered; a record is its eight numbers (`record_is_row`, Demand1)
--   "No two chunks, issued or booked, are on one node, and no two of their sends on the link, in the same tick."   apart
--   "After the list each show's held ticks equal the sum over its issued chunks."     held
--   document 02 (vi): "A chunk's held ticks are now its finish minus its own send start."   held (`holds` in timetable/specs/Model.antt; what a job's chunks
--                                                                                     come to: `job_holds` in JobHolds.antt), limit
--   "Planning and node spans are unaffected."                                         apart, walks; a span begins at its job's start: each (`start` of `Issued`)
--   document 02 (ii): "All other bookings keep start, nodes and shares;"              withdrawals (each other waiting job is, whole, the one it was)
--   "the next offer walks without it. Earliest start and fewest nodes hold of a booking as of the walk that made it."   walks, latest
--   "A withdrawn job owes nothing and is issued nothing,"                             gone, lifecycles (`withdrawn` of `Lifecycle`); its number is never used
--                                                                                     again: numbers, once
--   "and demand 3 covers all the others for every list of offers, withdrawals and clock moves."   each, due and the rest
--   document 02 (iv): "An offer made next with the same fields gets what was quoted."   quoted
--   "Quotes between other calls alter no later answer."                               others; nor anything that is noted: unquoted
-- and document 01's readings under "Demand 3 over a list": clock, free, link, numbers, latest, accepted, walks; "A granted opening and the calls
-- after it always hand back a farm that passes": passes; "shorter moves then get through, as no two jobs share a start": starts, next.
use Rattle.std.specs.Prelude.{◌≡◌, refl, Bool, true, false, cond, ◌&&◌, ◌⊎◌, ℕ, zero, suc, ◌+◌, ◌-◌, ◌≤◌, ◌<◌, max, eqb, length, take, replicate}
use Rattle.std.proofs.Common.{ap, sym, subst, ◌∙◌, inl, inr, ⊎_elim, arith, eqb-true}
use mathlib.Core.List.Permᴰ
use mathlib.Core.List.{List, [], ◌∷◌, ◌++◌, map, map-map, Memᴰ, Permᴰ}
use Rattle.std.proofs.lemmas.Bool.{eqb-false}
use Rattle.std.proofs.lemmas.List.{length-replicate, get_or-replicate}
use Rattle.lists.specs.Laws.{All, Pairs, Differ, all_map, all_of, all_image, image_all, all_append, all_join, pairs_across, pairs_parts, perm_all, perm_mem, perm_pairs, mem_image, at_member, mem_left, mem_right, map_join}
use Rattle.limits.specs.declared.FarmCosts.{FarmCosts}
use Rattle.shares.specs.Model.{sum}
use Rattle.booking.specs.Best.{free_at}
use Rattle.walk.specs.declared.Job.{Job}
use Rattle.walk.specs.declared.FreeTimes.{FreeTimes}
use Rattle.walk.specs.declared.Chunk.{Chunk}
use Rattle.answers.specs.declared.Offer.{Offer}
use Rattle.planner.specs.Model.{Farm, most_held, between, costs_within, Span, lines_of, spans_of, spans_of_all, Sized, after, afters, by_deadline, by_start, plan, waiting_of, free_times_of, walk_terms_of, Between, Apart}
use Rattle.planner.specs.Passes.{passes_of}
use Rattle.walk.specs.Chain.{Fits, Chain, chain_append, Proper, free_same, free_other, after_length, chain_apart, finish_after_start}
use Rattle.walk.specs.Order.{by_start_perm}
use Rattle.walk.specs.BestWalk.{BestAll, walk_best}
use Rattle.planner.specs.CallsSteps.{walk_ready}
use Rattle.planner.specs.OfferSteps.{offer_offered}
use Rattle.soundness.specs.Sweep.{spans_all, spans_perm, apart_sym}
use Rattle.demands.specs.QuestionEleven.{passes_iff}
use Rattle.planner.specs.Calls.{of_number, without, Open, Said, granted, refused, shows_within, open_farm, open_said, held_by, new_job, queue_of, planned, with_plan, as_quote, withdrawn_farm}
use Rattle.planner.specs.Clock.{holds, lines_of_all, begun, issued, move_asked}
use Rattle.demands.specs.Starts.{StartsDiffer, starts_differ, next_few, next_granted}
use Rattle.demands.specs.CallLists.{Call, offer, quote, withdraw, Accepted, Noted, nothing, accepting, withdrawing, moving, reply, handed, is_granted, noted, chunk_of, History, opening, last_or, note, run, call_answers, calls_without_quotes, other_call_answers, held_of, up_to, lines_for, latest_finish, latest_sent, accepted_of, Fulfils, Waits, IssuesNone, Lifecycle}
use Rattle.demands.specs.BegunJobs.{lines_all}
use Rattle.queue.specs.Numbers.{number_of_job, of_number_has}
use Rattle.demands.specs.WithdrawPasses.{leaves_others, withdrawn_waiting}
use Rattle.demands.specs.MovePasses.{Waiting, waiting_jobs, booked_chain, lines_count}
use Rattle.demands.specs.Outcome.{taken, Outcome, stays, takes, leaves, moves, granted_offer, granted_withdrawal, outcome}
use Rattle.demands.specs.Invariant.{idle, Whole, Inv, spans_issued, times_spans, whole_proper, issued_within_free, open_inv, note_inv, run_inv}
use Rattle.demands.specs.Quotes.{quote_next, run_without, answers_without}
use Rattle.demands.specs.Lifecycles.{lines_named, none_of_jobs, lines_none, lines_own, spans_start, whole_fulfils, waits_as, NoLongerWaits, issues_no_more, begun_no_longer_waits, front_differ, none_before, Among, among_walks, lifecycle}

-- ---- The claim

-- A job accepted as x has been issued: the issued chunks of its number are those of one booking, each once, that do what was accepted, and their spans begin
-- at its start.
pub record Issued (x : Accepted) (w : History) : Type 0 where
  pub job : Job
  pub same : accepted_of job ≡ x
  pub lines : lines_for x.number w.lines ≡ lines_of w.farm.costs job
  pub start : All (λ (y : Span). y.chunk.job ≡ x.number → y.from ≡ job.booking.start) w.spans
  pub chunks : Fulfils w.farm.costs x (lines_of w.farm.costs job)

-- A job accepted as x waits: none of its chunks has been issued, those booked do what was accepted, as the latest walk that replaced the plan gave
-- them, and the clock has not reached its deadline.
pub record Booked (x : Accepted) (w : History) : Type 0 where
  pub waits : Waits x w.farm
  pub lines : lines_for x.number w.lines ≡ []
  pub latest : Memᴰ waits.job w.latest
  pub early : w.farm.clock < x.deadline

-- Job n was withdrawn: a granted withdrawal named it, it had been accepted, none of its chunks has been issued, and it waits no longer.
pub record Withdrawn (n : ℕ) (w : History) : Type 0 where
  pub named : Memᴰ n w.gone
  pub accepted : Memᴰ n (map (λ (x : Accepted). x.number) w.jobs)
  pub lines : lines_for n w.lines ≡ []
  pub waits : All (λ (j : Job). j.number ≡ n → ⊥) (waiting_of w.farm)

-- A granted withdrawal of job n from the farm f: a waiting job has the number; the farm handed back is f without that job, and the jobs that wait then are
-- the others, each as it was, in the order that they had.
pub record Withdrawal (f : Farm) (n : ℕ) : Type 0 where
  pub job : Job
  pub number : job.number ≡ n
  pub farm : handed f (withdraw n) ≡ withdrawn_farm f n
  pub order : waiting_of (handed f (withdraw n)) ≡ without n (waiting_of f)
  pub others : Permᴰ (waiting_of f) (job ∷ waiting_of (handed f (withdraw n)))

-- A walk of the jobs js after v, which leaves the plan `latest`: what it knew, and that it gave each job the best of all choices behind those before it
-- (demand 2).
pub record Walked (v : History) (js latest : List Job) : Type 0 where
  -- its plan replaced the old one
  pub plans : latest ≡ plan (walk_terms_of v.farm) (free_times_of v.farm) (by_deadline js)
  pub best : BestAll (walk_terms_of v.farm) (free_times_of v.farm) (by_deadline js)
  -- it knew the clock, and as free times the latest finish of an issued chunk on each node and the latest end of an issued send
  pub clock : (walk_terms_of v.farm).clock ≡ v.time
  pub free : (k : ℕ) → Between 1 k v.farm.nodes → free_at (free_times_of v.farm).free k ≡ latest_finish k v.lines
  pub link : (free_times_of v.farm).link ≡ latest_sent v.lines

-- the list is the calls before one, that one, and those after it
abbrev pub Split : List Call → List Call → Call → List Call → Type 0
Split cs before c after = cs ≡ before ++ c ∷ after

-- demand 3 of the calls cs after an opening that handed the farm f back, w what is noted after them
pub record Demand3 (f : Farm) (cs : List Call) (w : History) : Type 0 where
  -- No accepted job is late: its chunks, issued or where the list ends before that booked, add up to its size and end by its deadline, unless it was
  -- withdrawn.
  pub each : All (λ (x : Accepted). Issued x w ⊎ (Booked x w ⊎ Withdrawn x.number w)) w.jobs
  -- They have been issued once the clock has reached its deadline, unless it was withdrawn.
  pub due : All (λ (x : Accepted). x.deadline ≤ w.farm.clock → Issued x w ⊎ Withdrawn x.number w) w.jobs
  -- Each job that a granted withdrawal named was accepted, is issued nothing and waits no longer; none was named twice.
  pub gone : All (λ (n : ℕ). Withdrawn n w) w.gone
  pub once : Differ w.gone
  -- They are issued, each once, all by the first granted clock move after its acceptance to reach the start it has at that move; or a granted withdrawal
  -- names it before, and none is issued.
  pub lifecycles : (before : List Call) (c : Call) (after : List Call) → Split cs before c after
      → All (λ (x : Accepted). Lifecycle x (handed (run (opening f) before).farm c) after)
      (noted (run (opening f) before).farm c).jobs
  -- No others are ever issued.
  pub only : All (λ (y : Chunk). Memᴰ y.job (map (λ (x : Accepted). x.number) w.jobs)) w.lines
  -- No later call alters an issued chunk: none issues a chunk of its job.
  pub unaltered : (before : List Call) (c : Call) (after : List Call) → Split cs before c after
      → All (λ (y : Chunk). IssuesNone y.job (handed (run (opening f) before).farm c) after)
      (noted (run (opening f) before).farm c).lines
  -- No two chunks, issued or booked, share a tick of a node or of the link. The spans noted are those of the chunks issued.
  pub apart : Pairs Apart (w.spans ++ spans_of_all w.farm.costs (waiting_of w.farm))
  pub spans : map chunk_of w.spans ≡ w.lines
  -- Each show's held ticks equal the sum over its issued chunks.
  pub held : (s : ℕ) → Between 1 s w.farm.shows → held_by w.farm s ≡ held_of s w.lines
  -- All held ticks together are at most the sum of the nodes' free times, and no show's are above 64,000,000,000,000.
  pub limit : (sum (map holds w.lines) ≤ sum w.farm.free) × All (λ (x : ℕ). x ≤ most_held) (take w.farm.shows w.farm.held)
  -- Each node's free time is the latest finish of a chunk issued on it, and the link's the latest end of an issued send.
  pub free : (k : ℕ) → Between 1 k w.farm.nodes → free_at w.farm.free k ≡ latest_finish k w.lines
  pub link : w.farm.link ≡ latest_sent w.lines
  -- The clock is the time of the last granted clock move.
  pub clock : w.farm.clock ≡ w.time
  -- Accepted jobs are numbered 1, 2, 3 in order of acceptance.
  pub numbers : map (λ (x : Accepted). x.number) w.jobs ≡ up_to w.farm.used
  -- Each waiting booking is what the latest walk that replaced the plan gave that job, and only accepted jobs wait.
  pub latest : All (λ (j : Job). Memᴰ j w.latest) (waiting_of w.farm)
  pub accepted : All (λ (j : Job). Memᴰ (accepted_of j) w.jobs) (waiting_of w.farm)
  -- Each such walk knew the clock, the waiting jobs, the new one and the free times that the issued chunks left.
  pub walks : (before : List Call) (o : Offer) (after : List Call) → Split cs before (offer o) after → is_granted (run (opening f) before).farm (offer o) ≡ true
      → Walked (run (opening f) before) (waiting_of (run (opening f) before).farm ++ new_job (run (opening f) before).farm o ∷ []) (note (run (opening f) before) (offer o)).latest
  -- Each granted withdrawal takes that job out of those that wait, and changes nothing else.
  pub withdrawals : (before : List Call) (n : ℕ) (after : List Call) → Split cs before (withdraw n) after → is_granted (run (opening f) before).farm (withdraw n) ≡ true
      → Withdrawal (run (opening f) before).farm n
  -- A quote says what an offer made next with the same fields is told, with `quote` in place of `yes`.
  pub quoted : (before : List Call) (o : Offer) (after : List Call) → Split cs before (quote o) after
      → reply (run (opening f) before).farm (quote o) ≡ as_quote (reply (run (opening f) (before ++ quote o ∷ [])).farm (offer o))
  -- Without its quotes the list leaves the same farm, has issued the same chunks, and all else is noted as it is; and its other calls answer what they answer.
  pub unquoted : run (opening f) (calls_without_quotes cs) ≡ w
  pub others : call_answers f (calls_without_quotes cs) ≡ other_call_answers f cs
  -- No two waiting jobs share a start, so a move to the next start issues at most 64 lines, and is granted wherever 64 records are lent.
  pub starts : Pairs StartsDiffer (waiting_of w.farm)
  pub next : (j : Job) → Memᴰ j (waiting_of w.farm) → All (λ (k : Job). j.booking.start ≤ k.booking.start) (waiting_of w.farm)
      → (length (issued w.farm j.booking.start) ≤ 64) × ((n : ℕ) → 64 ≤ n → move_asked w.farm j.booking.start n ≡ 0)
  -- The farm passes question 11.
  pub passes : passes_of w.farm ≡ true

-- ---- Free times

latest_one : (k : ℕ) (b : FreeTimes) (x : Span) (r v : ℕ) (t : Bool) → eqb x.chunk.node k ≡ t → length b.free ≡ 64 → 1 ≤ k → Proper 64 x → Fits b x
    → v ≡ max (free_at (after b x.chunk).free k) r → v ≡ max (free_at b.free k) (cond t (max x.chunk.finish r) r)
latest_one k b x r v true e l h p q i =
    let n : x.chunk.node ≡ k = eqb-true x.chunk.node k e in
    let now : free_at (after b x.chunk).free k ≡ x.chunk.finish =
    subst (λ (a : ℕ). free_at (after b x.chunk).free a ≡ x.chunk.finish) n (free_same b.free x.chunk.node x.chunk.finish p.node.0 (omega (arith, p.node.1))) in
    let old : free_at b.free k ≤ x.from = subst (λ (a : ℕ). free_at b.free a ≤ x.from) n q.1 in
    omega (arith, i, now, old, p.begins, p.sends, p.ends)
latest_one k b x r v false e l h p q i =
    let now : free_at (after b x.chunk).free k ≡ free_at b.free k = free_other b.free x.chunk.node k x.chunk.finish p.node.0 h (eqb-false x.chunk.node k e) in
    omega (arith, i, now)

-- Behind a chain each node's free time is the latest finish on it.
free_latest : (k : ℕ) (b : FreeTimes) (xs : List Span) → length b.free ≡ 64 → 1 ≤ k → All (Proper 64) xs → Chain b xs
    → free_at (afters b (map chunk_of xs)).free k ≡ max (free_at b.free k) (latest_finish k (map chunk_of xs))
unfolding afters latest_finish
free_latest k b [] l h p q = omega arith
free_latest k b (x ∷ xs) l h p q =
    latest_one k b x (latest_finish k (map chunk_of xs)) (free_at (afters (after b x.chunk) (map chunk_of xs)).free k) (eqb x.chunk.node k) refl l h p.0 q.0
    (free_latest k (after b x.chunk) xs (after_length b x.chunk ∙ l) h p.1 q.1)

-- The link's free time is the latest end of a send.
link_latest : (b : FreeTimes) (xs : List Span) → All (Proper 64) xs → Chain b xs → (afters b (map chunk_of xs)).link ≡ max b.link (latest_sent (map chunk_of xs))
unfolding afters latest_sent
link_latest b [] p q = omega arith
link_latest b (x ∷ xs) p q = omega (arith, link_latest (after b x.chunk) xs p.1 q.1, p.0.sends, q.0.0)

-- ---- Numbers

up_to_within : (n : ℕ) → All (λ (x : ℕ). x ≤ n) (up_to n)
unfolding up_to
up_to_within zero = tt
up_to_within (suc n) = all_join (λ (x : ℕ). x ≤ suc n) (up_to n) (suc n ∷ []) (all_map (λ x h. omega arith) (up_to n) (up_to_within n)) (omega arith, tt)

pairs_last : {A : Type 0} (R : A → A → Type 0) (xs : List A) (y : A) → Pairs R xs → All (λ (x : A). R x y) xs → Pairs R (xs ++ y ∷ [])
pairs_last R [] y h k = (tt, tt)
pairs_last R (x ∷ xs) y h k = (all_join (R x) xs (y ∷ []) h.0 (k.0, tt), pairs_last R xs y h.1 k.1)

-- The numbers 1, 2, 3, … are different.
up_to_differ : (n : ℕ) → Differ (up_to n)
unfolding up_to
up_to_differ zero = tt
up_to_differ (suc n) = pairs_last (λ (a b : ℕ). a ≡ b → ⊥) (up_to n) (suc n) (up_to_differ n) (all_map (λ x h e. omega arith) (up_to n) (up_to_within n))

-- ---- From the invariant

module _ (w : History) (i : Inv w) where
  -- the numbers of the jobs withdrawn, and of the others
  abbrev gone_numbers : List ℕ
  gone_numbers = map (λ (x : Accepted). x.number) i.gone

  abbrev kept_numbers : List ℕ
  kept_numbers = map number_of_job (i.past ++ waiting_of w.farm)

  numbers_differ : Differ (gone_numbers ++ kept_numbers)
  numbers_differ =
      let d : Differ (map (λ (x : Accepted). x.number) w.jobs) = subst Differ (sym i.numbers) (up_to_differ w.farm.used) in
      let rest = map accepted_of (i.past ++ waiting_of w.farm) in
      subst Differ (map_join (λ (x : Accepted). x.number) i.gone rest ∙ ap (λ (l : List ℕ). gone_numbers ++ l) (map-map (λ (x : Accepted). x.number) accepted_of (i.past ++ waiting_of w.farm)))
      (perm_pairs (λ (a b : ℕ). a ≡ b → ⊥) (λ a b n q. n (sym q)) (Permᴰ.map (λ (x : Accepted). x.number) i.jobs) d)

  all_differ_lem : Differ kept_numbers
  all_differ_lem = (pairs_parts (λ (a b : ℕ). a ≡ b → ⊥) gone_numbers kept_numbers numbers_differ).1

  past_differ : Differ (map number_of_job i.past)
  past_differ = front_differ i.past (waiting_of w.farm) all_differ_lem

  past_issued : All (λ (j : Job). Issued (accepted_of j) w) i.past
  past_issued = all_of i.past (λ j m. record {
    job = j;
    same = refl;
    lines = ap (lines_for j.number) i.lines ∙ lines_own w.farm.costs i.past j past_differ m;
    start = subst (All (λ (y : Span). y.chunk.job ≡ j.number → y.from ≡ j.booking.start)) (sym i.spans) (spans_start w.farm.costs i.past j past_differ m);
    chunks = whole_fulfils w.farm.costs w.farm.shows j (at_member (Whole w.farm.costs w.farm.shows) m i.whole);
  })

  job_early : (j : Job) → Waiting w.farm j → w.farm.clock < j.deadline
  job_early j h =
      omega (arith, h.sound.clock, h.sound.ends, finish_after_start w.farm.costs 64 j h.proper (omega (arith, lines_count w.farm j h, h.within.count.0)))

  waiting_booked : All (λ (j : Job). Booked (accepted_of j) w) (waiting_of w.farm)
  waiting_booked = all_of (waiting_of w.farm) (λ j m. record {
    waits = waits_as w.farm j (accepted_of j) i.sized i.passes m refl;
    lines = ap (lines_for j.number) i.lines
        ∙ lines_none j.number (lines_of_all w.farm.costs i.past) (none_of_jobs w.farm.costs j.number i.past (none_before i.past (waiting_of w.farm) all_differ_lem j m));
    latest = at_member (λ (x : Job). Memᴰ x w.latest) m i.latest;
    early = job_early j (at_member (Waiting w.farm) m (waiting_jobs w.farm i.sized i.passes));
  })

  -- No job that has begun or waits has the number of one that was withdrawn.
  gone_others : All (λ (n : ℕ). All (λ (j : Job). j.number ≡ n → ⊥) (i.past ++ waiting_of w.farm)) gone_numbers
  gone_others =
      all_map (λ n h. all_map (λ j k q. k (sym q)) (i.past ++ waiting_of w.farm) (image_all (λ (b : ℕ). n ≡ b → ⊥) number_of_job (i.past ++ waiting_of w.farm) h)) gone_numbers
      (pairs_across (λ (a b : ℕ). a ≡ b → ⊥) gone_numbers kept_numbers numbers_differ)

  gone_withdrawn : All (λ (n : ℕ). Withdrawn n w) gone_numbers
  gone_withdrawn = all_of gone_numbers (λ n m.
      let P : Job → Type 0 = λ (j : Job). j.number ≡ n → ⊥ in
      let parts = all_append P i.past (waiting_of w.farm) (at_member (λ (k : ℕ). All (λ (j : Job). j.number ≡ k → ⊥) (i.past ++ waiting_of w.farm)) m gone_others) in
      record {
        named = perm_mem (Permᴰ.symm i.named) m;
        accepted = perm_mem (Permᴰ.map (λ (x : Accepted). x.number) (Permᴰ.symm i.jobs))
            (subst (Memᴰ n) (sym (map_join (λ (x : Accepted). x.number) i.gone (map accepted_of (i.past ++ waiting_of w.farm)))) (mem_left _ m));
        lines = ap (lines_for n) i.lines ∙ lines_none n (lines_of_all w.farm.costs i.past) (none_of_jobs w.farm.costs n i.past parts.0);
        waits = parts.1;
      })

  withdrawn_jobs : All (λ (n : ℕ). Withdrawn n w) w.gone
  withdrawn_jobs = perm_all (λ (n : ℕ). Withdrawn n w) (Permᴰ.symm i.named) gone_withdrawn

  gone_once : Differ w.gone
  gone_once =
      perm_pairs (λ (a b : ℕ). a ≡ b → ⊥) (λ a b n q. n (sym q)) (Permᴰ.symm i.named)
      (pairs_parts (λ (a b : ℕ). a ≡ b → ⊥) gone_numbers kept_numbers numbers_differ).0

  -- Each accepted job has been issued, is booked or was withdrawn.
  each_job : All (λ (x : Accepted). Issued x w ⊎ (Booked x w ⊎ Withdrawn x.number w)) w.jobs
  each_job =
      let P : Accepted → Type 0 = λ (x : Accepted). Issued x w ⊎ (Booked x w ⊎ Withdrawn x.number w) in
      perm_all P (Permᴰ.symm i.jobs)
      (all_join P i.gone (map accepted_of (i.past ++ waiting_of w.farm))
      (all_map (λ x h. inr (inr h)) i.gone (image_all (λ (n : ℕ). Withdrawn n w) (λ (x : Accepted). x.number) i.gone gone_withdrawn))
      (all_image P accepted_of (i.past ++ waiting_of w.farm)
      (all_join (λ (j : Job). P (accepted_of j)) i.past (waiting_of w.farm) (all_map (λ j h. inl h) i.past past_issued) (all_map (λ j h. inr (inl h)) (waiting_of w.farm) waiting_booked))))

  due_jobs : All (λ (x : Accepted). x.deadline ≤ w.farm.clock → Issued x w ⊎ Withdrawn x.number w) w.jobs
  due_jobs = all_map (λ x h d. ⊎_elim (λ a. inl a) (λ b. ⊎_elim (λ k. absurd (omega (arith, k.early))) (λ k. inr k) b) h) w.jobs each_job

  past_number : (j : Job) → Memᴰ j (i.past ++ waiting_of w.farm) → Memᴰ (accepted_of j) w.jobs
  past_number j m = perm_mem (Permᴰ.symm i.jobs) (mem_right i.gone (mem_image accepted_of m))

  only_jobs : All (λ (y : Chunk). Memᴰ y.job (map (λ (x : Accepted). x.number) w.jobs)) w.lines
  only_jobs =
      let P : Chunk → Type 0 = λ (y : Chunk). Memᴰ y.job (map (λ (x : Accepted). x.number) w.jobs) in
      subst (All P) (sym i.lines) (lines_all P w.farm.costs i.past (all_of i.past (λ j m.
      all_map (λ y e. subst (λ (n : ℕ). Memᴰ n (map (λ (x : Accepted). x.number) w.jobs)) (sym e) (mem_image (λ (x : Accepted). x.number) (past_number j (mem_left (waiting_of w.farm) m))))
      (lines_of w.farm.costs j) (lines_named w.farm.costs j))))

  spans_proper : All (Proper 64) w.spans
  spans_proper = subst (All (Proper 64)) (sym i.spans) (whole_proper w.farm.costs w.farm.shows i.past i.whole)

  all_apart : Pairs Apart (w.spans ++ spans_of_all w.farm.costs (waiting_of w.farm))
  all_apart =
      let f = w.farm in
      let c = f.costs in
      let order = by_start (waiting_of f) in
      let proper : All (Proper 64) (spans_of_all c order) =
      spans_all (Proper 64) c order (perm_all (λ (j : Job). All (Proper 64) (spans_of c j)) (by_start_perm (waiting_of f)) (all_map (λ j h. h.proper) (waiting_of f) (waiting_jobs f i.sized i.passes))) in
      let chain : Chain idle (w.spans ++ spans_of_all c order) =
      (chain_append idle w.spans (spans_of_all c order)).1 (i.chain, subst (λ (b : FreeTimes). Chain b (spans_of_all c order)) (times_spans w i) (booked_chain f i.sized i.passes)) in
      perm_pairs Apart apart_sym (Permᴰ.append_left w.spans (spans_perm c (Permᴰ.symm (by_start_perm (waiting_of f)))))
      (chain_apart idle (w.spans ++ spans_of_all c order) (length-replicate {A = ℕ} 64 0) (all_join (Proper 64) w.spans (spans_of_all c order) spans_proper proper) chain)

  node_free : (k : ℕ) → Between 1 k w.farm.nodes → free_at w.farm.free k ≡ latest_finish k w.lines
  node_free k h =
      let n = ((passes_iff w.farm i.sized).0 i.passes).within.nodes.1 in
      let zero' : free_at (replicate 64 0) k ≡ 0 = get_or-replicate 64 (k - 1) 0 0 (omega (arith, h.0, h.1)) in
      let now : free_at w.farm.free k ≡ free_at (afters idle (map chunk_of w.spans)).free k = ap (λ (b : FreeTimes). free_at b.free k) (times_spans w i) in
      subst (λ (l : List Chunk). free_at w.farm.free k ≡ latest_finish k l) (spans_issued w i)
      (omega (arith, zero', now, free_latest k idle w.spans (length-replicate {A = ℕ} 64 0) h.0 spans_proper i.chain))

  link_free : w.farm.link ≡ latest_sent w.lines
  link_free =
      let now : w.farm.link ≡ (afters idle (map chunk_of w.spans)).link = ap (λ (b : FreeTimes). b.link) (times_spans w i) in
      subst (λ (l : List Chunk). w.farm.link ≡ latest_sent l) (spans_issued w i) (omega (arith, now, link_latest idle w.spans spans_proper i.chain))

-- ---- One call of the list

-- A job that a call accepts waits after it.
new_among : (f : Farm) (c : Call) → Sized f → All (λ (x : Accepted). Among x (handed f c)) (noted f c).jobs
new_among f c z = go (outcome f c)
  where
    all : (n : Noted) → noted f c ≡ n → All (λ (x : Accepted). Among x (handed f c)) n.jobs
        → All (λ (x : Accepted). Among x (handed f c)) (noted f c).jobs
    all n q h = subst (λ (m : Noted). All (λ (x : Accepted). Among x (handed f c)) m.jobs) (sym q) h

    new_taken : (o : Offer) → Among (taken f o) (with_plan f (planned f o))
    new_taken o = among_walks (taken f o) f (f.used + 1) (waiting_of f ++ new_job f o ∷ []) (mem_image accepted_of (mem_right (waiting_of f) (Memᴰ.head refl)))

    go : Outcome f c → All (λ (x : Accepted). Among x (handed f c)) (noted f c).jobs
    go (stays h q) = all nothing q tt
    go (takes o e k h q) = all (accepting (taken f o) (planned f o)) q (subst (Among (taken f o)) (sym h) (new_taken o), tt)
    go (leaves n k h q) = all (withdrawing n) q tt
    go (moves t n k h q) = all (moving t (issued f t)) q tt

-- What a walk of any queue knew.
walk_knew : (w : History) (js latest : List Job) → Inv w → latest ≡ plan (walk_terms_of w.farm) (free_times_of w.farm) (by_deadline js) → BestAll (walk_terms_of w.farm) (free_times_of w.farm) (by_deadline js)
    → Walked w js latest
walk_knew w js latest i e best = record { plans = e; best = best; clock = i.clock; free = node_free w i; link = link_free w i }

-- The walk of an accepted offer.
offer_walked : (w : History) (o : Offer) → Inv w → is_granted w.farm (offer o) ≡ true → Walked w (waiting_of w.farm ++ new_job w.farm o ∷ []) (note w (offer o)).latest
offer_walked w o i e =
    let f = w.farm in
    let k = granted_offer f o e in
    let n = ((passes_iff f i.sized).0 i.passes).within.nodes.1 in
    walk_knew w (waiting_of f ++ new_job f o ∷ []) (note w (offer o)).latest i (ap (λ (m : Noted). last_or w.latest m.plans) k.2)
    (walk_best (walk_terms_of f) (free_times_of f) (queue_of f o) (walk_ready f (new_job f o) (offer_offered f o k.0.granted)) (omega (arith, n, i.sized.free)) k.0.books)

-- A granted withdrawal takes one job out.
call_withdrawal : (f : Farm) (n : ℕ) → Sized f → is_granted f (withdraw n) ≡ true → Withdrawal f n
call_withdrawal f n z e =
    let k = granted_withdrawal f n e in
    let now : waiting_of (handed f (withdraw n)) ≡ without n (waiting_of f) = ap waiting_of k.1 ∙ withdrawn_waiting f n z k.0.passes k.0.has in
    record {
      job = of_number n (waiting_of f);
      number = of_number_has n (waiting_of f) k.0.has;
      farm = k.1;
      order = now;
      others =
          subst (λ (l : List Job). Permᴰ (waiting_of f) (of_number n (waiting_of f) ∷ l)) (sym now)
          (leaves_others f n z k.0.passes k.0.has);
    }

-- No call after it issues a chunk of a job that a call has issued.
issued_issues_none : (w : History) (c : Call) (cs : List Call) → Inv w
    → All (λ (y : Chunk). IssuesNone y.job (handed w.farm c) cs) (noted w.farm c).lines
issued_issues_none w c cs i = go (outcome w.farm c)
  where
    f : Farm
    f = w.farm

    P : Chunk → Type 0
    P y = IssuesNone y.job (handed f c) cs

    all : (n : Noted) → noted f c ≡ n → All P n.lines → All P (noted f c).lines
    all n q h = subst (λ (m : Noted). All P m.lines) (sym q) h

    go : Outcome f c → All P (noted f c).lines
    go (stays h q) = all nothing q tt
    go (takes o e k h q) = all (accepting (taken f o) (planned f o)) q tt
    go (leaves n k h q) = all (withdrawing n) q tt
    go (moves t n k h q) =
        all (moving t (issued f t)) q (lines_all P f.costs (begun f t) (all_of (begun f t) (λ j m.
        all_map (λ y e. subst (λ (a : ℕ). IssuesNone a (handed f c) cs) (sym e)
        (issues_no_more j.number (note w c) cs (note_inv w c i) (subst (NoLongerWaits j.number) (sym h) (begun_no_longer_waits f t j i.sized i.passes m))))
        (lines_of f.costs j) (lines_named f.costs j))))

-- ---- The theorem

pub opening_granted : (n : ℕ) (c : FarmCosts) (al : List ℕ) → (open_said n c al).number ≡ 0 → (between 1 n 64 && costs_within c && shows_within al) ≡ true
unfolding open_said
opening_granted n c al e = go (between 1 n 64) (costs_within c) (shows_within al) e
  where
    go : (a b d : Bool) → (cond {A = Said} a (cond b (cond d (granted Open (n ∷ length al ∷ [])) (refused 3)) (refused 2)) (refused 1)).number ≡ 0
        → (a && b && d) ≡ true
    go true true true h = refl
    go true true false h = absurd (omega arith)
    go true false d h = absurd (omega arith)
    go false b d h = absurd (omega arith)

-- **Demand 3.** It holds of every list of calls after a granted opening.
pub demand3 : (n : ℕ) (c : FarmCosts) (al : List ℕ) → (open_said n c al).number ≡ 0 → (cs : List Call) → Demand3 (open_farm n c al) cs (run (opening (open_farm n c al)) cs)
demand3 n c al e cs =
    let f = open_farm n c al in
    let o : Inv (opening f) = open_inv n c al (opening_granted n c al e) in
    let w = run (opening f) cs in
    let i : Inv (run (opening f) cs) = run_inv (opening f) cs o in
    record {
      each = each_job w i;
      due = due_jobs w i;
      gone = withdrawn_jobs w i;
      once = gone_once w i;
      lifecycles = λ before x after h.
          let v = run (opening f) before in
          let j : Inv (run (opening f) before) = run_inv (opening f) before o in
          all_map (λ y m. lifecycle y (note v x) after (note_inv v x j) m) (noted v.farm x).jobs (new_among v.farm x j.sized);
      only = only_jobs w i;
      unaltered = λ before x after h. issued_issues_none (run (opening f) before) x after (run_inv (opening f) before o);
      apart = all_apart w i;
      spans = spans_issued w i;
      held = λ s h. i.held s (h.0, omega (arith, h.1, ((passes_iff w.farm i.sized).0 i.passes).within.shows.1));
      limit = (issued_within_free w i, ((passes_iff w.farm i.sized).0 i.passes).within.held);
      free = node_free w i;
      link = link_free w i;
      clock = i.clock;
      numbers = i.numbers;
      latest = i.latest;
      accepted = all_of (waiting_of w.farm) (λ j m. past_number w i j (mem_right i.past m));
      walks = λ before x after h g. offer_walked (run (opening f) before) x (run_inv (opening f) before o) g;
      withdrawals = λ before n after h g. call_withdrawal (run (opening f) before).farm n (run_inv (opening f) before o).sized g;
      quoted = λ before o after h. quote_next (opening f) before o;
      unquoted = run_without (opening f) cs;
      others = answers_without f cs;
      starts = starts_differ w.farm i.sized i.passes;
      next = λ j m h. (next_few w.farm i.sized i.passes j m h, next_granted w.farm i.sized i.passes j m h);
      passes = i.passes;
    }
