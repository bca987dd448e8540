-- The plan of a walk: its spans follow one another, its starts grow, and each of its jobs is what its walk makes of it.
use Rattle.std.specs.Prelude.{◌≡◌, refl, List, [], ◌∷◌, map, ℕ, suc, ◌-◌, ◌≤◌, ◌<◌, length, set}
use Rattle.std.proofs.Common.{ap, ◌∙◌, mul-le-mul_right, arith}
use Rattle.lists.specs.Laws.{All, Pairs, Differ, all_map, all_both}
use Rattle.shares.specs.Lists.{Positive}
use Rattle.limits.specs.Model.{CostsWithin}
use Rattle.booking.specs.Best.{free_at, chosen, units, Feasible}
use Rattle.booking.specs.Booked.{some_share}
use Rattle.walk.specs.declared.Job.{Job}
use Rattle.walk.specs.declared.WalkTerms.{WalkTerms}
use Rattle.walk.specs.declared.FreeTimes.{FreeTimes}
use Rattle.walk.specs.declared.ChunkTerms.{ChunkTerms}
use Rattle.walk.specs.Model.{chunk_terms, chunk_on, chunks_from, lines_of, spans_from, spans_of, spans_of_all, after, afters, request_of, step, free_times_after, plan}
use Rattle.walk.specs.Chain.{Chain, chain_job, free_other, afters_length}
use Rattle.walk.specs.Chunks.{Sendable}
use Rattle.walk.specs.WalkSteps.{Walkable, FeasibleAll, feasible_sends}

-- ---- The plan in walk order

-- chunks on different nodes, each free by f, sent back to back from t
chunks_chain : (w : ChunkTerms) (f t : ℕ) (b : FreeTimes) (ks xs : List ℕ) → b.link ≤ t → All (λ (k : ℕ). 1 ≤ k) ks → All (λ (k : ℕ). free_at b.free k ≤ f) ks → Differ ks
    → Chain b (spans_from w f t ks xs)
unfolding chunks_from
chunks_chain w f t b [] [] h p n d = tt
chunks_chain w f t b [] (a ∷ xs) h p n d = tt
chunks_chain w f t b (k ∷ ks) [] h p n d = tt
chunks_chain w f t b (k ∷ ks) (a ∷ xs) h p n d =
    let x = chunk_on w t k a in
    let apart : All (λ (m : ℕ). (1 ≤ m) × (k ≡ m → ⊥)) ks = all_both (λ m i e. (i, e)) ks p.1 d.0 in
    let free : All (λ (m : ℕ). free_at (set b.free (k - 1) x.finish) m ≤ f) ks =
    all_both (λ m i e. omega (arith, free_other b.free k m x.finish p.0 i.0 i.1)) ks apart n.1 in
    ((h, n.0), chunks_chain w f x.sent (after b x) ks xs (omega arith) p.1 free d.1)

-- The spans of a booking that is feasible behind b are a chain from b.
job_chain : (w : WalkTerms) (b : FreeTimes) (j : Job) → Feasible (request_of w b j) b.free (step w b j).booking → Chain b (spans_of w.costs (step w b j))
job_chain w b j x =
    let q = (step w b j).booking in
    let h = x.choice in
    chunks_chain (chunk_terms w.costs j) q.start q.start b (chosen q) (units q) (omega (arith, h.after)) (all_map (λ k a. a.0) (chosen q) h.known) h.idle h.differ

-- The spans of a plan in walk order, each job booked behind those before it, are a chain from the walk's free times.
pub plan_chain : (w : WalkTerms) (b : FreeTimes) (js : List Job) → FeasibleAll w b js → Chain b (spans_of_all w.costs (plan w b js))
unfolding plan spans_of_all
plan_chain w b [] a = tt
plan_chain w b (j ∷ js) a =
    (chain_job b w.costs (step w b j) (spans_of_all w.costs (plan w (free_times_after w b j) js))).1 (job_chain w b j a.0, plan_chain w (free_times_after w b j) js a.1)

-- ---- Starts grow

-- the link's free time does not fall from send to send
sends_end : (w : ChunkTerms) (t : ℕ) (b : FreeTimes) (ks xs : List ℕ) → t ≤ b.link → t ≤ (afters b (chunks_from w t ks xs)).link
unfolding chunks_from afters
sends_end w t b [] [] h = h
sends_end w t b [] (a ∷ xs) h = h
sends_end w t b (k ∷ ks) [] h = h
sends_end w t b (k ∷ ks) (a ∷ xs) h =
    let x = chunk_on w t k a in
    omega (arith, sends_end w x.sent (after b x) ks xs (omega arith))

-- a first send takes the link past its start
sends_pass : (w : ChunkTerms) (t : ℕ) (b : FreeTimes) (ks xs : List ℕ) → 1 ≤ w.costs.send → length ks ≡ length xs → 1 ≤ length xs → Positive xs → t < (afters b (chunks_from w t ks xs)).link
unfolding chunks_from afters
sends_pass w t b [] [] m e h p = absurd (omega arith)
sends_pass w t b [] (a ∷ xs) m e h p = absurd (omega arith)
sends_pass w t b (k ∷ ks) [] m e h p = absurd (omega arith)
sends_pass w t b (k ∷ ks) (a ∷ xs) m e h p =
    let x = chunk_on w t k a in
    omega (arith, mul-le-mul_right w.costs.send p.0, sends_end w x.sent (after b x) ks xs (omega arith))

-- A booked job leaves the link free only after its start.
link_grows : (w : WalkTerms) (b : FreeTimes) (j : Job) → 1 ≤ w.costs.send → 1 ≤ j.size → Feasible (request_of w b j) b.free (step w b j).booking
    → (b.link ≤ (step w b j).booking.start) × ((step w b j).booking.start < (free_times_after w b j).link)
link_grows w b j m z x =
    let q = (step w b j).booking in
    let h = x.choice in (
      omega (arith, h.after),
      sends_pass (chunk_terms w.costs j) q.start b (chosen q) (units q) m h.paired (some_share (units q) (omega (arith, h.all))) h.each,
    )

-- No job of a plan starts before the link's free time.
pub plan_late : (w : WalkTerms) (b : FreeTimes) (js : List Job) → 1 ≤ w.costs.send → All (λ (j : Job). 1 ≤ j.size) js → FeasibleAll w b js
    → All (λ (j : Job). b.link ≤ j.booking.start) (plan w b js)
unfolding plan
plan_late w b [] m z a = tt
plan_late w b (j ∷ js) m z a =
    let g = link_grows w b j m z.0 a.0 in
    (g.0, all_map (λ x h. omega arith) (plan w (free_times_after w b j) js) (plan_late w (free_times_after w b j) js m z.1 a.1))

-- Along a plan the starts strictly increase.
pub starts_grow : (w : WalkTerms) (b : FreeTimes) (js : List Job) → 1 ≤ w.costs.send → All (λ (j : Job). 1 ≤ j.size) js → FeasibleAll w b js
    → Pairs (λ (i j : Job). i.booking.start < j.booking.start) (plan w b js)
unfolding plan
starts_grow w b [] m z a = tt
starts_grow w b (j ∷ js) m z a =
    let g = link_grows w b j m z.0 a.0 in
    (all_map (λ x h. omega arith) (plan w (free_times_after w b j) js) (plan_late w (free_times_after w b j) js m z.1 a.1), starts_grow w (free_times_after w b j) js m z.1 a.1)

-- ---- The jobs of a plan

-- What follows for each job from its booking being feasible behind some free times holds of all jobs of a plan.
pub plan_all : (P Q : Job → Type 0) (w : WalkTerms) (b : FreeTimes) (js : List Job)
    → ((x : FreeTimes) (j : Job) → length x.free ≡ 64 → P j → Feasible (request_of w x j) x.free (step w x j).booking → Q (step w x j))
    → length b.free ≡ 64 → All P js → FeasibleAll w b js → All Q (plan w b js)
unfolding plan
plan_all P Q w b [] g l h a = tt
plan_all P Q w b (j ∷ js) g l h a =
    (g b j l h.0 a.0, plan_all P Q w (free_times_after w b j) js g (afters_length b (lines_of w.costs (step w b j)) ∙ l) h.1 a.1)

-- A plan keeps the job numbers.
pub plan_numbers : (w : WalkTerms) (b : FreeTimes) (js : List Job) → map (λ (j : Job). j.number) (plan w b js) ≡ map (λ (j : Job). j.number) js
unfolding plan
plan_numbers w b [] = refl
plan_numbers w b (j ∷ js) = ap (λ (l : List ℕ). j.number ∷ l) (plan_numbers w (free_times_after w b j) js)

-- A plan has the jobs that are walked.
pub plan_length : (w : WalkTerms) (b : FreeTimes) (js : List Job) → length (plan w b js) ≡ length js
unfolding plan
plan_length w b [] = refl
plan_length w b (j ∷ js) = ap suc (plan_length w (free_times_after w b j) js)

-- Every job of a plan that books all has chunks that can be worked out.
pub plan_sends : (w : WalkTerms) (b : FreeTimes) (js : List Job) → w.nodes ≤ 64 → CostsWithin w.costs → length b.free ≡ 64 → All Walkable js → FeasibleAll w b js → All (Sendable w.costs) (plan w b js)
unfolding plan
plan_sends w b [] n z l r a = tt
plan_sends w b (j ∷ js) n z l r a = (
  feasible_sends w b j n z (omega arith) r.0.1 r.0.2 a.0,
  plan_sends w (free_times_after w b j) js n z (afters_length b (lines_of w.costs (step w b j)) ∙ l) r.1 a.1,
)
