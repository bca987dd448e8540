-- The test of the waiting jobs says what the paper asks of them.
use Rattle.std.specs.Prelude.{◌≡◌, refl, ℕ, ◌≤◌, length}
use Rattle.std.proofs.Common.{sym, ◌∙◌, arith, length-take-le}
use mathlib.Core.List.{List, [], ◌∷◌, Permᴰ}
use Rattle.lists.specs.Laws.{All, Pairs, Differ, all_map, all_both, pairs_map, perm_all, perm_pairs}
use Rattle.limits.specs.declared.FarmCosts.{FarmCosts}
use Rattle.shares.specs.Model.{sum}
use Rattle.shares.specs.Lists.{Positive}
use Rattle.limits.specs.Model.{CostsWithin}
use Rattle.limits.specs.Says.{Says, says_le, says_eq, says_not_eq, says_as, says_then, says_both, says_between, says_at_most, says_at_least}
use Rattle.booking.specs.Best.{free_at, chosen, units}
use Rattle.walk.specs.declared.Job.{Job}
use Rattle.walk.specs.declared.FreeTimes.{FreeTimes}
use Rattle.walk.specs.Model.{greatest, chunk_terms, finish_of, spans_of, spans_of_all, by_start, fit_all, Apart, JobSized}
use Rattle.walk.specs.Chain.{Fits, Proper, fit_all_chain, chain_follows, follows_apart, job_proper}
use Rattle.walk.specs.Order.{by_start_perm, by_start_grows}
use Rattle.soundness.specs.declared.JobBounds.{JobBounds}
use Rattle.soundness.specs.Model.{none_of, all_differ, job_numbers, job_within, shares_kept, job_kept, job_passes, jobs_pass, waiting_pass, JobWithin, Sound}
use Rattle.soundness.specs.Sweep.{spans_each, spans_all, spans_perm, apart_sym, apart_follows, spans_first, spans_free, spans_fit}

-- bounds with which no sum wraps
pub record Usable (g : JobBounds) : Type 0 where
  pub nodes : g.terms.nodes ≤ 64
  pub costs : CostsWithin g.terms.costs

-- ---- The jobs' numbers

says_none_of : (x : ℕ) (ys : List ℕ) → Says (none_of x ys) (All (λ (y : ℕ). x ≡ y → ⊥) ys)
unfolding none_of
says_none_of x [] = record { yields = λ e. tt; follows = λ h. refl }
says_none_of x (y ∷ ys) = says_both (says_not_eq x y) (says_none_of x ys)

-- The test that all differ says so of each two.
pub says_differ : (xs : List ℕ) → Says (all_differ xs) (Differ xs)
unfolding all_differ
says_differ [] = record { yields = λ e. tt; follows = λ h. refl }
says_differ (x ∷ xs) = says_both (says_none_of x xs) (says_differ xs)

-- ---- A job by itself

-- The test of a job's bounds says that each is within its limits.
pub says_job_within : (g : JobBounds) (j : Job) → Says (job_within g j) (JobWithin g j)
unfolding job_within
says_job_within g j =
    says_as
    (λ h. record {
      number = h.0.0.0.0.0.0.0;
      show = h.0.0.0.0.0.0.1;
      size = h.0.0.0.0.0.1;
      compute = h.0.0.0.0.1;
      deadline = h.0.0.0.1;
      start = h.0.0.1;
      count = h.0.1;
      nodes = all_both (λ k a b. (a, b)) (chosen j.booking) h.1.0 h.1.1;
    })
    (λ h.
    (((((((h.number, h.show), h.size), h.compute), h.deadline), h.start), h.count), (all_map (λ k a. a.0) (chosen j.booking) h.nodes, all_map (λ k a. a.1) (chosen j.booking) h.nodes)))
    (says_both
    (says_both
    (says_both
    (says_both
    (says_both
    (says_both
    (says_both (says_between 1 j.number g.used) (says_between 1 j.show g.shows))
    (says_between 1 j.size 1_000_000))
    (says_between 1 j.compute 1_000_000))
    (says_le j.deadline greatest))
    (says_le j.booking.start greatest))
    (says_between 1 j.booking.count 64))
    (says_both (says_at_least 1 (chosen j.booking)) (says_at_most g.terms.nodes (chosen j.booking))))

-- a waiting job by itself: its start not before the clock, its shares, and its finish
pub record JobKept (g : JobBounds) (j : Job) : Type 0 where
  pub clock : g.terms.clock ≤ j.booking.start
  pub each : Positive (units j.booking)
  pub all : sum (units j.booking) ≡ j.size
  pub ends : finish_of g.terms.costs j ≤ j.deadline

-- The test of a job by itself says that it keeps the clock, its size and its deadline.
pub says_job_kept : (g : JobBounds) (j : Job) → Says (job_kept g j) (JobKept g j)
unfolding job_kept shares_kept
says_job_kept g j =
    says_as (λ h. record { clock = h.0; each = h.1.0.0; all = h.1.0.1; ends = h.1.1 }) (λ h. (h.clock, ((h.each, h.all), h.ends)))
    (says_both (says_le g.terms.clock j.booking.start)
    (says_both (says_both (says_at_least 1 (units j.booking)) (says_eq (sum (units j.booking)) j.size)) (says_le (finish_of g.terms.costs j) j.deadline)))

-- The test of the jobs says both of each.
pub says_jobs : (g : JobBounds) (js : List Job) → Says (jobs_pass g js) (All (λ (j : Job). JobWithin g j × JobKept g j) js)
unfolding jobs_pass job_passes
says_jobs g [] = record { yields = λ e. tt; follows = λ h. refl }
says_jobs g (j ∷ js) = says_both (says_both (says_job_within g j) (says_job_kept g j)) (says_jobs g js)

-- ---- The sweep

-- a job behind the free times
abbrev pub Behind : FreeTimes → Job → Type 0
Behind b j = (b.link ≤ j.booking.start) × All (λ (k : ℕ). free_at b.free k ≤ j.booking.start) (chosen j.booking)

-- as many nodes as shares, one at least
abbrev pub Paired : Job → Type 0
Paired j = (length (chosen j.booking) ≡ length (units j.booking)) × (1 ≤ length (chosen j.booking))

pub job_paired : (g : JobBounds) (j : Job) → JobSized j → JobWithin g j → Paired j
job_paired g j s w =
    let a : length (chosen j.booking) ≡ j.booking.count = length-take-le j.booking.count j.booking.nodes (omega (arith, s.nodes, w.count.1)) in
    let b : length (units j.booking) ≡ j.booking.count = length-take-le j.booking.count j.booking.shares (omega (arith, s.shares, w.count.1)) in
    (a ∙ sym b, omega (arith, w.count.0))

pub fits_behind : (b : FreeTimes) (c : FarmCosts) (j : Job) → Paired j → All (Fits b) (spans_of c j) → Behind b j
fits_behind b c j p h =
    let s = j.booking.start in
    (spans_first (chunk_terms c j) s b s (chosen j.booking) (units j.booking) p.0 p.1 h, spans_free (chunk_terms c j) s b s (chosen j.booking) (units j.booking) p.0 h)

behind_fits : (b : FreeTimes) (c : FarmCosts) (j : Job) → Behind b j → All (Fits b) (spans_of c j)
behind_fits b c j h =
    let s = j.booking.start in
    spans_fit (chunk_terms c j) s b s (chosen j.booking) (units j.booking) h.0 h.1

-- The sweep in order of start passes exactly if each job is behind the free times and all spans are apart.
pub says_sweep : (c : FarmCosts) (b : FreeTimes) (js : List Job) → length b.free ≡ 64 → All (λ (j : Job). Paired j × All (Proper 64) (spans_of c j)) js
    → Says (fit_all b (spans_of_all c (by_start js))) (All (Behind b) js × Pairs Apart (spans_of_all c js))
says_sweep c b js l g =
    let d : Permᴰ js (by_start js) = by_start_perm js in
    let sd : Permᴰ (spans_of_all c js) (spans_of_all c (by_start js)) = spans_perm c d in
    let each : All (λ (j : Job). All (Proper 64) (spans_of c j)) (by_start js) = perm_all (λ (j : Job). All (Proper 64) (spans_of c j)) d (all_map (λ j h. h.1) js g) in
    let chain = chain_follows b (spans_of_all c (by_start js)) l (spans_all (Proper 64) c (by_start js) each) in
    let test = fit_all_chain b (spans_of_all c (by_start js)) in
    record {
      yields = λ e.
          let r = chain.0 (test.0 e) in
          let fits : All (λ (j : Job). All (Fits b) (spans_of c j)) js = spans_each (Fits b) c js (perm_all (Fits b) (mathlib.Core.List.Permᴰ.symm sd) r.0) in
          (all_both (λ j h k. fits_behind b c j h.0 k) js g fits, perm_pairs Apart apart_sym (mathlib.Core.List.Permᴰ.symm sd) (pairs_map follows_apart (spans_of_all c (by_start js)) r.1));
      follows = λ h.
          let fits : All (Fits b) (spans_of_all c js) = spans_all (Fits b) c js (all_map (λ j k. behind_fits b c j k) js h.0) in
          test.1 (chain.1 (perm_all (Fits b) sd fits, apart_follows c (by_start js) each (by_start_grows js) (perm_pairs Apart apart_sym sd h.1)));
    }

-- ---- The waiting jobs

-- The spans of a job that is within its limits and kept are proper.
pub job_spans : (g : JobBounds) (j : Job) → Usable g → JobWithin g j → Positive (units j.booking) → All (Proper 64) (spans_of g.terms.costs j)
job_spans g j u w p =
    job_proper g.terms.costs 64 j u.costs.send.0 (all_map (λ k b. (b.0, omega (arith, b.1, u.nodes))) (chosen j.booking) w.nodes) p

-- **The waiting jobs.** The test passes exactly if each figure is within its limits and the bookings are sound.
pub says_waiting : (g : JobBounds) (b : FreeTimes) (js : List Job) → Usable g → length b.free ≡ 64 → All JobSized js → Says (waiting_pass g b js) (All (JobWithin g) js × Sound g b js)
unfolding waiting_pass
says_waiting g b js u l z =
    says_as
    (λ h. (
      all_map (λ j k. k.0) js h.0.0,
      record {
        jobs = all_both (λ j k q. record { clock = k.1.clock; link = q.0; free = q.1; each = k.1.each; all = k.1.all; ends = k.1.ends }) js h.0.0 h.1.0;
        apart = h.1.1;
        differ = h.0.1;
      },
    ))
    (λ h. (
      (all_both (λ j a k. (a, record { clock = k.clock; each = k.each; all = k.all; ends = k.ends })) js h.0 h.1.jobs, h.1.differ),
      (all_map (λ j k. (k.link, k.free)) js h.1.jobs, h.1.apart),
    ))
    (says_then (says_both (says_jobs g js) (says_differ (job_numbers js)))
    (λ p. says_sweep g.terms.costs b js l (all_both (λ j s h. (job_paired g j s h.0, job_spans g j u h.0 h.1.each)) js z p.0)))
