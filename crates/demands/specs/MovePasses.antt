-- The farm that a granted clock move hands back: it passes question 11 where its figures stay within their limits.
use Rattle.std.specs.Prelude.{◌≡◌, List, [], ◌∷◌, ◌++◌, map, true, ◌&&◌, ℕ, ◌*◌, ◌≤◌, length, take}
use Rattle.std.proofs.Common.{ap, sym, subst, ◌∙◌, arith, leb-false, length-append, length-take-le}
use mathlib.Core.List.Permᴰ
use Rattle.std.proofs.lemmas.Bool.{not-true}
use Rattle.lists.specs.Laws.{All, Pairs, Differ, all_map, all_both, all_take, perm_all, perm_pairs, map_join, pairs_parts}
use Rattle.booking.specs.Best.{chosen, units}
use Rattle.walk.specs.declared.Job.{Job}
use Rattle.walk.specs.declared.Chunk.{Chunk}
use Rattle.walk.specs.Model.{chunk_terms}
use Rattle.planner.specs.Model.{Farm, greatest, most_held, lines_of, spans_of, spans_of_all, JobSized, Sized, afters, fit_all, by_start, waiting_of, free_times_of, Apart}
use Rattle.soundness.specs.Model.{jobs_pass, all_differ}
use Rattle.planner.specs.Passes.{bounds_of, job_numbers, waiting_pass, passes_of, JobWithin, JobSound, Passes}
use Rattle.planner.specs.PassesSteps.{farm_within, usable}
use Rattle.walk.specs.Chain.{Fits, fit_all_chain, Chain, chain_append, Proper, afters_length, chain_follows, chain_apart}
use Rattle.walk.specs.Order.{by_start_perm}
use Rattle.soundness.specs.Sweep.{spans_each, spans_all, spans_perm, apart_sym}
use Rattle.soundness.specs.Sound.{Paired, job_paired, fits_behind, job_spans}
use Rattle.demands.specs.QuestionEleven.{passes_iff}
use Rattle.timetable.specs.LinesSteps.{lines_length}
use Rattle.limits.specs.Tests.{and_both}
use Rattle.planner.specs.Changes.{at_time, jobs_within, time_within, queue_sized, time_sized, queue_waits}
use Rattle.planner.specs.Clock.{raised, starts_by, starts_after, begun, waiting_on, lines_of_all, issued, moved_farm}
use Rattle.lists.specs.Keep.{keep_all, keep_length}
use Rattle.timetable.specs.HeldSteps.{raised_length}
use Rattle.demands.specs.BegunJobs.{later, begun_later, later_left, begun_left, spans_append, spans_chunks}
use Rattle.queue.specs.Numbers.{number_of_job}

-- what is known of a waiting job of a farm that passes
pub record Waiting (f : Farm) (j : Job) : Type 0 where
  pub sized : JobSized j
  pub within : JobWithin (bounds_of f) j
  pub sound : JobSound (bounds_of f) (free_times_of f) j
  pub paired : Paired j
  pub proper : All (Proper 64) (spans_of f.costs j)

module _ (f : Farm) (sized : Sized f) (e : passes_of f ≡ true) where
  -- Each waiting job of a farm that passes is within its limits and sound.
  pub waiting_jobs : All (Waiting f) (waiting_of f)
  waiting_jobs =
      let p = (passes_iff f sized).0 e in
      let both : All (λ (j : Job). JobWithin (bounds_of f) j × JobSound (bounds_of f) (free_times_of f) j) (waiting_of f) = all_both (λ j a b. (a, b)) (waiting_of f) p.jobs p.sound.jobs in
      all_both (λ j s h. record {
        sized = s;
        within = h.0;
        sound = h.1;
        paired = job_paired (bounds_of f) j s h.0;
        proper = job_spans (bounds_of f) j (usable f p.within) h.0 h.1.each;
      }) (waiting_of f) (all_take JobSized f.waiting f.jobs sized.each) both

  -- The booked spans in order of start are a chain behind the farm's free times.
  pub booked_chain : Chain (free_times_of f) (spans_of_all f.costs (by_start (waiting_of f)))
  unfolding passes_of waiting_pass
  booked_chain = (fit_all_chain (free_times_of f) (spans_of_all f.costs (by_start (waiting_of f)))).0
      (and_both (jobs_pass (bounds_of f) (waiting_of f) && all_differ (job_numbers (waiting_of f))) (fit_all (free_times_of f) (spans_of_all f.costs (by_start (waiting_of f))))
      (and_both (farm_within f) (waiting_pass (bounds_of f) (free_times_of f) (waiting_of f)) e).1).1

  -- The waiting jobs have different numbers.
  pub waiting_differ : Differ (map number_of_job (waiting_of f))
  waiting_differ = ((passes_iff f sized).0 e).sound.differ

  module _ (t : ℕ) where
    -- A move leaves the chain as it is, and what it begins is a front of it.
    pub moved_chain : Chain (free_times_of f) (spans_of_all f.costs (begun f t)) × Chain (afters (free_times_of f) (issued f t)) (spans_of_all f.costs (later f t))
    moved_chain =
        let c = f.costs in
        let h : Chain (free_times_of f) (spans_of_all c (begun f t) ++ spans_of_all c (later f t)) =
        subst (Chain (free_times_of f)) (ap (spans_of_all c) (begun_later f t) ∙ spans_append c (begun f t) (later f t)) booked_chain in
        let r = (chain_append (free_times_of f) (spans_of_all c (begun f t)) (spans_of_all c (later f t))).0 h in
        (r.0, subst (λ (l : List Chunk). Chain (afters (free_times_of f) l) (spans_of_all c (later f t))) (spans_chunks c (begun f t)) r.1)

    -- What begins had been booked, and starts by t.
    pub begun_jobs : All (λ (j : Job). Waiting f j × (starts_by t j ≡ true)) (begun f t)
    begun_jobs = keep_all (starts_by t) (Waiting f) (by_start (waiting_of f)) (perm_all (Waiting f) (by_start_perm (waiting_of f)) waiting_jobs)

    -- What waits on had been booked, and starts after t.
    pub later_jobs : All (λ (j : Job). Waiting f j × (starts_after t j ≡ true)) (later f t)
    later_jobs = keep_all (starts_after t) (Waiting f) (by_start (waiting_of f)) (perm_all (Waiting f) (by_start_perm (waiting_of f)) waiting_jobs)

    left_few : length (waiting_on f t) ≤ f.waiting
    left_few =
        let w = ((passes_iff f sized).0 e).within.waiting in
        omega (arith, keep_length (starts_after t) (waiting_of f), length-take-le f.waiting f.jobs (omega (arith, sized.jobs)))

    -- The waiting jobs after a move are those that it left.
    pub moved_waiting : waiting_of (moved_farm f t) ≡ waiting_on f t
    moved_waiting = queue_waits f f.used (waiting_on f t)

    -- the farm at the time of the move, what begins taken into its free times and held ticks
    abbrev timed : Farm
    timed = at_time f t (afters (free_times_of f) (issued f t)) (raised f.held (issued f t))

    few : length (waiting_on f t) ≤ 128
    few = omega (arith, left_few, ((passes_iff f sized).0 e).within.waiting)

    -- A move hands back a farm with its arrays.
    pub moved_sized : Sized (moved_farm f t)
    moved_sized =
        queue_sized timed f.used (waiting_on f t)
        (time_sized f t (afters (free_times_of f) (issued f t)) (raised f.held (issued f t)) sized (afters_length (free_times_of f) (issued f t) ∙ sized.free) (raised_length f.held (issued f t) ∙ sized.held))
        few (perm_all JobSized (later_left f t) (all_map (λ j h. h.0.sized) (later f t) later_jobs))

    later_proper : All (Proper 64) (spans_of_all f.costs (later f t))
    later_proper = spans_all (Proper 64) f.costs (later f t) (all_map (λ j h. h.0.proper) (later f t) later_jobs)

    later_sound : All (JobSound (bounds_of (moved_farm f t)) (free_times_of (moved_farm f t))) (later f t)
    later_sound =
        let b = afters (free_times_of f) (issued f t) in
        let fits = spans_each (Fits b) f.costs (later f t)
        ((chain_follows b (spans_of_all f.costs (later f t)) moved_sized.free later_proper).0 moved_chain.1).0 in
        all_both (λ j h k.
        let q = fits_behind (free_times_of (moved_farm f t)) f.costs j h.0.paired k in
        record {
          clock = omega (arith, leb-false j.booking.start t (not-true (starts_by t j) h.1));
          link = q.0;
          free = q.1;
          each = h.0.sound.each;
          all = h.0.sound.all;
          ends = h.0.sound.ends;
        }) (later f t) later_jobs fits

    -- A move hands back a farm that passes question 11, where its held ticks and free times are within their limits.
    pub moved_passes : t ≤ greatest → All (λ (x : ℕ). x ≤ most_held) (take f.shows (moved_farm f t).held) → (moved_farm f t).link ≤ greatest
        → All (λ (x : ℕ). x ≤ greatest) (take f.nodes (moved_farm f t).free) → Passes (moved_farm f t)
    moved_passes by held link free =
        let old = (passes_iff f sized).0 e in
        let w = old.within in
        let farm = moved_farm f t in
        let d = later_left f t in
        record {
          opened = old.opened;
          within = jobs_within timed f.used (length (waiting_on f t)) farm.jobs (time_within f t (afters (free_times_of f) (issued f t)) (raised f.held (issued f t)) w by link free held) w.used few;
          jobs = subst (All (JobWithin (bounds_of farm))) (sym moved_waiting) (perm_all (JobWithin (bounds_of farm)) d
              (all_map (λ j h. let x = h.0.within in record { number = x.number; show = x.show; size = x.size; compute = x.compute; deadline = x.deadline; start = x.start; count = x.count; nodes = x.nodes }) (later f t) later_jobs));
          sound = record {
            jobs = subst (All (JobSound (bounds_of farm) (free_times_of farm))) (sym moved_waiting) (perm_all (JobSound (bounds_of farm) (free_times_of farm)) d later_sound);
            apart = subst (λ (l : List Job). Pairs Apart (spans_of_all f.costs l)) (sym moved_waiting)
                (perm_pairs Apart apart_sym (spans_perm f.costs d) (chain_apart (afters (free_times_of f) (issued f t)) (spans_of_all f.costs (later f t)) moved_sized.free later_proper moved_chain.1));
            differ = subst (λ (l : List Job). Differ (map number_of_job l)) (sym moved_waiting)
                (pairs_parts (λ (a b : ℕ). a ≡ b → ⊥) (map number_of_job (begun f t)) (map number_of_job (waiting_on f t))
                (subst Differ (map_join number_of_job (begun f t) (waiting_on f t))
                (perm_pairs (λ (a b : ℕ). a ≡ b → ⊥) (λ a b n q. n (sym q)) (Permᴰ.map number_of_job (begun_left f t)) waiting_differ))).1;
          };
        }

-- ---- The number of lines

-- A waiting job has as many lines as its booking counts.
pub lines_count : (f : Farm) (j : Job) → Waiting f j → length (lines_of f.costs j) ≡ j.booking.count
lines_count f j h =
    lines_length (chunk_terms f.costs j) j.booking.start (chosen j.booking) (units j.booking) h.paired.0
    ∙ length-take-le j.booking.count j.booking.shares (omega (arith, h.sized.shares, h.within.count.1))

-- Several waiting jobs have at most 64 lines each.
pub lines_few : (f : Farm) (js : List Job) → All (Waiting f) js → length (lines_of_all f.costs js) ≤ 64 * length js
unfolding lines_of_all
lines_few f [] h = omega arith
lines_few f (j ∷ js) h =
    omega (arith, lines_few f js h.1, length-append (lines_of f.costs j) (lines_of_all f.costs js), lines_count f j h.0, h.0.within.count.1)
