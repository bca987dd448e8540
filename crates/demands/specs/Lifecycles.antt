-- What becomes of each accepted job: it waits until a granted withdrawal of it, and no chunk of it is ever issued; or until the first granted clock move that
-- reaches the start it has then, which issues all its chunks, each once; no later call issues one.
use Rattle.std.specs.Prelude.{◌≡◌, refl, Bool, true, false, cond, ℕ, ◌+◌, ◌≤◌, eqb, length, get_or}
use Rattle.std.proofs.Common.{ap, ap₂, sym, subst, ◌∙◌, ⊎_elim, arith, leb-true, leb-false, eq-eqb, ne_eqb}
use mathlib.Core.List.Permᴰ
use mathlib.Core.List.{List, [], ◌∷◌, ◌++◌, map, append-nil, Memᴰ}
use Rattle.std.proofs.lemmas.Bool.{not-true}
use Rattle.lists.specs.Laws.{All, Differ, all_map, all_of, at_member, all_image, image_all, all_append, all_join, pairs_across, mem_left, mem_right, map_join, perm_all, perm_mem, perm_pairs, pairs_parts}
use Rattle.limits.specs.declared.FarmCosts.{FarmCosts}
use Rattle.shares.specs.Model.{sum, send_end, chunk_finish}
use Rattle.booking.specs.Best.{chosen, units}
use Rattle.walk.specs.declared.Job.{Job}
use Rattle.walk.specs.declared.Chunk.{Chunk}
use Rattle.answers.specs.declared.Offer.{Offer}
use Rattle.walk.specs.declared.ChunkTerms.{ChunkTerms}
use Rattle.walk.specs.Model.{chunk_terms, chunk_on}
use Rattle.planner.specs.Model.{Farm, own_costs, Span, chunks_from, lines_of, spans_of_all, Sized, waiting_of, free_times_of, walk_terms_of, by_deadline, plan}
use Rattle.planner.specs.Passes.{passes_of}
use Rattle.walk.specs.Chain.{chunks_finish}
use Rattle.walk.specs.Chunks.{lines_each}
use Rattle.walk.specs.EndOfComputing.{job_computes}
use Rattle.soundness.specs.Sweep.{spans_all}
use Rattle.planner.specs.Calls.{has_number, of_number, without, new_job, planned, with_plan, withdrawn_farm}
use Rattle.planner.specs.Changes.{with_queue, queue_waits}
use Rattle.demands.specs.WalkPasses.{plan_queue_numbers}
use Rattle.planner.specs.Clock.{starts_by, starts_after, lines_of_all, begun, waiting_on, issued, moved_farm}
use Rattle.demands.specs.CallLists.{Call, Accepted, Noted, withdrawing, moving, handed, noted, History, note, lines_for, units_in, accepted_of, Fulfils, Waits, NoneOf, IssuesNone, Lifecycle, waits, passes, begins, withdrawn}
use Rattle.lists.specs.Keep.{keep_all}
use Rattle.demands.specs.BegunJobs.{begun_left, lines_all}
use Rattle.queue.specs.Numbers.{number_of_job, of_number_is, of_number_has}
use Rattle.demands.specs.WithdrawPasses.{leaves_others, withdrawn_waiting, others_differ}
use Rattle.demands.specs.MovePasses.{Waiting, waiting_jobs, waiting_differ, begun_jobs, moved_waiting}
use Rattle.demands.specs.Outcome.{Leaves, Outcome, stays, takes, leaves, moves, outcome, job_named}
use Rattle.demands.specs.Invariant.{Whole, Inv, waiting_whole, queue_accepted, note_inv}

-- ---- Membership

-- one of the list with this image
pub record From {A B : Type 0} (f : A → B) (xs : List A) (y : B) : Type 0 where
  pub it : A
  pub among : Memᴰ it xs
  pub image : f it ≡ y

-- A member of the images is the image of a member.
pub from_image : {A B : Type 0} (f : A → B) (xs : List A) {y : B} → Memᴰ y (map f xs) → From f xs y
from_image f [] m = absurd (mathlib.Core.List.Memᴰ.not-nil m)
from_image f (x ∷ xs) m = ⊎_elim (λ e. record { it = x; among = mathlib.Core.List.Memᴰ.head refl; image = sym e }) (λ n. let r = from_image f xs n in record { it = r.it; among = mathlib.Core.List.Memᴰ.tail r.among; image = r.image }) (mathlib.Core.List.Memᴰ.cases_cons m)

-- ---- The chunks of a job

-- A job's chunks name it.
pub lines_named : (c : FarmCosts) (j : Job) → All (λ (y : Chunk). y.job ≡ j.number) (lines_of c j)
lines_named c j = all_map (λ x h. h.0) (lines_of c j) (job_named c j)

-- Jobs of other numbers have no chunk of job n.
pub none_of_jobs : (c : FarmCosts) (n : ℕ) (js : List Job) → All (λ (j : Job). j.number ≡ n → ⊥) js → NoneOf n (lines_of_all c js)
none_of_jobs c n js h = lines_all (λ (y : Chunk). y.job ≡ n → ⊥) c js (all_map (λ j k. all_map (λ y e q. k (sym e ∙ q)) (lines_of c j) (lines_named c j)) js h)

-- Where no chunk is of job n, it has none.
pub lines_none : (n : ℕ) (xs : List Chunk) → NoneOf n xs → lines_for n xs ≡ []
unfolding lines_for
lines_none n [] h = refl
lines_none n (x ∷ xs) h = rw (ne_eqb x.job n h.0) (lines_none n xs h.1)

lines_every : (n : ℕ) (xs : List Chunk) → All (λ (y : Chunk). y.job ≡ n) xs → lines_for n xs ≡ xs
unfolding lines_for
lines_every n [] h = refl
lines_every n (x ∷ xs) h = rw (eq-eqb x.job n h.0) (ap (λ (l : List Chunk). x ∷ l) (lines_every n xs h.1))

-- A job's chunks in two lists are those in the one, then those in the other.
pub lines_append : (n : ℕ) (xs ys : List Chunk) → lines_for n (xs ++ ys) ≡ lines_for n xs ++ lines_for n ys
unfolding lines_for
lines_append n [] ys = refl
lines_append n (x ∷ xs) ys = go (eqb x.job n) (lines_append n xs ys)
  where
    go : (b : Bool) → lines_for n (xs ++ ys) ≡ lines_for n xs ++ lines_for n ys
        → cond b (x ∷ lines_for n (xs ++ ys)) (lines_for n (xs ++ ys)) ≡ cond b (x ∷ lines_for n xs) (lines_for n xs) ++ lines_for n ys
    go true e = ap (λ (l : List Chunk). x ∷ l) e
    go false e = e

-- Of jobs with different numbers, the chunks of one are its own, each once.
pub lines_own : (c : FarmCosts) (js : List Job) (j : Job) → Differ (map number_of_job js) → Memᴰ j js → lines_for j.number (lines_of_all c js) ≡ lines_of c j
unfolding lines_of_all
lines_own c [] j d m = absurd (mathlib.Core.List.Memᴰ.not-nil m)
lines_own c (i ∷ js) j d m = lines_append j.number (lines_of c i) (lines_of_all c js) ∙ ⊎_elim here (λ n. there n (lines_own c js j d.1 n)) (mathlib.Core.List.Memᴰ.cases_cons m)
  where
    others : All (λ (x : Job). i.number ≡ x.number → ⊥) js
    others = image_all (λ (y : ℕ). i.number ≡ y → ⊥) number_of_job js d.0

    here : j ≡ i → lines_for j.number (lines_of c i) ++ lines_for j.number (lines_of_all c js) ≡ lines_of c j
    here e =
        subst (λ (x : Job). lines_for x.number (lines_of c i) ++ lines_for x.number (lines_of_all c js) ≡ lines_of c x) (sym e)
        (ap₂ ◌++◌ (lines_every i.number (lines_of c i) (lines_named c i)) (lines_none i.number (lines_of_all c js) (none_of_jobs c i.number js (all_map (λ x k q. k (sym q)) js others)))
        ∙ append-nil (lines_of c i))

    there : Memᴰ j js → lines_for j.number (lines_of_all c js) ≡ lines_of c j → lines_for j.number (lines_of c i) ++ lines_for j.number (lines_of_all c js) ≡ lines_of c j
    there n r =
        let k : i.number ≡ j.number → ⊥ = at_member (λ (x : Job). i.number ≡ x.number → ⊥) n others in
        ap₂ ◌++◌ (lines_none j.number (lines_of c i) (all_map (λ y e q. k (sym e ∙ q)) (lines_of c i) (lines_named c i))) r

-- Of jobs with different numbers, the spans of one begin at its start.
pub spans_start : (c : FarmCosts) (js : List Job) (j : Job) → Differ (map number_of_job js) → Memᴰ j js
    → All (λ (y : Span). y.chunk.job ≡ j.number → y.from ≡ j.booking.start) (spans_of_all c js)
spans_start c js j d m =
    let P : Span → Type 0 = λ (y : Span). y.chunk.job ≡ j.number → y.from ≡ j.booking.start in
    spans_all P c js (all_of js (λ i n.
    all_image P (λ (x : Chunk). record { from = i.booking.start; chunk = x }) (lines_of c i)
    (all_map (λ x e q. ap (λ (k : Job). k.booking.start) (sym (of_number_is js i d n) ∙ ap (λ (a : ℕ). of_number a js) (sym e ∙ q) ∙ of_number_is js j d m)) (lines_of c i) (lines_named c i))))

-- A job's chunks have as many units as its shares.
chunks_units : (w : ChunkTerms) (t : ℕ) (ks xs : List ℕ) → length ks ≡ length xs → units_in (chunks_from w t ks xs) ≡ sum xs
unfolding chunks_from units_in sum
chunks_units w t [] [] e = refl
chunks_units w t [] (a ∷ xs) e = absurd (omega arith)
chunks_units w t (k ∷ ks) [] e = absurd (omega arith)
chunks_units w t (k ∷ ks) (a ∷ xs) e = ap (λ (n : ℕ). a + n) (chunks_units w (chunk_on w t k a).sent ks xs (omega arith))

-- The chunks of a whole job do what it was accepted for.
pub whole_fulfils : (c : FarmCosts) (n : ℕ) (j : Job) → Whole c n j → Fulfils c (accepted_of j) (lines_of c j)
whole_fulfils c n j h =
    let s = j.booking.start in
    let ks = chosen j.booking in
    let xs = units j.booking in
    let own = own_costs c j in
    let Some : ℕ → Type 0 = λ (a : ℕ). 1 ≤ a in
    record {
      named = job_named c j;
      each = lines_each (λ (y : Chunk). 1 ≤ y.units) Some c j (λ t k a l. l) h.each;
      all = chunks_units (chunk_terms c j) s ks xs h.paired.0 ∙ h.all;
      sent = lines_each (λ (y : Chunk). y.sent ≡ send_end own y.start y.units) Some c j (λ t k a l. refl) h.each;
      finish = lines_each (λ (y : Chunk). y.finish ≡ chunk_finish own y.start y.units) Some c j (λ t k a l. refl) h.each;
      computed = job_computes c j h.compute h.each;
      ends = all_map (λ x k. omega (arith, h.ends)) (lines_of c j) (chunks_finish s (lines_of c j));
    }

-- ---- A job that waits

-- A waiting job that was accepted as x waits as x.
abbrev pub waits_as : (f : Farm) (j : Job) (x : Accepted) → Sized f → passes_of f ≡ true → Memᴰ j (waiting_of f) → accepted_of j ≡ x → Waits x f
waits_as f j x z e m q = record {
  job = j;
  among = m;
  same = q;
  booked = subst (λ (y : Accepted). Fulfils f.costs y (lines_of f.costs j)) q (whole_fulfils f.costs f.shows j (waiting_whole f j (at_member (Waiting f) m (waiting_jobs f z e))));
}

-- A job of this number has begun or was withdrawn: its number is among those used, and no waiting job has it.
pub record NoLongerWaits (n : ℕ) (f : Farm) : Type 0 where
  pub used : n ≤ f.used
  pub none : All (λ (j : Job). j.number ≡ n → ⊥) (waiting_of f)

-- the numbers of the jobs that begin differ from those that wait on
begun_differ : (f : Farm) (t : ℕ) → Sized f → passes_of f ≡ true → Differ (map number_of_job (begun f t ++ waiting_on f t))
begun_differ f t z e = perm_pairs (λ (a b : ℕ). a ≡ b → ⊥) (λ a b n q. n (sym q)) (Permᴰ.map number_of_job (begun_left f t)) (waiting_differ f z e)

-- what the numbers of two groups of jobs tell
module _ (xs ys : List Job) (d : Differ (map number_of_job (xs ++ ys))) where
  joined : Differ (map number_of_job xs ++ map number_of_job ys)
  joined = subst Differ (map_join number_of_job xs ys) d

  -- The first group has different numbers.
  pub front_differ : Differ (map number_of_job xs)
  front_differ = (pairs_parts (λ (a b : ℕ). a ≡ b → ⊥) (map number_of_job xs) (map number_of_job ys) joined).0

  across : All (λ (i : Job). All (λ (j : Job). i.number ≡ j.number → ⊥) ys) xs
  across =
      all_map (λ i h. image_all (λ (b : ℕ). i.number ≡ b → ⊥) number_of_job ys h) xs
      (image_all (λ (a : ℕ). All (λ (b : ℕ). a ≡ b → ⊥) (map number_of_job ys)) number_of_job xs (pairs_across (λ (a b : ℕ). a ≡ b → ⊥) (map number_of_job xs) (map number_of_job ys) joined))

  -- No job of the second group has the number of one of the first.
  pub none_behind : (j : Job) → Memᴰ j xs → All (λ (i : Job). i.number ≡ j.number → ⊥) ys
  none_behind j m = all_map (λ i h q. h (sym q)) ys (at_member (λ (i : Job). All (λ (j : Job). i.number ≡ j.number → ⊥) ys) m across)

  -- Nor has one of the first that of one of the second.
  pub none_before : (j : Job) → Memᴰ j ys → All (λ (i : Job). i.number ≡ j.number → ⊥) xs
  none_before j m = all_map (λ i h. at_member (λ (k : Job). i.number ≡ k.number → ⊥) m h) xs across

-- ---- A job that waits no longer

module _ (n : ℕ) (f : Farm) (z : Sized f) (e : passes_of f ≡ true) where
  -- Nor does it wait after a walk of any queue that has no job of its number,
  no_longer_walks : (u : ℕ) (js : List Job) → n ≤ u → All (λ (j : Job). j.number ≡ n → ⊥) js → NoLongerWaits n (with_queue f u (plan (walk_terms_of f) (free_times_of f) (by_deadline js)))
  no_longer_walks u js h none = record {
    used = h;
    none = subst (All (λ (j : Job). j.number ≡ n → ⊥)) (sym (queue_waits f u (plan (walk_terms_of f) (free_times_of f) (by_deadline js)))) (plan_queue_numbers (λ (a : ℕ). a ≡ n → ⊥) (walk_terms_of f) (free_times_of f) js none);
  }

  -- as that of an offer has none.
  no_longer_takes : (o : Offer) → NoLongerWaits n f → NoLongerWaits n (with_plan f (planned f o))
  no_longer_takes o g =
      no_longer_walks (f.used + 1) (waiting_of f ++ new_job f o ∷ []) (omega (arith, g.used))
      (all_join (λ (j : Job). j.number ≡ n → ⊥) (waiting_of f) (new_job f o ∷ []) g.none ((λ q. omega (arith, g.used)), tt))

  no_longer_leaves : (k : ℕ) → NoLongerWaits n f → Leaves f k → NoLongerWaits n (withdrawn_farm f k)
  no_longer_leaves k g l =
      let P : Job → Type 0 = λ (j : Job). j.number ≡ n → ⊥ in
      record { used = g.used; none = subst (All P) (sym (withdrawn_waiting f k z e l.has)) (perm_all P (leaves_others f k z e l.has) g.none).1 }

  no_longer_moves : (t : ℕ) → NoLongerWaits n f → NoneOf n (issued f t) × NoLongerWaits n (moved_farm f t)
  no_longer_moves t g =
      let P : Job → Type 0 = λ (j : Job). j.number ≡ n → ⊥ in
      let both = all_append P (begun f t) (waiting_on f t) (perm_all P (begun_left f t) g.none) in (
        none_of_jobs f.costs n (begun f t) both.0,
        record { used = g.used; none = subst (All P) (sym (moved_waiting f z e t)) both.1 },
      )

  -- A call issues no chunk of a job that no longer waits before it, and the job does not wait after it either.
  no_longer_stays : (c : Call) → NoLongerWaits n f → NoneOf n (noted f c).lines × NoLongerWaits n (handed f c)
  no_longer_stays c g = go (outcome f c)
    where
      both : {h : Farm} {k : Noted} → handed f c ≡ h → noted f c ≡ k → NoneOf n k.lines → NoLongerWaits n h
          → NoneOf n (noted f c).lines × NoLongerWaits n (handed f c)
      both p q x y = (subst (λ (k : Noted). NoneOf n k.lines) (sym q) x, subst (NoLongerWaits n) (sym p) y)

      go : Outcome f c → NoneOf n (noted f c).lines × NoLongerWaits n (handed f c)
      go (stays p q) = both p q tt g
      go (takes o e k p q) = both p q tt (no_longer_takes o g)
      go (leaves i k p q) = both p q tt (no_longer_leaves i g k)
      go (moves t i k p q) = let r = no_longer_moves t g in both p q r.0 r.1

-- No call after it issues a chunk of a job that no longer waits.
pub issues_no_more : (n : ℕ) (w : History) (cs : List Call) → Inv w → NoLongerWaits n w.farm → IssuesNone n w.farm cs
issues_no_more n w [] i g = tt
issues_no_more n w (c ∷ cs) i g =
    let r = no_longer_stays n w.farm i.sized i.passes c g in
    (r.0, issues_no_more n (note w c) cs (note_inv w c i) r.1)

-- A job that begins by a move has begun after it.
pub begun_no_longer_waits : (f : Farm) (t : ℕ) (j : Job) → Sized f → passes_of f ≡ true → Memᴰ j (begun f t) → NoLongerWaits j.number (moved_farm f t)
begun_no_longer_waits f t j z e m = record {
  used = (at_member (λ (i : Job). Waiting f i × (starts_by t i ≡ true)) m (begun_jobs f z e t)).0.within.number.1;
  none = subst (All (λ (i : Job). i.number ≡ j.number → ⊥)) (sym (moved_waiting f z e t)) (none_behind (begun f t) (waiting_on f t) (begun_differ f t z e) j m);
}

-- So it is of a job that is withdrawn.
pub withdrawn_no_longer_waits : (f : Farm) (n : ℕ) → Sized f → passes_of f ≡ true → has_number n (waiting_of f) ≡ true → NoLongerWaits n (withdrawn_farm f n)
withdrawn_no_longer_waits f n z e h = record {
  used = subst (λ (k : ℕ). k ≤ f.used) (of_number_has n (waiting_of f) h) (perm_all (Waiting f) (leaves_others f n z e h) (waiting_jobs f z e)).0.within.number.1;
  none = subst (All (λ (j : Job). j.number ≡ n → ⊥)) (sym (withdrawn_waiting f n z e h)) (others_differ f n z e h);
}

-- ---- The lifecycle

-- accepted as x, it waits
abbrev pub Among : Accepted → Farm → Type 0
Among x f = Memᴰ x (map accepted_of (waiting_of f))

among_waits : (x : Accepted) (f : Farm) → Sized f → passes_of f ≡ true → Among x f → Waits x f
among_waits x f z e m = let r = from_image accepted_of (waiting_of f) m in waits_as f r.it x z e r.among r.image

-- A job of any queue that is walked waits after it, as it was accepted,
pub among_walks : (x : Accepted) (f : Farm) (u : ℕ) (js : List Job) → Memᴰ x (map accepted_of js) → Among x (with_queue f u (plan (walk_terms_of f) (free_times_of f) (by_deadline js)))
among_walks x f u js m =
    subst (λ (l : List Job). Memᴰ x (map accepted_of l)) (sym (queue_waits f u (plan (walk_terms_of f) (free_times_of f) (by_deadline js)))) (perm_mem (queue_accepted (walk_terms_of f) (free_times_of f) js) m)

-- so that an accepted job waits on over an offer.
among_takes : (x : Accepted) (f : Farm) (o : Offer) → Among x f → Among x (with_plan f (planned f o))
among_takes x f o m =
    let new = new_job f o ∷ [] in
    among_walks x f (f.used + 1) (waiting_of f ++ new) (subst (Memᴰ x) (sym (map_join accepted_of (waiting_of f) new)) (mem_left (map accepted_of new) m))

-- nothing is not something
none_some : {A : Type 0} (x : A) {xs : List A} → xs ≡ [] → xs ≡ x ∷ [] → ⊥
none_some x e h = let n : ◌≡◌ {A = ℕ} 0 1 = ap length (sym e ∙ h) in omega arith

-- lists of one are the same where it is
one_same : {a b : ℕ} → ◌≡◌ {A = List ℕ} (a ∷ []) (b ∷ []) → a ≡ b
one_same e = ap (λ (l : List ℕ). get_or l 0 0) e

module _ (x : Accepted) (w : History) (c : Call) (cs : List Call) (i : Inv w) where
  -- the rest of the job's life, where it waits after the call
  abbrev Rest : Type 0
  Rest = Among x (handed w.farm c) → Lifecycle x (handed w.farm c) cs

  -- the job waits on over a call that moves no clock, withdraws no job and issues no chunk
  lifecycle_on : {g : Farm} {k : Noted} → handed w.farm c ≡ g → noted w.farm c ≡ k → k.times ≡ [] → k.gone ≡ []
      → k.lines ≡ [] → Among x w.farm → Among x g → Rest
      → Lifecycle x w.farm (c ∷ cs)
  lifecycle_on h q t g l m n rest =
      passes {c = c} (among_waits x w.farm i.sized i.passes m) (λ r. none_some r.time (ap (λ (y : Noted). y.times) q ∙ t) r.moves)
      (λ r. none_some x.number (ap (λ (y : Noted). y.gone) q ∙ g) r) (subst (NoneOf x.number) (sym (ap (λ (y : Noted). y.lines) q ∙ l)) tt) (rest (subst (Among x) (sym h) n))

  module _ (t : ℕ) (h : handed w.farm c ≡ moved_farm w.farm t) (q : noted w.farm c ≡ moving t (issued w.farm t)) where
    lines_are : (noted w.farm c).lines ≡ issued w.farm t
    lines_are = ap (λ (y : Noted). y.lines) q

    -- the job begins by this move
    lifecycle_begins : Memᴰ x (map accepted_of (begun w.farm t)) → Lifecycle x w.farm (c ∷ cs)
    lifecycle_begins m =
        let f = w.farm in
        let r = from_image accepted_of (begun f t) m in
        let j = r.it in
        let n : j.number ≡ x.number = ap (λ (y : Accepted). y.number) r.image in
        let in' : Memᴰ j (waiting_of f) = perm_mem (Permᴰ.symm (begun_left f t)) (mem_left (waiting_on f t) r.among) in
        let by = (at_member (λ (b : Job). Waiting f b × (starts_by t b ≡ true)) r.among (begun_jobs f i.sized i.passes t)).1 in
        let own = lines_own f.costs (begun f t) j (front_differ (begun f t) (waiting_on f t) (begun_differ f t i.sized i.passes)) r.among in
        begins {c = c} (waits_as f j x i.sized i.passes in' r.image) (record { time = t; moves = ap (λ (y : Noted). y.times) q; start = leb-true j.booking.start t by })
        (ap (lines_for x.number) lines_are ∙ ap (λ (a : ℕ). lines_for a (issued f t)) (sym n) ∙ own)
        (issues_no_more x.number (note w c) cs (note_inv w c i)
        (subst (λ (a : ℕ). NoLongerWaits a (handed f c)) n (subst (NoLongerWaits j.number) (sym h) (begun_no_longer_waits f t j i.sized i.passes r.among))))

    -- the job waits on over this move
    lifecycle_passes : Memᴰ x (map accepted_of (waiting_on w.farm t)) → Rest → Lifecycle x w.farm (c ∷ cs)
    lifecycle_passes m rest =
        let f = w.farm in
        let r = from_image accepted_of (waiting_on f t) m in
        let j = r.it in
        let n : j.number ≡ x.number = ap (λ (y : Accepted). y.number) r.image in
        let in' : Memᴰ j (waiting_of f) = perm_mem (Permᴰ.symm (begun_left f t)) (mem_right (begun f t) r.among) in
        let late = (at_member (λ (b : Job). Waiting f b × (starts_after t b ≡ true)) r.among (keep_all (starts_after t) (Waiting f) (waiting_of f) (waiting_jobs f i.sized i.passes))).1 in
        let none : NoneOf j.number (issued f t) =
        none_of_jobs f.costs j.number (begun f t) (none_before (begun f t) (waiting_on f t) (begun_differ f t i.sized i.passes) j r.among) in
        passes {c = c} (waits_as f j x i.sized i.passes in' r.image)
        (λ u. let same : t ≡ u.time = one_same (sym (ap (λ (y : Noted). y.times) q) ∙ u.moves) in omega (arith, u.start, leb-false j.booking.start t (not-true (starts_by t j) late)))
        (λ u. none_some x.number (ap (λ (y : Noted). y.gone) q) u)
        (subst (λ (a : ℕ). NoneOf a (noted f c).lines) n (subst (NoneOf j.number) (sym lines_are) none))
        (rest (subst (Among x) (sym h) (subst (λ (l : List Job). Memᴰ x (map accepted_of l)) (sym (moved_waiting f i.sized i.passes t)) m)))

  module _ (n : ℕ) (k : Leaves w.farm n) (h : handed w.farm c ≡ withdrawn_farm w.farm n) (q : noted w.farm c ≡ withdrawing n) where
    no_lines : NoneOf x.number (noted w.farm c).lines
    no_lines = subst (NoneOf x.number) (sym (ap (λ (y : Noted). y.lines) q)) tt

    -- the job leaves by this withdrawal
    lifecycle_withdrawn : x ≡ accepted_of (of_number n (waiting_of w.farm)) → Lifecycle x w.farm (c ∷ cs)
    lifecycle_withdrawn e =
        let f = w.farm in
        let in' : Memᴰ (of_number n (waiting_of f)) (waiting_of f) = perm_mem (Permᴰ.symm (leaves_others f n i.sized i.passes k.has)) (mathlib.Core.List.Memᴰ.head refl) in
        let same : n ≡ x.number = sym (ap (λ (y : Accepted). y.number) e ∙ of_number_has n (waiting_of f) k.has) in
        withdrawn {c = c} (waits_as f (of_number n (waiting_of f)) x i.sized i.passes in' (sym e)) (ap (λ (y : Noted). y.gone) q ∙ ap (λ (a : ℕ). a ∷ []) same) no_lines
        (issues_no_more x.number (note w c) cs (note_inv w c i)
        (subst (λ (a : ℕ). NoLongerWaits a (handed f c)) same (subst (NoLongerWaits n) (sym h) (withdrawn_no_longer_waits f n i.sized i.passes k.has))))

    -- the job waits on over this withdrawal
    lifecycle_stays : Memᴰ x (map accepted_of (without n (waiting_of w.farm))) → Waits x w.farm → Rest
        → Lifecycle x w.farm (c ∷ cs)
    lifecycle_stays m here rest =
        let f = w.farm in
        let other : x.number ≡ n → ⊥ =
        at_member (λ (y : Accepted). y.number ≡ n → ⊥) m (all_image (λ (y : Accepted). y.number ≡ n → ⊥) accepted_of (without n (waiting_of f)) (others_differ f n i.sized i.passes k.has)) in
        passes {c = c} here (λ r. none_some r.time (ap (λ (y : Noted). y.times) q) r.moves) (λ r. other (sym (one_same (sym (ap (λ (y : Noted). y.gone) q) ∙ r)))) no_lines
        (rest (subst (Among x) (sym h) (subst (λ (js : List Job). Memᴰ x (map accepted_of js)) (sym (withdrawn_waiting f n i.sized i.passes k.has)) m)))

  -- over any call
  lifecycle_step : Among x w.farm → Rest → Outcome w.farm c → Lifecycle x w.farm (c ∷ cs)
  lifecycle_step m rest (stays h q) = lifecycle_on h q refl refl refl m m rest
  lifecycle_step m rest (takes o e k h q) = lifecycle_on h q refl refl refl m (among_takes x w.farm o m) rest
  lifecycle_step m rest (leaves n k h q) =
      ⊎_elim (λ e. lifecycle_withdrawn n k h q e) (λ l. lifecycle_stays n k h q l (among_waits x w.farm i.sized i.passes m) rest)
      (mathlib.Core.List.Memᴰ.cases_cons (perm_mem (Permᴰ.map accepted_of (leaves_others w.farm n i.sized i.passes k.has)) m))
  lifecycle_step m rest (moves t n k h q) =
      ⊎_elim (λ l. lifecycle_begins t h q l) (λ l. lifecycle_passes t h q l rest)
      (mathlib.Core.List.Memᴰ.append_cases (map accepted_of (begun w.farm t))
      (subst (Memᴰ x) (map_join accepted_of (begun w.farm t) (waiting_on w.farm t)) (perm_mem (Permᴰ.map accepted_of (begun_left w.farm t)) m)))

-- Each job that waits is withdrawn, or issued by the first granted clock move to reach the start it has then, and never again.
pub lifecycle : (x : Accepted) (w : History) (cs : List Call) → Inv w → Among x w.farm → Lifecycle x w.farm cs
lifecycle x w [] i m = waits (among_waits x w.farm i.sized i.passes m)
lifecycle x w (c ∷ cs) i m =
    lifecycle_step x w c cs i m (λ h. lifecycle x (note w c) cs (note_inv w c i) h) (outcome w.farm c)
