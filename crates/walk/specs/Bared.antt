-- What the walk of the queue's entries is to a caller with rows of its own: the walk of the jobs that these mean, and
-- the plan, once the walk's rows are taken over.
use Rattle.std.specs.Prelude.{◌≡◌, refl, List, [], ◌∷◌, ◌++◌, map, ℕ, zero, suc, ◌+◌, get_or, take, drop}
use Rattle.std.proofs.Common.{sym, ap, ap₂, ◌∙◌, arith, take-append-drop}
use Rattle.lists.specs.Places.{each_at, each_take, each_drop}
use Rattle.lists.specs.Rows.{Alike}
use Rattle.keys.specs.declared.Key.{Key}
use Rattle.keys.specs.Model.{sort_keys}
use Rattle.walk.specs.declared.Job.{Job}
use Rattle.walk.specs.declared.QueueEntry.{QueueEntry}
use Rattle.walk.specs.declared.WalkTerms.{WalkTerms}
use Rattle.walk.specs.declared.FreeTimes.{FreeTimes}
use Rattle.walk.specs.Model.{no_job, keys_by, in_order, deadline_of, by_deadline, plan, books_all}
use Rattle.walk.specs.View.{job_at, jobs_of, bare, bared, use_of, plan_bared, books_bared, bared_jobs, alike_jobs, behind_jobs}
use Rattle.walk.specs.WalkSteps.{Planned}

-- ---- By deadline, whatever the bookings

keys_bared : (i : ℕ) (js : List Job) → keys_by deadline_of i (map bared js) ≡ keys_by deadline_of i js
unfolding keys_by
keys_bared i [] = refl
keys_bared i (j ∷ js) = ap (λ (l : List Key). record { time = j.deadline; number = j.number; place = i } ∷ l) (keys_bared (suc i) js)

get_bared : (js : List Job) (i : ℕ) → get_or (map bared js) i no_job ≡ bared (get_or js i no_job)
get_bared [] i = refl
get_bared (j ∷ js) zero = refl
get_bared (j ∷ js) (suc i) = get_bared js i

order_bared : (js : List Job) (ks : List Key) → in_order (map bared js) ks ≡ map bared (in_order js ks)
order_bared js [] = refl
order_bared js (k ∷ ks) = ap₂ ◌∷◌ (get_bared js k.place) (order_bared js ks)

-- Jobs with their bookings left out are in the same order.
pub deadline_bared : (js : List Job) → by_deadline (map bared js) ≡ map bared (by_deadline js)
deadline_bared js = ap (λ (l : List Key). in_order (map bared js) (sort_keys l)) (keys_bared 0 js) ∙ order_bared js (sort_keys (keys_by deadline_of 0 js))

-- ---- The walk of the jobs that entries and rows mean

-- The first n entries are the first n jobs with their bookings left out.
pub entries_bared : (ks xs : List ℕ) (n : ℕ) (hs : List QueueEntry) → map bared (take n (jobs_of ks xs hs)) ≡ map bare (take n hs)
entries_bared ks xs n hs = ap (map bared) (each_take (job_at ks xs) 0 n hs) ∙ bared_jobs ks xs 0 (take n hs)

-- The walk of jobs is that of the jobs with their bookings left out.
pub plan_by_bared : (w : WalkTerms) (b : FreeTimes) (js : List Job) → plan w b (by_deadline js) ≡ plan w b (by_deadline (map bared js))
plan_by_bared w b js = sym (plan_bared w b (by_deadline js)) ∙ ap (plan w b) (sym (deadline_bared js))

pub books_by_bared : (w : WalkTerms) (b : FreeTimes) (js : List Job) → books_all w b (by_deadline js) ≡ books_all w b (by_deadline (map bared js))
books_by_bared w b js = sym (books_bared w b (by_deadline js)) ∙ ap (books_all w b) (sym (deadline_bared js))

-- ---- The walk's rows taken over

-- The entries that a walk hands back, with the rows taken over, are the plan, and behind it the jobs that were there.
pub taken_plan : (w : WalkTerms) (b : FreeTimes) (jobs : List QueueEntry) (n : ℕ) (plans : List QueueEntry) (tks txs ks xs ks' xs' : List ℕ) → Planned w b jobs n tks txs plans
    → Alike 64 (use_of plans) n ks tks ks' → Alike 64 (use_of plans) n xs txs xs'
    → jobs_of ks' xs' plans ≡ plan w b (by_deadline (map bare (take n jobs))) ++ drop n (jobs_of ks xs jobs)
taken_plan w b jobs n plans tks txs ks xs ks' xs' v s t =
    let front : take n (jobs_of ks' xs' plans) ≡ plan w b (by_deadline (map bare (take n jobs))) = alike_jobs plans n ks xs tks txs ks' xs' s t ∙ v.jobs_are in
    let back : drop n (jobs_of ks' xs' plans) ≡ drop n (jobs_of ks xs jobs) =
    each_drop (job_at ks' xs') 0 n plans
    ∙ behind_jobs ks xs ks' xs' (0 + n) (drop n plans) (λ j k. s.behind j (omega arith)) (λ j k. t.behind j (omega arith))
    ∙ ap (each_at (job_at ks xs) (0 + n)) v.rest
    ∙ sym (each_drop (job_at ks xs) 0 n jobs) in
    sym (take-append-drop n (jobs_of ks' xs' plans)) ∙ ap₂ ◌++◌ front back
