-- Where a number stands among the queue's entries, and so among the jobs that they mean.
use Rattle.std.specs.Prelude.{◌≡◌, refl, List, [], ◌∷◌, ◌++◌, Bool, true, false, cond, not, ◌==◌, ℕ, suc, ◌+◌, ◌≤◌, ◌<◌, ltb, eqb, length, take, drop, Option, Some, None, MatchOption, position}
use Rattle.std.specs.List.{position_or_len}
use Rattle.std.proofs.Common.{ap, subst, arith, ltb-true}
use Rattle.std.proofs.lemmas.Bool.{ltb-false}
use Rattle.lists.specs.Places.{each_at, each_length, each_take}
use Rattle.walk.specs.declared.Job.{Job}
use Rattle.walk.specs.declared.QueueEntry.{QueueEntry}
use Rattle.walk.specs.View.{job_at, jobs_of}
use Rattle.queue.specs.Model.{has_number, without}
use Rattle.queue.specs.Steps.{place_of, has_place}

-- A number that has a place is one of theirs.
pub place_has : (n : ℕ) (js : List Job) → place_of n js < length js → has_number n js ≡ true
unfolding place_of has_number
place_has n [] h = absurd (omega arith)
place_has n (j ∷ js) h = go (eqb j.number n) h (place_has n js)
  where
    go : (b : Bool) → cond b 0 (suc (place_of n js)) < suc (length js) → (place_of n js < length js → has_number n js ≡ true) → cond b true (has_number n js) ≡ true
    go true h r = refl
    go false h r = r (omega (arith, h))

-- The jobs without the one at that place.
pub without_at : (n : ℕ) (js : List Job) → place_of n js < length js → without n js ≡ take (place_of n js) js ++ drop (suc (place_of n js)) js
unfolding place_of without
without_at n [] h = absurd (omega arith)
without_at n (j ∷ js) h = go (eqb j.number n) h (without_at n js)
  where
    go : (b : Bool) → cond b 0 (suc (place_of n js)) < suc (length js) → (place_of n js < length js → without n js ≡ take (place_of n js) js ++ drop (suc (place_of n js)) js)
        → cond b js (j ∷ without n js) ≡ take (cond b 0 (suc (place_of n js))) (j ∷ js) ++ drop (suc (cond b 0 (suc (place_of n js)))) (j ∷ js)
    go true h r = refl
    go false h r = ap (λ (l : List Job). j ∷ l) (r (omega (arith, h)))

module _ (n : ℕ) (ks xs : List ℕ) where
  abbrev its : QueueEntry → Bool
  its h = h.number == n

  place_same : (a : ℕ) (hs : List QueueEntry) → place_of n (each_at (job_at ks xs) a hs) ≡ position_or_len its hs
  unfolding place_of each_at
  place_same a [] = refl
  place_same a (h ∷ hs) = go (eqb h.number n) (place_same (suc a) hs)
    where
      go : (b : Bool) → place_of n (each_at (job_at ks xs) (suc a) hs) ≡ position_or_len its hs
          → cond b 0 (suc (place_of n (each_at (job_at ks xs) (suc a) hs))) ≡ cond (not b) (1 + position_or_len its hs) 0
      go true e = refl
      go false e = omega (arith, e)

  -- A search among the first entries ends at the number's place among the jobs, or the number is none of theirs.
  pub searched : (w : ℕ) (hs : List QueueEntry) (o : Option ℕ) → position its (take w hs) ≡ o
      → MatchOption o (has_number n (take w (jobs_of ks xs hs)) ≡ false) (λ p. (p < length (take w (jobs_of ks xs hs))) × (place_of n (take w (jobs_of ks xs hs)) ≡ p))
  searched w hs o e = rw (each_take (job_at ks xs) 0 w hs) (go (ltb (position_or_len its (take w hs)) (length (take w hs))) refl o e)
    where
      js : List Job
      js = each_at (job_at ks xs) 0 (take w hs)

      Ends : Option ℕ → Type 0
      Ends s = MatchOption s (has_number n js ≡ false) (λ p. (p < length js) × (place_of n js ≡ p))

      place : place_of n js ≡ position_or_len its (take w hs)
      place = place_same 0 (take w hs)

      long : length js ≡ length (take w hs)
      long = each_length (job_at ks xs) 0 (take w hs)

      none : length (take w hs) ≤ position_or_len its (take w hs) → (b : Bool) → has_number n js ≡ b → has_number n js ≡ false
      none l true q = absurd (omega (arith, has_place n js q, place, long))
      none l false q = q

      go : (b : Bool) → ltb (position_or_len its (take w hs)) (length (take w hs)) ≡ b → (s : Option ℕ) → cond b (Some (position_or_len its (take w hs))) None ≡ s → Ends s
      go true l s q = subst Ends q (omega (arith, ltb-true _ _ l, long), place)
      go false l s q = subst Ends q (none (ltb-false _ _ l) (has_number n js) refl)
