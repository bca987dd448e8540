-- A number's place among jobs, and an array of jobs without the one of a number, place by place.
use Rattle.std.specs.Prelude.{◌≡◌, refl, List, [], ◌∷◌, ◌++◌, Bool, true, false, cond, ℕ, suc, ◌+◌, ◌≤◌, ◌<◌, eqb, length, get_or, take, drop, set}
use Rattle.std.proofs.Common.{ap, sym, subst, ◌∙◌, arith, add-one}
use Rattle.std.proofs.lemmas.Bool.{false≢true}
use Rattle.std.proofs.Math.Decide.{dec_lt}
use borrow.Author.Tests.{eq-eqb, ne_eqb}
use Rattle.lists.specs.Laws.{front_next, front_none}
use Rattle.lists.specs.Fronts.{Kept, behind_same, kept_same, kept_more, kept_all_lem}
use Rattle.walk.specs.declared.Job.{Job}
use Rattle.walk.specs.Model.{no_job}
use Rattle.queue.specs.Model.{has_number, of_number, without}

-- the place of the first of these jobs that has the number; their count where none has
unfoldable pub place_of : ℕ → List Job → ℕ
place_of n [] = 0
place_of n (j ∷ js) = cond (eqb j.number n) 0 (suc (place_of n js))

-- ---- The search

module _ (jobs : List Job) (count i n : ℕ) (h : i < count) (f : count ≤ length jobs) where
  -- The job at the place has the number, or the search goes on behind it.
  pub place_here : (get_or jobs i no_job).number ≡ n → place_of n (drop i (take count jobs)) ≡ 0
  unfolding place_of
  place_here e = rw (front_next no_job jobs count i h f, eq-eqb (get_or jobs i no_job).number n e)

  pub place_later : ((get_or jobs i no_job).number ≡ n → ⊥) → place_of n (drop i (take count jobs)) ≡ place_of n (drop (i + 1) (take count jobs)) + 1
  unfolding place_of
  place_later e = rw (front_next no_job jobs count i h f, ne_eqb (get_or jobs i no_job).number n e) (sym (add-one _))

pub place_end : (jobs : List Job) (count i n : ℕ) → count ≤ length jobs → count ≤ i → place_of n (drop i (take count jobs)) ≡ 0
unfolding place_of
place_end jobs count i n f h = rw (front_none jobs count i f h)

-- ---- A search that ends where the number is found

-- the place looked at and the end of the search among the first `count` jobs: none before the place has the number, and the end is moved to a place that has
abbrev pub Seeking : ℕ → List Job → ℕ → ℕ → ℕ → Type 0
Seeking n jobs count place end =
    (place ≤ end) × (end ≤ count) × (place_of n (take count jobs) ≡ place + place_of n (drop place (take count jobs))) × (end < count → place_of n (take count jobs) ≡ place)

module _ (n : ℕ) (jobs : List Job) (count : ℕ) (f : count ≤ length jobs) where
  pub seek_start : Seeking n jobs count 0 count
  seek_start = (omega arith, omega arith, omega arith, λ h. absurd (omega arith))

  module _ (place end : ℕ) (x : Seeking n jobs count place end) where
    -- It is found, or the next place is looked at.
    pub seek_found : place < end → (get_or jobs place no_job).number ≡ n → Seeking n jobs count place place
    seek_found h e = (omega arith, omega (arith, x.1), x.2, λ k. omega (arith, x.2, place_here jobs count place n (omega (arith, x.1)) f e))

    pub seek_on : place < end → ((get_or jobs place no_job).number ≡ n → ⊥) → Seeking n jobs count (place + 1) end
    seek_on h e =
        let later = place_later jobs count place n (omega (arith, x.1)) f e in
        (omega arith, x.1, omega (arith, x.2), λ k. absurd (omega (arith, x.2, x.3 k)))

    -- At the end the place is the number's.
    pub seek_end : end ≤ place → place_of n (take count jobs) ≡ place
    seek_end h = elim (dec_lt end count) [
      | yes k ↦ x.3 k
      | no k ↦ omega (arith, x.0, x.1, x.2, place_end jobs count place n f (omega (arith, x.0, x.1)))
    ]

-- ---- What the place tells

-- The job there is the job of that number.
pub place_job : (n : ℕ) (js : List Job) → place_of n js < length js → get_or js (place_of n js) no_job ≡ of_number n js
unfolding place_of of_number
place_job n [] h = absurd (omega arith)
place_job n (j ∷ js) h = go (eqb j.number n) h (place_job n js)
  where
    go : (b : Bool) → cond b 0 (suc (place_of n js)) < suc (length js) → (place_of n js < length js → get_or js (place_of n js) no_job ≡ of_number n js)
        → get_or (j ∷ js) (cond b 0 (suc (place_of n js))) no_job ≡ cond b j (of_number n js)
    go true k r = refl
    go false k r = r (omega arith)

-- A number that one of them has stands among them.
pub has_place : (n : ℕ) (js : List Job) → has_number n js ≡ true → place_of n js < length js
unfolding place_of has_number
has_place n [] h = absurd (false≢true h)
has_place n (j ∷ js) h = go (eqb j.number n) h (has_place n js)
  where
    go : (b : Bool) → cond b true (has_number n js) ≡ true → (has_number n js ≡ true → place_of n js < length js) → cond b 0 (suc (place_of n js)) < suc (length js)
    go true k r = omega arith
    go false k r = omega (arith, r k)

-- ---- The jobs without the one of a number, moved up in their array

-- A job that has another number is not left out, one that has it is.
module _ {n : ℕ} (j : Job) (js : List Job) where
  without_other : (j.number ≡ n → ⊥) → without n (j ∷ js) ≡ j ∷ without n js
  unfolding without
  without_other d = rw (ne_eqb j.number n d)

  without_its : j.number ≡ n → without n (j ∷ js) ≡ js
  unfolding without
  without_its e = rw (eq-eqb j.number n e)

without_nothing : (n : ℕ) → without n [] ≡ []
unfolding without
without_nothing n = refl

-- of the first `count` jobs those before i are looked at, and all of them are kept, or all but the one of the number
pub record Leaving (n : ℕ) (jobs : List Job) (count : ℕ) (left : List Job) (kept i : ℕ) : Type 0 where
  pub some : kept ≤ i
  pub looked : i ≤ count
  pub without_one : kept < i → Kept 128 (without n (take count jobs)) jobs left kept (drop i (take count jobs))
  pub with_all : i ≤ kept → Kept 128 (without n (take count jobs)) jobs left kept (without n (drop i (take count jobs)))

module _ (n : ℕ) (jobs : List Job) (count : ℕ) (size : length jobs ≡ 128) (few : count ≤ 128) where
  pub leave_start : Leaving n jobs count jobs 0 0
  leave_start = record {
    some = omega arith;
    looked = omega arith;
    without_one = λ h. absurd (omega arith);
    with_all = λ h. record { size = size; front = refl; behind = refl };
  }

  module _ (left : List Job) (kept i : ℕ) (h : i < count) (x : Leaving n jobs count left kept i) where
    next : drop i (take count jobs) ≡ get_or jobs i no_job ∷ drop (i + 1) (take count jobs)
    next = front_next no_job jobs count i h (omega arith)

    -- Behind the one that leaves each job moves up.
    pub leave_up : kept < i → Leaving n jobs count (set left kept (get_or left i no_job)) (kept + 1) (i + 1)
    leave_up k =
        let y = x.without_one k in
        let same = behind_same no_job left jobs kept i x.some y.behind in
        record {
          some = omega arith;
          looked = omega arith;
          without_one = λ _. rw same (kept_more 128 _ jobs left kept _ _ (omega arith) (subst (Kept 128 _ jobs left kept) next y));
          with_all = λ l. absurd (omega arith);
        }

    -- Before it each stays where it is,
    pub leave_stay : i ≤ kept → ((get_or left i no_job).number ≡ n → ⊥) → Leaving n jobs count left (kept + 1) (i + 1)
    leave_stay k d =
        let y = x.with_all k in
        let same = behind_same no_job left jobs kept i x.some y.behind in
        let at : i ≡ kept = omega (arith, x.some) in
        let rest = without n (drop (i + 1) (take count jobs)) in
        let step : without n (drop i (take count jobs)) ≡ get_or left i no_job ∷ rest =
        ap (without n) (next ∙ ap (λ (j : Job). j ∷ drop (i + 1) (take count jobs)) (sym same)) ∙ without_other (get_or left i no_job) _ d in
        let here : without n (drop i (take count jobs)) ≡ get_or left kept no_job ∷ rest = step ∙ ap (λ (m : ℕ). get_or left m no_job ∷ rest) at in
        record {
          some = omega (arith, at);
          looked = omega arith;
          without_one = λ l. absurd (omega (arith, at));
          with_all = λ _. kept_same no_job 128 _ jobs left kept rest (omega (arith, at)) (subst (Kept 128 _ jobs left kept) here y);
        }

    -- and it is left out.
    pub leave_out : i ≤ kept → (get_or left i no_job).number ≡ n → Leaving n jobs count left kept (i + 1)
    leave_out k e =
        let y = x.with_all k in
        let same = behind_same no_job left jobs kept i x.some y.behind in
        let step : without n (drop i (take count jobs)) ≡ drop (i + 1) (take count jobs) =
        ap (without n) (next ∙ ap (λ (j : Job). j ∷ drop (i + 1) (take count jobs)) (sym same)) ∙ without_its (get_or left i no_job) _ e in
        record {
          some = omega (arith, x.some);
          looked = omega arith;
          without_one = λ _. subst (Kept 128 _ jobs left kept) step y;
          with_all = λ l. absurd (omega (arith, x.some));
        }

  -- At the end the array has those without the number's in front, and is as it was behind them.
  pub leave_end : (left : List Job) (kept i : ℕ) → count ≤ i → Leaving n jobs count left kept i
      → (kept ≡ length (without n (take count jobs))) × (left ≡ without n (take count jobs) ++ drop kept jobs)
  leave_end left kept i h x =
      let none = front_none jobs count i (omega arith) h in
      let whole : Kept 128 (without n (take count jobs)) jobs left kept [] = elim (dec_lt kept i) [
        | yes k ↦ subst (Kept 128 _ jobs left kept) none (x.without_one k)
        | no k ↦ subst (Kept 128 _ jobs left kept) (ap (without n) none ∙ without_nothing n) (x.with_all (omega (arith, k)))
      ] in
      kept_all_lem 128 _ jobs left kept (omega (arith, x.some, x.looked)) whole
