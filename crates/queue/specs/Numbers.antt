-- A job found by its number, among jobs with different numbers, and the jobs without it.
use Rattle.std.specs.Prelude.{◌≡◌, refl, Bool, true, false, cond, ◌⊎◌, ℕ, eqb}
use Rattle.std.proofs.Common.{ap, sym, ◌∙◌, inl, inr, ⊎_elim, eqb-true, eq-eqb, ne_eqb}
use mathlib.Core.List.Memᴰ
use mathlib.Core.List.Permᴰ
use mathlib.Core.List.{List, [], ◌∷◌, map, Memᴰ, Permᴰ}
use Rattle.std.proofs.lemmas.Bool.{false≢true, eqb-false}
use Rattle.lists.specs.Laws.{Differ, all_mem, mem_image}
use Rattle.walk.specs.declared.Job.{Job}
use Rattle.queue.specs.Model.{has_number, of_number, without}

-- a job's number
abbrev pub number_of_job : Job → ℕ
number_of_job x = x.number

-- The job of a number, among jobs with different numbers.
pub of_number_is : (js : List Job) (j : Job) → Differ (map number_of_job js) → Memᴰ j js → of_number j.number js ≡ j
unfolding of_number
of_number_is [] j d m = absurd (Memᴰ.not-nil m)
of_number_is (i ∷ js) j d m = ⊎_elim here (λ n. there n (of_number_is js j d.1 n)) (Memᴰ.cases_cons m)
  where
    here : j ≡ i → cond (eqb i.number j.number) i (of_number j.number js) ≡ j
    here e = rw (eq-eqb i.number j.number (ap number_of_job (sym e))) (sym e)

    there : Memᴰ j js → of_number j.number js ≡ j → cond (eqb i.number j.number) i (of_number j.number js) ≡ j
    there n r =
        let other : i.number ≡ j.number → ⊥ = all_mem {P = λ (y : ℕ). i.number ≡ y → ⊥} (mem_image number_of_job n) d.0 (λ y e k q. k (q ∙ e)) in
        rw (ne_eqb i.number j.number other) r

-- A number of one of the jobs is one of theirs.
pub has_number_lem : (js : List Job) (n : ℕ) → Memᴰ n (map number_of_job js) → has_number n js ≡ true
unfolding has_number
has_number_lem [] n m = absurd (Memᴰ.not-nil m)
has_number_lem (i ∷ js) n m = go (eqb i.number n) refl (⊎_elim (λ h. inl h) (λ h. inr (has_number_lem js n h)) (Memᴰ.cases_cons m))
  where
    go : (b : Bool) → eqb i.number n ≡ b → (n ≡ i.number) ⊎ (has_number n js ≡ true) → cond b true (has_number n js) ≡ true
    go true e h = refl
    go false e (inl h) = absurd (eqb-false i.number n e (sym h))
    go false e (inr h) = h

-- The job found has the number.
pub of_number_has : (n : ℕ) (js : List Job) → has_number n js ≡ true → (of_number n js).number ≡ n
unfolding has_number of_number
of_number_has n [] h = absurd (false≢true h)
of_number_has n (j ∷ js) h = go (eqb j.number n) refl h (of_number_has n js)
  where
    go : (b : Bool) → eqb j.number n ≡ b → cond b true (has_number n js) ≡ true → (has_number n js ≡ true → (of_number n js).number ≡ n) → (cond b j (of_number n js)).number ≡ n
    go true e k r = eqb-true j.number n e
    go false e k r = r k

-- ---- The jobs without one

-- Jobs of which one has the number are that one and the others.
pub without_perm : (n : ℕ) (js : List Job) → has_number n js ≡ true → Permᴰ js (of_number n js ∷ without n js)
unfolding has_number of_number without
without_perm n [] h = absurd (false≢true h)
without_perm n (j ∷ js) h = go (eqb j.number n) h (without_perm n js)
  where
    go : (b : Bool) → cond b true (has_number n js) ≡ true → (has_number n js ≡ true → Permᴰ js (of_number n js ∷ without n js))
        → Permᴰ (j ∷ js) (cond b j (of_number n js) ∷ cond b js (j ∷ without n js))
    go true e r = Permᴰ.refl (j ∷ js)
    go false e r = Permᴰ.trans (Permᴰ.cons refl (r e)) (Permᴰ.swap refl refl)

-- Where none has the number, none is left out.
pub without_none : (n : ℕ) (js : List Job) → has_number n js ≡ false → without n js ≡ js
unfolding has_number without
without_none n [] h = refl
without_none n (j ∷ js) h = go (eqb j.number n) h (without_none n js)
  where
    go : (b : Bool) → cond b true (has_number n js) ≡ false → (has_number n js ≡ false → without n js ≡ js) → cond b js (j ∷ without n js) ≡ j ∷ js
    go true k r = absurd (false≢true (sym k))
    go false k r = ap (λ (l : List Job). j ∷ l) (r k)
