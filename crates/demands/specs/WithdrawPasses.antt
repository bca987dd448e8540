-- The farm that a granted withdrawal hands back: the other jobs wait on, and it passes question 11.
use Rattle.std.specs.Prelude.{◌≡◌, refl, Bool, true, false, cond, ◌&&◌, ℕ, suc, ◌≤◌, length}
use Rattle.std.proofs.Common.{sym, subst, ◌∙◌, arith, length-take-le}
use mathlib.Core.List.Permᴰ
use mathlib.Core.List.{List, [], ◌∷◌, map, Permᴰ}
use Rattle.lists.specs.Laws.{All, Differ, all_map, all_take, image_all, perm_all, perm_length, perm_pairs}
use Rattle.queue.specs.Numbers.{number_of_job, of_number_has, without_perm}
use Rattle.walk.specs.declared.Job.{Job}
use Rattle.planner.specs.Model.{Farm, JobSized, Sized, waiting_of}
use Rattle.planner.specs.Passes.{passes_of, Passes}
use Rattle.planner.specs.Changes.{queue_sized, queue_waits}
use Rattle.planner.specs.Calls.{has_number, of_number, without, withdrawn_farm, withdraw_farm}
use Rattle.demands.specs.QuestionEleven.{passes_iff, fewer_pass}
use Rattle.demands.specs.MovePasses.{waiting_differ}

module _ (f : Farm) (n : ℕ) (sized : Sized f) (e : passes_of f ≡ true) (h : has_number n (waiting_of f) ≡ true) where
  -- The waiting jobs are the one that leaves and the others.
  pub leaves_others : Permᴰ (waiting_of f) (of_number n (waiting_of f) ∷ without n (waiting_of f))
  leaves_others = without_perm n (waiting_of f) h

  others_count : suc (length (without n (waiting_of f))) ≡ f.waiting
  others_count =
      let w = ((passes_iff f sized).0 e).within.waiting in
      sym (perm_length leaves_others) ∙ length-take-le f.waiting f.jobs (omega (arith, sized.jobs))

  -- The waiting jobs after it are the others.
  pub withdrawn_waiting : waiting_of (withdrawn_farm f n) ≡ without n (waiting_of f)
  withdrawn_waiting = queue_waits f f.used (without n (waiting_of f))

  -- None of them has the number.
  pub others_differ : All (λ (j : Job). j.number ≡ n → ⊥) (without n (waiting_of f))
  others_differ =
      let d : Differ ((of_number n (waiting_of f)).number ∷ map number_of_job (without n (waiting_of f))) =
      perm_pairs (λ (a b : ℕ). a ≡ b → ⊥) (λ a b k q. k (sym q)) (Permᴰ.map number_of_job leaves_others) (waiting_differ f sized e) in
      all_map (λ j k q. k (of_number_has n (waiting_of f) h ∙ sym q)) (without n (waiting_of f))
      (image_all (λ (b : ℕ). (of_number n (waiting_of f)).number ≡ b → ⊥) number_of_job (without n (waiting_of f)) d.0)

  few : length (without n (waiting_of f)) ≤ 128
  few = omega (arith, others_count, ((passes_iff f sized).0 e).within.waiting)

  -- It hands back a farm with its arrays.
  pub withdrawn_sized : Sized (withdrawn_farm f n)
  withdrawn_sized = queue_sized f f.used (without n (waiting_of f)) sized few (perm_all JobSized leaves_others (all_take JobSized f.waiting f.jobs sized.each)).1

  -- It hands back a farm that passes question 11.
  pub withdrawn_passes : Passes (withdrawn_farm f n)
  withdrawn_passes =
      let p = (passes_iff f sized).0 e in
      fewer_pass f (length (without n (waiting_of f))) (of_number n (waiting_of f) ∷ []) (withdrawn_farm f n).jobs few
      (subst (λ (l : List Job). Permᴰ (waiting_of f) (of_number n (waiting_of f) ∷ l)) (sym withdrawn_waiting) leaves_others) p

-- A withdrawal from a farm that passes question 11 hands back a farm that passes it.
pub withdraw_passes : (f : Farm) (n : ℕ) → Sized f → passes_of f ≡ true → passes_of (withdraw_farm f n) ≡ true
unfolding withdraw_farm
withdraw_passes f n z e = go (has_number n (waiting_of f)) refl
  where
    go : (b : Bool) → has_number n (waiting_of f) ≡ b → passes_of (cond {A = Farm} (passes_of f && has_number n (waiting_of f)) (withdrawn_farm f n) f) ≡ true
    go true h = rw (e, h) ((passes_iff (withdrawn_farm f n) (withdrawn_sized f n z e h)).1 (withdrawn_passes f n z e h))
    go false h = rw (e, h) e
