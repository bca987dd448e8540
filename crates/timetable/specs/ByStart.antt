-- Jobs in order of start.
use Rattle.std.specs.Prelude.{◌≡◌, refl, List, [], ◌∷◌, ◌++◌, Bool, true, false, cond, not, ℕ, ◌≤◌, ◌<◌}
use Rattle.std.proofs.Common.{ap, arith, leb-true, leb-false}
use Rattle.lists.specs.Laws.{All, Pairs, all_map}
use Rattle.lists.specs.Keep.{keep, keep_none, keep_every}
use Rattle.walk.specs.declared.Job.{Job}
use Rattle.timetable.specs.Model.{starts_by, starts_after}

-- Those that start by t stand before the others.
pub starts_split : (t : ℕ) (js : List Job) → Pairs (λ (a b : Job). a.booking.start ≤ b.booking.start) js → js ≡ keep (starts_by t) js ++ keep (starts_after t) js
unfolding keep
starts_split t [] h = refl
starts_split t (j ∷ js) h = go (starts_by t j) refl (starts_split t js h.1)
  where
    go : (b : Bool) → starts_by t j ≡ b → js ≡ keep (starts_by t) js ++ keep (starts_after t) js
        → j ∷ js ≡ cond b (j ∷ keep (starts_by t) js) (keep (starts_by t) js) ++ cond (not b) (j ∷ keep (starts_after t) js) (keep (starts_after t) js)
    go true e r = ap (λ (l : List Job). j ∷ l) r
    go false e r =
        let l : t < j.booking.start = leb-false j.booking.start t e in
        let late : All (λ (x : Job). starts_by t x ≡ false) js = all_map (λ x k. not_by x (omega arith)) js h.0 in
        rw (keep_none (starts_by t) js late, keep_every (starts_after t) js (all_map (λ x k. rw k) js late))
      where
        not_by : (x : Job) → t < x.booking.start → starts_by t x ≡ false
        not_by x k = elim_bool (starts_by t x) refl
          where
            elim_bool : (b : Bool) → starts_by t x ≡ b → starts_by t x ≡ false
            elim_bool true q = absurd (omega (arith, leb-true x.booking.start t q))
            elim_bool false q = q
