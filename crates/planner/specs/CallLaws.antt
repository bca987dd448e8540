-- What follows of any call from whether it is granted, and the chunks that it issues.
use Rattle.std.specs.Prelude.{ℕ, ◌+◌, ◌≡◌, refl, List, [], ◌∷◌, Bool, true, false, cond, ◌&&◌, eqb, length, drop}
use Rattle.std.proofs.Common.{ap, sym, take_at}
use Rattle.std.proofs.lemmas.Bool.{false≢true}
use Rattle.walk.specs.declared.Chunk.{Chunk}
use Rattle.planner.specs.Model.{Farm}
use Rattle.planner.specs.Model.{waiting_of}
use Rattle.planner.specs.Passes.{passes_of}
use Rattle.planner.specs.Calls.{Said, Yes, Gone, Clock, granted, refused, has_number, of_number, planned, accepts, with_plan, yes_of, offer_asked, offer_said, offer_farm, withdrawn_farm, withdraw_said, withdraw_farm}
use Rattle.planner.specs.Clock.{issued, moved_farm, move_asked, move_said, move_farm, move_memory, move_lines}
use Rattle.planner.specs.Call.{Call, offer, quote, withdraw, move, account, Noted, nothing, does, handed, is_granted, noted}

-- ---- What is noted

-- Nothing is noted of a refused call.
pub refused_notes : (f : Farm) (c : Call) → is_granted f c ≡ false → noted f c ≡ nothing
refused_notes f c e = ap (λ (b : Bool). cond b (does f c).notes nothing) e

-- Of a granted call what it does is.
pub granted_notes : (f : Farm) (c : Call) → is_granted f c ≡ true → noted f c ≡ (does f c).notes
granted_notes f c e = ap (λ (b : Bool). cond b (does f c).notes nothing) e

-- Where a granted call would note nothing of some sort, nothing of it is noted.
pub none_noted : {A : Type 0} (p : Noted → A) (f : Farm) (c : Call) → p (does f c).notes ≡ p nothing
    → p (noted f c) ≡ p nothing
none_noted p f c e = go (is_granted f c)
  where
    go : (b : Bool) → p (cond b (does f c).notes nothing) ≡ p nothing
    go true = e
    go false = refl

-- The chunks that a move issues are the lines that it writes.
pub move_issues : (f : Farm) (t : ℕ) (m : List Chunk) → (noted f (move t m)).lines ≡ move_lines f t (length m)
unfolding move_said move_memory
move_issues f t m = go (eqb (move_asked f t (length m)) 0) refl
  where
    go : (a : Bool) → eqb (move_asked f t (length m)) 0 ≡ a → (noted f (move t m)).lines ≡ move_lines f t (length m)
    go true e = rw e (take_at (issued f t) (drop (length (issued f t)) m) (length (issued f t)) refl)
    go false e = rw (e, e)

-- ---- A refusal

-- A refused call hands back the farm as it was.
pub refused_hands : (f : Farm) (c : Call) → is_granted f c ≡ false → handed f c ≡ f
unfolding offer_said offer_farm withdraw_said withdraw_farm move_said move_farm
refused_hands f (offer o) =
    go (eqb (offer_asked f o) 0) (accepts f o) (yes_of f.costs (of_number (f.used + 1) (planned f o))).values
  where
    go : (a b : Bool) (vs : List ℕ)
        → eqb (cond {A = Said} a (cond b (granted Yes vs) (refused 8)) (refused (offer_asked f o))).number 0 ≡ false
        → cond {A = Farm} a (cond b (with_plan f (planned f o)) f) f ≡ f
    go true true vs e = absurd (false≢true (sym e))
    go true false vs e = refl
    go false b vs e = refl
refused_hands f (quote o) = λ e. refl
refused_hands f (withdraw n) = go (passes_of f) (has_number n (waiting_of f))
  where
    go : (a b : Bool)
        → eqb (cond {A = Said} a (cond b (granted Gone (n ∷ [])) (refused 12)) (refused 11)).number 0 ≡ false
        → cond {A = Farm} (a && b) (withdrawn_farm f n) f ≡ f
    go true true e = absurd (false≢true (sym e))
    go true false e = refl
    go false b e = refl
refused_hands f (move t m) = go (eqb (move_asked f t (length m)) 0)
  where
    go : (a : Bool)
        → eqb (cond {A = Said} a (granted Clock (t ∷ length (issued f t) ∷ [])) (refused (move_asked f t (length m)))).number 0
        ≡ false
        → cond {A = Farm} a (moved_farm f t) f ≡ f
    go true e = absurd (false≢true (sym e))
    go false e = refl
refused_hands f (account s) = λ e. refl
