-- A clock move and showing, granted or refused: what each answers, hands back and leaves in the lent memory.
use Rattle.std.specs.Prelude.{◌≡◌, List, [], ◌∷◌, ◌++◌, ℕ, suc, length, drop}
use Rattle.std.proofs.Common.{arith, eq-eqb, ne_eqb}
use Rattle.walk.specs.declared.Chunk.{Chunk}
use Rattle.planner.specs.Model.{Farm}
use Rattle.planner.specs.Calls.{Clock, Shown, granted, refused}
use Rattle.planner.specs.Clock.{issued, moved_farm, move_asked, move_said, move_farm, move_memory, shown, shown_asked, shown_said, shown_memory}

-- A clock move that is asked all its questions is granted: it answers the time and the number of lines, hands the moved farm back, and the lent memory
-- holds the lines at its front and its former contents everywhere else.
pub move_is : (f : Farm) (t : ℕ) (m : List Chunk) → move_asked f t (length m) ≡ 0
    → (move_said f t (length m) ≡ granted Clock (t ∷ length (issued f t) ∷ [])) × (move_farm f t (length m) ≡ moved_farm f t) × (move_memory f t m ≡ issued f t ++ drop (length (issued f t)) m)
unfolding move_said move_farm move_memory
move_is f t m e = let q = eq-eqb (move_asked f t (length m)) 0 e in (rw q, rw q, rw q)

-- Any other is refused with the number of the first question answered no, and the farm and the lent memory are as they were.
pub move_stopped : (f : Farm) (t : ℕ) (m : List Chunk) (n : ℕ) → move_asked f t (length m) ≡ suc n
    → (move_said f t (length m) ≡ refused (suc n)) × (move_farm f t (length m) ≡ f) × (move_memory f t m ≡ m)
unfolding move_said move_farm move_memory
move_stopped f t m n e = let q = ne_eqb (move_asked f t (length m)) 0 (λ h. omega arith) in (rw (q, e), rw q, rw q)

-- Showing is granted where its questions are answered yes.
pub shown_is : (f : Farm) (m : List Chunk) → shown_asked f (length m) ≡ 0
    → (shown_said f (length m) ≡ granted Shown (length (shown f) ∷ [])) × (shown_memory f m ≡ shown f ++ drop (length (shown f)) m)
unfolding shown_said shown_memory
shown_is f m e = let q = eq-eqb (shown_asked f (length m)) 0 e in (rw q, rw q)

-- Otherwise it is refused with the number of the first answered no, and the lent memory is as it was.
pub shown_stopped : (f : Farm) (m : List Chunk) (n : ℕ) → shown_asked f (length m) ≡ suc n → (shown_said f (length m) ≡ refused (suc n)) × (shown_memory f m ≡ m)
unfolding shown_said shown_memory
shown_stopped f m n e = let q = ne_eqb (shown_asked f (length m)) 0 (λ h. omega arith) in (rw (q, e), rw q)
