-- A line and its row of numbers: the row keeps 33 allowances, and an opening asks no more of them than of all.
use Rattle.std.specs.Prelude.{◌≡◌, refl, List, [], ◌∷◌, ◌++◌, Bool, true, false, cond, ◌&&◌, ℕ, zero, suc, ◌-◌, ◌≤◌, ◌<◌, min, leb, length, get_or, take, drop, replicate}
use Rattle.std.proofs.Common.{ap, sym, ◌∙◌, arith, leb-true, leb-false, le-leb, length-take, take_all, take_at, length-take-le}
use Rattle.std.proofs.Math.Bool.{and-false}
use Rattle.std.proofs.lemmas.Bool.{false≢true, lt-leb}
use Rattle.std.proofs.lemmas.List.{length-map, length-replicate, get_or-replicate}
use Rattle.std.proofs.Math.Seq.{take-nil}
use Rattle.limits.specs.declared.FarmCosts.{FarmCosts}
use Rattle.walk.specs.declared.Chunk.{Chunk}
use Rattle.walk.specs.Model.{no_chunk}
use Rattle.planner.specs.Model.{Farm}
use Rattle.planner.specs.Calls.{Said, open_said, open_farm, shows_within}
use Rattle.planner.specs.Clock.{move_said, move_farm, move_lines}
use Rattle.planner.specs.Call.{Call, offer, quote, withdraw, move, account, Noted, does, reply}
use Rattle.planner.specs.CallLaws.{none_noted, move_issues}
use Rattle.text.specs.Model.{value, padded}
use Rattle.reading.specs.declared.Row.{Row}
use Rattle.reading.specs.declared.Kind.{Kind}
use Rattle.reading.specs.declared.Kind.TheVariants as kind
use Rattle.reading.specs.Model.{fields, others_of, fits, line_kind, readable, all_numbers, numbers_of, row_with, row_of}
use Rattle.lines.specs.declared.Rest.{Rest}
use Rattle.lines.specs.Model.{refusal, answer_text, chunk_texts, allowances_of, offer_in, lent, Asks, an_opening, a_call, no_call, asked, in_turn, longest, line_asks, Answered, answered_text, unread, opening_with, called, answer_to, answered_as, answered_with, answered, Pending, part, long}

-- ---- Rows

-- what is pending of a line, as the code keeps it
abbrev pub pending_of : Rest → Pending
pending_of r = cond (leb r.fill longest) (part (take r.fill r.bytes)) long

-- nothing of a line
abbrev pub none_pending : Pending → Bool
none_pending (part []) = true
none_pending (part (b ∷ l)) = false
none_pending long = false

-- the row of a line that ends
abbrev pub row_in : Pending → Row
row_in (part l) = row_of l
row_in long = row_with kind.Unreadable []

-- the allowances in a row
abbrev pub allowances_in : Row → List ℕ
allowances_in r = take (r.count - 6) (allowances_of r.numbers)

-- the answer of a row
abbrev pub by_row : Farm → Row → Answered
by_row f r = answered_as f (asked r.kind) r.count r.numbers (allowances_in r)

-- the row of a farm has its nodes and costs
abbrev pub FarmRow : Row → Type 0
FarmRow r = r.kind ≡ kind.Farm → (6 ≤ r.count) × (r.count ≤ 39)

-- ---- Lists

drop_take : (m n : ℕ) (l : List ℕ) → drop m (take n l) ≡ take (n - m) (drop m l)
drop_take zero n l = let e : n - 0 ≡ n = omega arith in rw e
drop_take (suc m) zero l = let e : 0 - suc m ≡ 0 = omega arith in rw e
drop_take (suc m) (suc n) [] = sym (take-nil (suc n - suc m))
drop_take (suc m) (suc n) (x ∷ l) = let e : suc n - suc m ≡ n - m = omega arith in rw e (drop_take m n l)

kept_at : (n : ℕ) (ns : List ℕ) (i : ℕ) → i < n → get_or (padded n ns) i 0 ≡ get_or ns i 0
kept_at zero ns i h = absurd (omega arith)
kept_at (suc n) [] i h = let e : suc n - 0 ≡ suc n = omega arith in rw e (get_or-replicate (suc n) i 0 0 h)
kept_at (suc n) (x ∷ ns) zero h = refl
kept_at (suc n) (x ∷ ns) (suc i) h = let e : suc n - suc (length ns) ≡ n - length ns = omega arith in rw e (kept_at n ns i (omega arith))

kept_front : (n : ℕ) (ns : List ℕ) → take (min n (length ns)) (padded n ns) ≡ take n ns
kept_front n ns = take_at (take n ns) (replicate (n - length ns) 0) (min n (length ns)) (length-take n ns)

-- ---- Over 32 allowances

many_shows : (al : List ℕ) → 32 < length al → shows_within al ≡ false
many_shows al h = rw (le-leb 1 (length al) (omega arith), lt-leb (length al) 32 h)

shows_33 : (al : List ℕ) (P : List ℕ → List ℕ → Type 0) → (P al al) → (33 < length al → P (take 33 al) al) → P (take 33 al) al
shows_33 al P h k = go (leb (length al) 33) refl
  where
    go : (t : Bool) → leb (length al) 33 ≡ t → P (take 33 al) al
    go true e = rw (take_all 33 al (leb-true (length al) 33 e)) h
    go false e = k (leb-false (length al) 33 e)

-- An opening asks the same of the first 33 allowances as of all.
pub open_33 : (n : ℕ) (c : FarmCosts) (al : List ℕ) → open_said n c (take 33 al) ≡ open_said n c al
unfolding open_said
open_33 n c al =
    shows_33 al (λ (x y : List ℕ). open_said n c x ≡ open_said n c y) refl
    (λ h. rw (many_shows al (omega arith), many_shows (take 33 al) (omega (arith, length-take-le 33 al (omega arith)))))

pub open_farm_33 : (n : ℕ) (c : FarmCosts) (al : List ℕ) → open_farm n c (take 33 al) ≡ open_farm n c al
unfolding open_farm
open_farm_33 n c al =
    shows_33 al (λ (x y : List ℕ). open_farm n c x ≡ open_farm n c y) refl
    (λ h. rw (many_shows al (omega arith), many_shows (take 33 al) (omega (arith, length-take-le 33 al (omega arith))), and-false))

-- ---- The answer of a row is the answer of its line

few_same : (m n : ℕ) → 3 < m → leb (min m n) 3 ≡ leb n 3
few_same m n h = go (leb n 3) refl
  where
    go : (t : Bool) → leb n 3 ≡ t → leb (min m n) 3 ≡ t
    go true e = le-leb (min m n) 3 (omega (arith, leb-true n 3 e))
    go false e = lt-leb (min m n) 3 (omega (arith, leb-false n 3 e))

offer_same : (ns : List ℕ) → offer_in (min 39 (length ns)) (padded 39 ns) ≡ offer_in (length ns) ns
offer_same ns =
    rw (few_same 39 (length ns) (omega arith), kept_at 39 ns 0 (omega arith), kept_at 39 ns 1 (omega arith), kept_at 39 ns 2 (omega arith), kept_at 39 ns 3 (omega arith))

row_allowances : (k : Kind) (ns : List ℕ) → allowances_in (row_with k ns) ≡ take 33 (allowances_of ns)
row_allowances k ns =
    sym (drop_take 6 (min 39 (length ns)) (padded 39 ns)) ∙ ap (drop 6) (kept_front 39 ns) ∙ drop_take 6 39 ns

farm_same : (k : Kind) (ns : List ℕ)
    → opening_with (padded 39 ns) (allowances_in (row_with k ns)) ≡ opening_with ns (allowances_of ns)
farm_same k ns =
    rw (row_allowances k ns, kept_at 39 ns 0 (omega arith), kept_at 39 ns 1 (omega arith), kept_at 39 ns 2 (omega arith), kept_at 39 ns 3 (omega arith), kept_at 39 ns 4 (omega arith), kept_at 39 ns 5 (omega arith), open_33, open_farm_33)

-- the call of a row is the call of its line
abbrev SameCall : Asks → List ℕ → Type 0
SameCall an_opening ns = Unit
SameCall (a_call g) ns = g (min 39 (length ns)) (padded 39 ns) ≡ g (length ns) ns
SameCall no_call ns = Unit

-- A line of each kind is the call that its row is.
same_call : (k : Kind) (ns : List ℕ) → SameCall (asked k) ns
same_call kind.Farm ns = tt
same_call kind.Job ns = ap offer (offer_same ns)
same_call kind.Clock ns = ap (λ (t : ℕ). move t (replicate lent no_chunk)) (kept_at 39 ns 0 (omega arith))
same_call kind.Account ns = ap account (kept_at 39 ns 0 (omega arith))
same_call kind.Withdraw ns = ap withdraw (kept_at 39 ns 0 (omega arith))
same_call kind.Quote ns = ap quote (offer_same ns)
same_call kind.Unreadable ns = tt

pub row_answered : (f : Farm) (k : Kind) (ns : List ℕ) → by_row f (row_with k ns) ≡ answered_with f (asked k) ns
unfolding answered_as
row_answered f k ns =
    ap (λ (x : Answered). cond (in_turn (asked k) f.opened) x (unread f)) (go (asked k) (same_call k ns))
  where
    go : (a : Asks) → SameCall a ns
        → answer_to f a (min 39 (length ns)) (padded 39 ns) (allowances_in (row_with k ns))
        ≡ answer_to f a (length ns) ns (allowances_of ns)
    go an_opening e = farm_same k ns
    go (a_call g) e = ap (called f) e
    go no_call e = refl

pub no_row : (f : Farm) → by_row f (row_with kind.Unreadable []) ≡ unread f
unfolding answered_as
no_row f = refl

-- A line is answered as its row is.
pub line_row : (f : Farm) (l : List ℕ) → length l ≤ longest → answered f l ≡ by_row f (row_of l)
unfolding answered line_asks row_of answered_as
line_row f l h = rw (le-leb (length l) longest h) (go (readable l))
  where
    go : (t : Bool)
        → answered_with f (cond t (asked (line_kind l)) no_call) (numbers_of l)
        ≡ by_row f (cond t (row_with (line_kind l) (numbers_of l)) (row_with kind.Unreadable []))
    go true = sym (row_answered f (line_kind l) (numbers_of l))
    go false = refl

six : (k : Kind) (n : ℕ) (b : Bool) → k ≡ kind.Farm → (fits k n && b) ≡ true → 6 ≤ n
six k n b e h = go (leb 6 n) refl (rw e at h)
  where
    go : (t : Bool) → leb 6 n ≡ t → (t && b) ≡ true → 6 ≤ n
    go true q h = leb-true 6 n q
    go false q h = absurd (false≢true h)

unreadable_farm : kind.Unreadable ≡ kind.Farm → ⊥
unreadable_farm e = let z : ◌≡◌ {A = ℕ} 0 1 = cc in omega arith

-- The row of a line that is a farm has at least its nodes and costs.
pub row_farm : (p : Pending) → FarmRow (row_in p)
unfolding row_of readable
row_farm long e = absurd (unreadable_farm e)
row_farm (part l) e = go (readable l) refl e
  where
    go : (t : Bool) → readable l ≡ t → (cond t (row_with (line_kind l) (numbers_of l)) (row_with kind.Unreadable [])).kind ≡ kind.Farm
        → (6 ≤ (cond t (row_with (line_kind l) (numbers_of l)) (row_with kind.Unreadable [])).count) × ((cond t (row_with (line_kind l) (numbers_of l)) (row_with kind.Unreadable [])).count ≤ 39)
    go true e k = let n = six (line_kind l) (length (others_of (fields l))) (all_numbers (others_of (fields l))) k e in let m = length-map (others_of (fields l)) value in (omega arith, omega arith)
    go false e k = absurd (unreadable_farm k)

-- ---- In its turn, and out of it

module _ (f : Farm) (r : Row) where
  -- It is answered what it asks for.
  pub row_turn : in_turn (asked r.kind) f.opened ≡ true
      → by_row f r ≡ answer_to f (asked r.kind) r.count r.numbers (allowances_in r)
  unfolding answered_as
  row_turn e = rw e

  -- out of its turn
  pub row_unread : in_turn (asked r.kind) f.opened ≡ false → by_row f r ≡ unread f
  unfolding answered_as
  row_unread e = rw e

-- ---- What is printed

-- A line that cannot be read, or not in its turn, prints `no 11`.
pub unread_text : (f : Farm) → refusal 11 ≡ answered_text (unread f)
unfolding chunk_texts answer_text
unread_text f = refl

-- An opening prints what it is told,
pub opening_text : (ns al : List ℕ) {s : Said} → s ≡ (opening_with ns al).said
    → answer_text s ≡ answered_text (opening_with ns al)
unfolding chunk_texts
opening_text ns al e = ap answer_text e

-- and so does a call that issues no chunk.
pub call_text : (f : Farm) (c : Call) {s : Said} → (does f c).notes.lines ≡ [] → s ≡ reply f c
    → answer_text s ≡ answered_text (called f c)
unfolding chunk_texts
call_text f c none e =
    ap answer_text e
    ∙ sym
    (ap (λ (xs : List Chunk). chunk_texts xs ++ answer_text (reply f c)) (none_noted (λ (n : Noted). n.lines) f c none))

-- A clock move that is lent the program's records hands back what a move lent as many does, and issues the lines that
-- it writes.
pub move_called : (f : Farm) (t : ℕ)
    → called f (move t (replicate lent no_chunk))
    ≡ record { farm = move_farm f t lent; chunks = move_lines f t lent; said = move_said f t lent }
move_called f t =
    let m : List Chunk = replicate lent no_chunk in
    ap (λ (xs : List Chunk). record { farm = move_farm f t (length m); chunks = xs; said = move_said f t (length m) }) (move_issues f t m)
    ∙ ap (λ (n : ℕ). record { farm = move_farm f t n; chunks = move_lines f t n; said = move_said f t n }) (length-replicate {A = Chunk} lent no_chunk)
