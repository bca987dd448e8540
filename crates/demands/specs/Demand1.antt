-- Demand 1, a theorem a sentence:
--   "The timetable memory lent to a call holds, after it, the lines of the answer at its front and its former
--    contents everywhere else;"                                                       move_writes, shown_writes
--   "after a refusal it is unchanged throughout, and so is the farm."                  open_keeps, call_keeps,
--                                                                                      move_keeps, shown_keeps,
--                                                                                      quote_keeps
--   "This is so for all arguments and lengths, and every call ends,"                   the functions' contracts, which have no `requires`
--   "refused exactly where the papers name a refusal and granted otherwise."           open_asks, offer_asks, quote_asks, withdraw_asks, move_asks,
--                                                                                      shown_asks, account_asks
--   document 02 (iv): "A quote takes what an offer takes and gives the same answer, job number and refusals included, as
--    offering to a copy of the farm. ... a quote given prints `quote` in place of `yes`."      quote_given, quote_refused
--   "The farm stays the same."                                                               quote_keeps
--   document 02 (vii): "The chunk record and its `chunk` line get an eighth field: the end of computing, which is send end + SC + units × p. It lies after
--    the send end and at or before the finish."                                          move_computes, shown_computes
-- The contracts equate the functions of src/ with the definitions that these theorems speak of.
use Rattle.std.specs.Prelude.{◌≡◌, Bool, cond, ◌&&◌, leb, ltb, length, get_or, drop}
use Rattle.std.proofs.Math.Path.{refl}
use Rattle.std.proofs.Common.{ap, sym, ◌∙◌, arith, ne_eqb}
use mathlib.Core.List.{List, [], ◌∷◌, ◌++◌, Memᴰ}
use Rattle.std.proofs.Math.Bool.{true, false}
use Prim.Native.Nat.{ℕ, zero, suc, ◌+◌, ◌-◌}
use Rattle.std.proofs.lemmas.Bool.{eqb-false}
use Rattle.std.proofs.Math.Dec.{eqb}
use Rattle.limits.specs.declared.FarmCosts.{FarmCosts}
use Rattle.lists.specs.Laws.{All, all_map, all_both, all_of, at_member, perm_all}
use Rattle.lists.specs.Keep.{keep_all}
use Rattle.walk.specs.declared.Job.{Job}
use Rattle.walk.specs.declared.Chunk.{Chunk}
use Rattle.walk.specs.Order.{by_start_perm}
use Rattle.walk.specs.Model.{Computes}
use Rattle.walk.specs.EndOfComputing.{job_computes}
use Rattle.timetable.specs.Model.{chunk_row}
use Rattle.answers.specs.declared.Offer.{Offer}
use Rattle.planner.specs.Model.{Farm, greatest, between, costs_within, lines_of, by_start, waiting_of, Sized}
use Rattle.planner.specs.Passes.{passes_of}
use Rattle.planner.specs.Calls.{has_number, Open, Yes, Clock, Shown, Account, Gone, Quote, Said, granted, refused, shows_within, open_said, open_farm, unopened, opened_with, account_said, held_by, allowance_of, compute_of, planned, accepts, of_number, yes_of, offer_asked, offer_said, as_quote, quote_said, withdrawn_farm, withdraw_said, withdraw_farm}
use Rattle.planner.specs.Clock.{starts_by, begun, issued, moved_farm, move_asked, move_said, move_farm, move_memory, shown, shown_asked, shown_said, shown_memory}
use Rattle.planner.specs.CallLaws.{refused_hands}
use Rattle.demands.specs.CallLists.{Call, quote, reply, handed}
use Rattle.demands.specs.BegunJobs.{lines_all}
use Rattle.demands.specs.MovePasses.{Waiting, waiting_jobs}
use Rattle.demands.specs.Outcome.{job_named}
use Rattle.demands.specs.MoveAnswers.{move_is, move_stopped, shown_is, shown_stopped}

-- ---- Refused exactly where the papers name a refusal

-- a question: its number in the paper, and whether it is answered yes
pub record Put : Type 0 where
  pub number : ℕ
  pub yes : Bool

abbrev pub asks : ℕ → Bool → Put
asks n b = record { number = n; yes = b }

-- a call stops at the first question answered no and returns its number; 0 where all are answered yes
unfoldable pub first_no : List Put → ℕ
first_no [] = 0
first_no (q ∷ qs) = cond q.yes (first_no qs) q.number

-- An opening is refused with 1, 2 or 3, by the first of its questions answered no, and granted otherwise.
pub open_asks : (n : ℕ) (c : FarmCosts) (al : List ℕ) → (open_said n c al).number ≡ first_no (asks 1 (between 1 n 64) ∷ asks 2 (costs_within c) ∷ asks 3 (shows_within al) ∷ [])
unfolding open_said first_no
open_asks n c al = go (between 1 n 64) (costs_within c) (shows_within al)
  where
    go : (a b d : Bool) → (cond {A = Said} a (cond b (cond d (granted Open (n ∷ length al ∷ [])) (refused 3)) (refused 2)) (refused 1)).number ≡ cond {A = ℕ} a (cond b (cond d 0 3) 2) 1
    go true true true = refl
    go true true false = refl
    go true false d = refl
    go false b d = refl

-- what an offer is asked, and a quote of it
abbrev pub offer_questions : Farm → Offer → List Put
offer_questions f o =
    asks 11 (passes_of f) ∷ asks 4 (between 1 o.show f.shows) ∷ asks 5 (between 1 o.size 1_000_000) ∷ asks 2 (between 1 (compute_of f o) 1_000_000)
    ∷ asks 6 (ltb f.clock o.deadline && leb o.deadline greatest) ∷ asks 7 (ltb f.waiting 128 && ltb f.used greatest) ∷ asks 8 (accepts f o) ∷ []

-- An offer is refused with 11, 4, 5, 2, 6, 7 or 8, and granted otherwise.
pub offer_asks : (f : Farm) (o : Offer) → (offer_said f o).number ≡ first_no (offer_questions f o)
unfolding offer_said offer_asked first_no
offer_asks f o =
    go (passes_of f) (between 1 o.show f.shows) (between 1 o.size 1_000_000) (between 1 (compute_of f o) 1_000_000) (ltb f.clock o.deadline && leb o.deadline greatest) (ltb f.waiting 128 && ltb f.used greatest) (accepts f o)
    (yes_of f.costs (of_number (f.used + 1) (planned f o))).values
  where
    asked : Bool → Bool → Bool → Bool → Bool → Bool → ℕ
    asked a b c p e g = cond a (cond b (cond c (cond p (cond e (cond g 0 7) 6) 2) 5) 4) 11

    go : (a b c p e g h : Bool) (vs : List ℕ)
        → (cond {A = Said} (eqb (asked a b c p e g) 0) (cond h (granted Yes vs) (refused 8)) (refused (asked a b c p e g))).number
        ≡ cond {A = ℕ} a (cond b (cond c (cond p (cond e (cond g (cond h 0 8) 7) 6) 2) 5) 4) 11
    go true true true true true true true vs = refl
    go true true true true true true false vs = refl
    go true true true true true false h vs = refl
    go true true true true false g h vs = refl
    go true true true false e g h vs = refl
    go true true false p e g h vs = refl
    go true false c p e g h vs = refl
    go false b c p e g h vs = refl

-- A quote is refused with the same numbers at the same questions, and given otherwise.
pub quote_asks : (f : Farm) (o : Offer) → (quote_said f o).number ≡ first_no (offer_questions f o)
unfolding quote_said
quote_asks f o = offer_asks f o

-- A withdrawal is refused with 11 or 12, and granted otherwise.
pub withdraw_asks : (f : Farm) (n : ℕ) → (withdraw_said f n).number ≡ first_no (asks 11 (passes_of f) ∷ asks 12 (has_number n (waiting_of f)) ∷ [])
unfolding withdraw_said first_no
withdraw_asks f n = go (passes_of f) (has_number n (waiting_of f))
  where
    go : (a b : Bool) → (cond {A = Said} a (cond b (granted Gone (n ∷ [])) (refused 12)) (refused 11)).number ≡ cond {A = ℕ} a (cond b 0 12) 11
    go true true = refl
    go true false = refl
    go false b = refl

-- A clock move is refused with 11, 9 or 10, and granted otherwise.
pub move_asks : (f : Farm) (t n : ℕ) → (move_said f t n).number ≡ first_no (asks 11 (passes_of f) ∷ asks 9 (between f.clock t greatest) ∷ asks 10 (leb (length (issued f t)) n) ∷ [])
unfolding move_said move_asked first_no
move_asks f t n = go (passes_of f) (between f.clock t greatest) (leb (length (issued f t)) n)
  where
    asked : Bool → Bool → Bool → ℕ
    asked a b c = cond a (cond b (cond c 0 10) 9) 11

    go : (a b c : Bool) → (cond {A = Said} (eqb (asked a b c) 0) (granted Clock (t ∷ length (issued f t) ∷ [])) (refused (asked a b c))).number ≡ cond {A = ℕ} a (cond b (cond c 0 10) 9) 11
    go true true true = refl
    go true true false = refl
    go true false c = refl
    go false b c = refl

-- Showing is refused with 11 or 10, and granted otherwise.
pub shown_asks : (f : Farm) (n : ℕ) → (shown_said f n).number ≡ first_no (asks 11 (passes_of f) ∷ asks 10 (leb (length (shown f)) n) ∷ [])
unfolding shown_said shown_asked first_no
shown_asks f n = go (passes_of f) (leb (length (shown f)) n)
  where
    asked : Bool → Bool → ℕ
    asked a b = cond a (cond b 0 10) 11

    go : (a b : Bool) → (cond {A = Said} (eqb (asked a b) 0) (granted Shown (length (shown f) ∷ [])) (refused (asked a b))).number ≡ cond {A = ℕ} a (cond b 0 10) 11
    go true true = refl
    go true false = refl
    go false b = refl

-- An account is refused with 11 or 4, and granted otherwise.
pub account_asks : (f : Farm) (s : ℕ) → (account_said f s).number ≡ first_no (asks 11 (passes_of f) ∷ asks 4 (between 1 s f.shows) ∷ [])
unfolding account_said first_no
account_asks f s = go (passes_of f) (between 1 s f.shows) (s ∷ held_by f s ∷ (held_by f s - allowance_of f s) ∷ [])
  where
    go : (a b : Bool) (vs : List ℕ) → (cond {A = Said} a (cond b (granted Account vs) (refused 4)) (refused 11)).number ≡ cond {A = ℕ} a (cond b 0 4) 11
    go true true vs = refl
    go true false vs = refl
    go false b vs = refl

-- ---- A refusal changes nothing

-- A refused opening hands back the unopened farm.
pub open_keeps : (n : ℕ) (c : FarmCosts) (al : List ℕ) (k : ℕ) → (open_said n c al).number ≡ suc k → open_farm n c al ≡ unopened
unfolding open_said open_farm
open_keeps n c al k = go (between 1 n 64) (costs_within c) (shows_within al)
  where
    go : (a b d : Bool) → (cond {A = Said} a (cond b (cond d (granted Open (n ∷ length al ∷ [])) (refused 3)) (refused 2)) (refused 1)).number ≡ suc k
        → cond {A = Farm} (a && b && d) (opened_with n c al) unopened ≡ unopened
    go true true true e = absurd (omega arith)
    go true true false e = refl
    go true false d e = refl
    go false b d e = refl

-- A refused call hands back the farm as it was.
pub call_keeps : (f : Farm) (c : Call) (k : ℕ) → (reply f c).number ≡ suc k → handed f c ≡ f
call_keeps f c k e = refused_hands f c (ne_eqb (reply f c).number 0 (λ h. omega (arith, e)))

-- A quote, given or refused, hands back the farm as it was.
pub quote_keeps : (f : Farm) (o : Offer) → handed f (quote o) ≡ f
quote_keeps f o = refl

-- A refused clock move leaves the lent memory as it was.
pub move_keeps : (f : Farm) (t : ℕ) (m : List Chunk) (k : ℕ) → (move_said f t (length m)).number ≡ suc k
    → move_memory f t m ≡ m
unfolding move_said move_memory
move_keeps f t m k = go (eqb (move_asked f t (length m)) 0)
  where
    go : (a : Bool) → (cond {A = Said} a (granted Clock (t ∷ length (issued f t) ∷ [])) (refused (move_asked f t (length m)))).number ≡ suc k
        → cond {A = List Chunk} a (issued f t ++ drop (length (issued f t)) m) m ≡ m
    go true e = absurd (omega arith)
    go false e = refl

-- Refused showing leaves the lent memory as it was (the farm comes back as it was in any case).
pub shown_keeps : (f : Farm) (m : List Chunk) (k : ℕ) → (shown_said f (length m)).number ≡ suc k → shown_memory f m ≡ m
unfolding shown_said shown_memory
shown_keeps f m k = go (eqb (shown_asked f (length m)) 0)
  where
    go : (a : Bool) → (cond {A = Said} a (granted Shown (length (shown f) ∷ [])) (refused (shown_asked f (length m)))).number ≡ suc k
        → cond {A = List Chunk} a (shown f ++ drop (length (shown f)) m) m ≡ m
    go true e = absurd (omega arith)
    go false e = refl

-- ---- A quote says what an offer to a copy would be told

module _ (f : Farm) (o : Offer) where
  -- what an offer is told, by whether the questions before the walk are passed, whether the walk books all, and the values
  abbrev told : Bool → Bool → List ℕ → Said
  told a h vs = cond a (cond h (granted Yes vs) (refused 8)) (refused (offer_asked f o))

  -- It is given where the offer would be accepted: `quote` in place of `yes`, with the same values, the job number among them.
  pub quote_given : (offer_said f o).number ≡ 0 → (offer_said f o ≡ granted Yes (offer_said f o).values) × (quote_said f o ≡ granted Quote (offer_said f o).values)
  unfolding quote_said offer_said
  quote_given = go (eqb (offer_asked f o) 0) refl (accepts f o) (yes_of f.costs (of_number (f.used + 1) (planned f o))).values
    where
      go : (a : Bool) → eqb (offer_asked f o) 0 ≡ a → (h : Bool) (vs : List ℕ) → (told a h vs).number ≡ 0
          → (told a h vs ≡ granted Yes (told a h vs).values) × (as_quote (told a h vs) ≡ granted Quote (told a h vs).values)
      go true q true vs e = (refl, refl)
      go true q false vs e = absurd (omega arith)
      go false q h vs e = absurd (eqb-false (offer_asked f o) 0 q e)

  -- It is refused where the offer would be, with the same answer.
  pub quote_refused : (k : ℕ) → (offer_said f o).number ≡ suc k → quote_said f o ≡ offer_said f o
  unfolding quote_said offer_said
  quote_refused k = go (eqb (offer_asked f o) 0) (accepts f o) (yes_of f.costs (of_number (f.used + 1) (planned f o))).values
    where
      go : (a h : Bool) (vs : List ℕ) → (told a h vs).number ≡ suc k → as_quote (told a h vs) ≡ told a h vs
      go true true vs e = absurd (omega arith)
      go true false vs e = refl
      go false h vs e = refl

-- ---- A granted withdrawal takes its job out and changes nothing else

-- It answers the job, and hands back the farm without it.
pub withdraw_leaves : (f : Farm) (n : ℕ) → (withdraw_said f n).number ≡ 0 → (withdraw_said f n ≡ granted Gone (n ∷ [])) × (withdraw_farm f n ≡ withdrawn_farm f n)
unfolding withdraw_said withdraw_farm
withdraw_leaves f n = go (passes_of f) (has_number n (waiting_of f))
  where
    go : (a b : Bool) → (cond {A = Said} a (cond b (granted Gone (n ∷ [])) (refused 12)) (refused 11)).number ≡ 0
        → (cond {A = Said} a (cond b (granted Gone (n ∷ [])) (refused 12)) (refused 11) ≡ granted Gone (n ∷ [])) × (cond {A = Farm} (a && b) (withdrawn_farm f n) f ≡ withdrawn_farm f n)
    go true true e = (refl, refl)
    go true false e = absurd (omega arith)
    go false b e = absurd (omega arith)

-- ---- An account says both columns

-- A granted account answers the show, its held ticks and what is above its allowance.
pub account_says : (f : Farm) (s : ℕ) → (account_said f s).number ≡ 0
    → account_said f s ≡ granted Account (s ∷ held_by f s ∷ (held_by f s - allowance_of f s) ∷ [])
unfolding account_said
account_says f s = go (passes_of f) (between 1 s f.shows) (s ∷ held_by f s ∷ (held_by f s - allowance_of f s) ∷ [])
  where
    go : (a b : Bool) (vs : List ℕ)
        → (cond {A = Said} a (cond b (granted Account vs) (refused 4)) (refused 11)).number ≡ 0
        → cond {A = Said} a (cond b (granted Account vs) (refused 4)) (refused 11) ≡ granted Account vs
    go true true vs e = refl
    go true false vs e = absurd (omega arith)
    go false b vs e = absurd (omega arith)

-- ---- A grant writes its lines and nothing else

-- A record is its eight numbers: two that differ in none of them are the same. So what follows, and demand 3, speak of all eight fields.
pub record_is_row : (x y : Chunk) → chunk_row x ≡ chunk_row y → x ≡ y
record_is_row x y e =
    ap (λ (l : List ℕ). record {
      job = get_or l 0 0;
      show = get_or l 1 0;
      node = get_or l 2 0;
      units = get_or l 3 0;
      start = get_or l 4 0;
      sent = get_or l 5 0;
      finish = get_or l 6 0;
      computed = get_or l 7 0;
    }) e

-- After a granted clock move the lent memory is the lines with its former contents behind them.
pub move_writes : (f : Farm) (t : ℕ) (m : List Chunk) → (move_said f t (length m)).number ≡ 0
    → (move_said f t (length m) ≡ granted Clock (t ∷ length (issued f t) ∷ [])) × (move_farm f t (length m) ≡ moved_farm f t) × (move_memory f t m ≡ issued f t ++ drop (length (issued f t)) m)
move_writes f t m e = move_is f t m (go (move_asked f t (length m)) refl)
  where
    go : (n : ℕ) → move_asked f t (length m) ≡ n → move_asked f t (length m) ≡ 0
    go zero q = q
    go (suc n) q = absurd (let r = ap (λ (x : Said). x.number) (move_stopped f t m n q).0 in omega arith)

-- So it is after granted showing.
pub shown_writes : (f : Farm) (m : List Chunk) → (shown_said f (length m)).number ≡ 0
    → (shown_said f (length m) ≡ granted Shown (length (shown f) ∷ [])) × (shown_memory f m ≡ shown f ++ drop (length (shown f)) m)
shown_writes f m e = shown_is f m (go (shown_asked f (length m)) refl)
  where
    go : (n : ℕ) → shown_asked f (length m) ≡ n → shown_asked f (length m) ≡ 0
    go zero q = q
    go (suc n) q = absurd (let r = ap (λ (x : Said). x.number) (shown_stopped f m n q).0 in omega arith)

-- ---- Each line says when its units are computed

-- a line of a waiting job, which ends computing as the job's own compute cost makes it
pub record LineOf (f : Farm) (x : Chunk) : Type 0 where
  pub job : Job
  pub among : Memᴰ job (waiting_of f)
  pub number : x.job ≡ job.number
  pub computes : Computes f.costs job.compute x

-- The first question of a granted call was answered yes.
first_yes : (n : ℕ) (b : Bool) (qs : List Put) → first_no (asks (suc n) b ∷ qs) ≡ 0 → b ≡ true
unfolding first_no
first_yes n true qs e = refl
first_yes n false qs e = absurd (omega arith)

waiting_compute : (f : Farm) → Sized f → passes_of f ≡ true → All (λ (j : Job). All (LineOf f) (lines_of f.costs j)) (by_start (waiting_of f))
waiting_compute f z e =
    perm_all (λ (j : Job). All (LineOf f) (lines_of f.costs j)) (by_start_perm (waiting_of f)) (all_of (waiting_of f) (λ j m.
    let h = at_member (Waiting f) m (waiting_jobs f z e) in
    all_both (λ x n k. record { job = j; among = m; number = n.0; computes = k }) (lines_of f.costs j)
    (job_named f.costs j)
    (job_computes f.costs j h.within.compute.0 h.sound.each)))

-- Each line of a granted clock move says it: the send's end, SC and units × p, after the send's end, at or before the finish.
pub move_computes : (f : Farm) (t n : ℕ) → Sized f → (move_said f t n).number ≡ 0 → All (LineOf f) (issued f t)
move_computes f t n z e =
    let P : Job → Type 0 = λ (j : Job). All (LineOf f) (lines_of f.costs j) in
    let jobs = waiting_compute f z (first_yes 10 (passes_of f) _ (sym (move_asks f t n) ∙ e)) in
    lines_all (LineOf f) f.costs (begun f t) (all_map (λ j h. h.0) (begun f t) (keep_all (starts_by t) P (by_start (waiting_of f)) jobs))

-- So does each line of granted showing.
pub shown_computes : (f : Farm) (n : ℕ) → Sized f → (shown_said f n).number ≡ 0 → All (LineOf f) (shown f)
shown_computes f n z e =
    lines_all (LineOf f) f.costs (by_start (waiting_of f)) (waiting_compute f z (first_yes 10 (passes_of f) _ (sym (shown_asks f n) ∙ e)))
