-- Demand 3 of what a day prints. A day's lines are those that leave the farm unopened, then the first granted `farm` line, then any others. Demand 3 holds of
-- the calls that those others are; the jobs told `yes` are the jobs that these calls accept, those told `gone` the jobs that they withdraw, the `chunk` lines
-- printed the chunks that they issue; and each `account` line says as held ticks the sum over the `chunk` lines of its show printed before it, and as charged ticks what is above
-- the allowance on the `farm` line; and a `job` line behind a `quote` line with the same numbers is told what was quoted. Leaving the `quote` lines out of a day leaves the
-- answer of every other line as it was. The definitions come first; `day_demand3` and `printed_day` at the end are the theorems.
use Rattle.std.specs.Prelude.{◌≡◌, Bool, true, false, ◌&&◌, ◌⊎◌, ℕ, zero, suc, ◌-◌, leb, length, get_or, replicate}
use Rattle.std.proofs.Math.Path.{refl, ap}
use Rattle.std.proofs.Common.{sym, subst, ◌∙◌, inl, inr, ⊎_elim, arith}
use mathlib.Core.List.{List, [], ◌∷◌, ◌++◌, map, append_assoc}
use Rattle.std.proofs.Math.Bool.{cond}
use Rattle.std.proofs.Math.ListN.{get_or-append}
use Rattle.lists.specs.Laws.{All}
use Rattle.limits.specs.declared.FarmCosts.{FarmCosts}
use Rattle.limits.specs.Says.{between_is}
use Rattle.walk.specs.declared.Chunk.{Chunk}
use Rattle.answers.specs.declared.Offer.{Offer}
use Rattle.planner.specs.Model.{Farm, between, Between, costs_within}
use Rattle.planner.specs.Calls.{Said, Open, Account, granted, refused, shows_within, open_said, open_farm, opened_with, unopened, account_said, held_by, allowance_of, offer_said, as_quote, quote_said}
use Rattle.planner.specs.Call.{Call, Noted, does, reply}
use Rattle.planner.specs.CallLaws.{none_noted}
use Rattle.reading.specs.declared.Kind.{Kind}
use Rattle.reading.specs.declared.Kind.TheVariants as kind
use Rattle.reading.specs.Model.{line_kind, readable, numbers_of}
use Rattle.lines.specs.Model.{costs_in, allowances_of, offer_in, Asks, an_opening, a_call, no_call, asked, longest, line_asks, Answered, unread, called, answered_as, answered_with, answered}
use Rattle.demands.specs.CallLists.{History, opening, run, held_of}
use Rattle.demands.specs.Demand1.{open_keeps}
use Rattle.demands.specs.Kept.{run_keeps}
use Rattle.demands.specs.Demand3.{Demand3, demand3}
use Rattle.printed.specs.Model.{lines_in, answers, day_text, line_answers, texts, lines_without_quotes, other_line_answers}
use Rattle.printed.specs.QuoteLines.{answers_texts, answers_without}
use Rattle.printed.specs.DayCalls.{calls_in, farm_after, Print, chunk, answer, print_texts, prints_of, line_prints, prints, collect, chunk_in, chunks_in, gone_on, gone_in, accepted_on, accepted_in, read_in, Reading, farm_after_lem, answers_text, collect_prints, read_lines, read_unopened, chunks_reading, accepted_reading, gone_reading}

-- ---- Lines

-- the line can be read, and is of this kind
pub record Reads (l : List ℕ) (k : Kind) : Type 0 where
  pub short : leb (length l) longest ≡ true
  pub reads : readable l ≡ true
  pub is : line_kind l ≡ k

-- the allowances on a `farm` line, and the farm that it opens
abbrev pub allowances_on : List ℕ → List ℕ
allowances_on l = allowances_of (numbers_of l)

abbrev pub farm_on : List ℕ → Farm
farm_on l = open_farm (get_or (numbers_of l) 0 0) (costs_in (numbers_of l)) (allowances_on l)

-- a line that asks for an opening, which is granted
pub record Opens (l : List ℕ) : Type 0 where
  pub line : line_asks l ≡ an_opening
  pub granted : (open_said (get_or (numbers_of l) 0 0) (costs_in (numbers_of l)) (allowances_on l)).number ≡ 0

-- a line that leaves the farm unopened
abbrev pub Stays : List ℕ → Type 0
Stays l = (answered unopened l).farm ≡ unopened

-- ---- An account

-- what an `account` line of show s is answered on a farm with these allowances after these `chunk` lines
abbrev pub account_of : List ℕ → ℕ → List Chunk → Said
account_of al s xs = cond (between 1 s (length al)) (granted Account (s ∷ held_of s xs ∷ (held_of s xs - get_or al (s - 1) 0) ∷ [])) (refused 4)

-- ---- A quote and its offer

-- one answer, which the line j is told behind the line q, and q with `quote` in place of `yes`
pub record QuotedAs (f : Farm) (q j : List ℕ) : Type 0 where
  pub told : Said
  pub first : line_prints f q ≡ answer (as_quote told) ∷ []
  pub next : line_prints (answered f q).farm j ≡ answer told ∷ []

-- ---- The claim

-- of the lines before the one that opens the farm, that one, and those after it
pub record DayDemand3 (before : List (List ℕ)) (l : List ℕ) (after : List (List ℕ)) : Type 0 where
  -- What is printed is the texts of these lines.
  pub text : answers unopened (before ++ l ∷ after) ≡ print_texts (prints unopened (before ++ l ∷ after))
  -- The farm after them is the farm that the calls leave.
  pub farm : farm_after unopened (before ++ l ∷ after) ≡ (run (opening (farm_on l)) (calls_in after)).farm
  -- The farm's costs are those on the `farm` line, wherever the others end: its p is the compute cost of a `job` line that gives none, and its r is in
  -- the finish of every chunk, and not in its end of computing.
  pub costs : (part rest : List (List ℕ)) → after ≡ part ++ rest → (farm_after unopened (before ++ l ∷ part)).costs ≡ costs_in (numbers_of l)
  -- The `chunk` lines printed are the chunks that the calls issue, in order.
  pub chunks : chunks_in (prints unopened (before ++ l ∷ after)) ≡ (run (opening (farm_on l)) (calls_in after)).lines
  -- The jobs that are told `yes` are the jobs that the calls accept, in order.
  pub accepted : accepted_in unopened (before ++ l ∷ after) ≡ (run (opening (farm_on l)) (calls_in after)).jobs
  -- The jobs that are told `gone` are the jobs that the calls withdraw, in order.
  pub gone : gone_in (prints unopened (before ++ l ∷ after)) ≡ (run (opening (farm_on l)) (calls_in after)).gone
  -- Demand 3 holds of the calls.
  pub demand : Demand3 (farm_on l) (calls_in after) (run (opening (farm_on l)) (calls_in after))
  -- Each `account` line prints, after what the lines before it print, what the `chunk` lines among that add up to.
  pub accounts : (part : List (List ℕ)) (a : List ℕ) (rest : List (List ℕ)) → after ≡ part ++ a ∷ rest → Reads a kind.Account
      → prints unopened (before ++ l ∷ after)
      ≡ prints unopened (before ++ l ∷ part)
      ++ answer (account_of (allowances_on l) (get_or (numbers_of a) 0 0) (chunks_in (prints unopened (before ++ l ∷ part))))
      ∷ prints (farm_after unopened (before ++ l ∷ part)) rest
  -- A `job` line right behind a `quote` line with the same numbers prints what was quoted, `yes` in place of `quote`.
  pub quoted : (part : List (List ℕ)) (q j : List ℕ) (rest : List (List ℕ)) → after ≡ part ++ q ∷ j ∷ rest → Reads q kind.Quote → Reads j kind.Job → numbers_of q ≡ numbers_of j
      → QuotedAs (farm_after unopened (before ++ l ∷ part)) q j

-- of all lines of a day: none opens a farm, no `chunk` line is printed, no job accepted and none withdrawn; or one opens it first, and demand 3 holds
pub data Day (ls : List (List ℕ)) : Type 0 where
  never : All Stays ls → chunks_in (prints unopened ls) ≡ [] → accepted_in unopened ls ≡ [] → gone_in (prints unopened ls) ≡ [] → Day ls
  opens : (before : List (List ℕ)) (l : List ℕ) (after : List (List ℕ)) → ls ≡ before ++ l ∷ after → All Stays before → Opens l → DayDemand3 before l after → Day ls

-- ---- A line that can be read

reads_asks : (l : List ℕ) (k : Kind) → Reads l k → line_asks l ≡ asked k
unfolding line_asks
reads_asks l k h = rw (h.short, h.reads) (ap asked h.is)

module _ (f : Farm) (l : List ℕ) (k : Kind) (g : ℕ → List ℕ → Call) (e : asked k ≡ a_call g) (o : f.opened ≡ true) (h : Reads l k) where
  abbrev call : Call
  call = g (length (numbers_of l)) (numbers_of l)

  -- On an opened farm a line that is a call is answered as the call.
  call_answered : answered f l ≡ called f call
  unfolding answered answered_as
  call_answered =
      ap (λ (a : Asks). answered_with f a (numbers_of l)) (reads_asks l k h ∙ e)
      ∙ ap (λ (b : Bool). cond b (called f call) (unread f)) o

  -- It prints its answer, where it issues no chunk.
  call_prints : (does f call).notes.lines ≡ [] → line_prints f l ≡ answer (reply f call) ∷ []
  call_prints n =
      ap prints_of call_answered
      ∙ ap (λ (xs : List Chunk). map chunk xs ++ answer (reply f call) ∷ [])
      (none_noted (λ (x : Noted). x.lines) f call n)

-- the offer on a line
abbrev offer_on : List ℕ → Offer
offer_on l = offer_in (length (numbers_of l)) (numbers_of l)

quoted_as : (f : Farm) (q j : List ℕ) → f.opened ≡ true → Reads q kind.Quote → Reads j kind.Job → numbers_of q ≡ numbers_of j → QuotedAs f q j
unfolding quote_said
quoted_as f q j o h k e =
    let same : (answered f q).farm ≡ f = ap (λ (x : Answered). x.farm) (call_answered f q kind.Quote _ refl o h) in
    record {
      told = offer_said f (offer_on j);
      first =
          call_prints f q kind.Quote _ refl o h refl
          ∙ ap (λ (ns : List ℕ). answer (as_quote (offer_said f (offer_in (length ns) ns))) ∷ []) e;
      next = ap (λ (g : Farm). line_prints g j) same ∙ call_prints f j kind.Job _ refl o k refl;
    }

-- ---- The opening

granted_opens : (n : ℕ) (c : FarmCosts) (al : List ℕ) → (open_said n c al).number ≡ 0 → open_farm n c al ≡ opened_with n c al
unfolding open_said open_farm
granted_opens n c al = go (between 1 n 64) (costs_within c) (shows_within al)
  where
    go : (a b d : Bool) → (cond {A = Said} a (cond b (cond d (granted Open (n ∷ length al ∷ [])) (refused 3)) (refused 2)) (refused 1)).number ≡ 0
        → cond {A = Farm} (a && b && d) (opened_with n c al) unopened ≡ opened_with n c al
    go true true true e = refl
    go true true false e = absurd (omega arith)
    go true false d e = absurd (omega arith)
    go false b d e = absurd (omega arith)

opens_opened : (l : List ℕ) → Opens l → (farm_on l).opened ≡ true
opens_opened l h = ap (λ (f : Farm). f.opened) (granted_opens (get_or (numbers_of l) 0 0) (costs_in (numbers_of l)) (allowances_on l) h.granted)

opens_costs : (l : List ℕ) → Opens l → (farm_on l).costs ≡ costs_in (numbers_of l)
opens_costs l h = ap (λ (f : Farm). f.costs) (granted_opens (get_or (numbers_of l) 0 0) (costs_in (numbers_of l)) (allowances_on l) h.granted)

opens_shows : (l : List ℕ) → Opens l → (farm_on l).shows ≡ length (allowances_on l)
opens_shows l h = ap (λ (f : Farm). f.shows) (granted_opens (get_or (numbers_of l) 0 0) (costs_in (numbers_of l)) (allowances_on l) h.granted)

opens_allowance : (l : List ℕ) → Opens l → (s : ℕ) → between 1 s (length (allowances_on l)) ≡ true → allowance_of (farm_on l) s ≡ get_or (allowances_on l) (s - 1) 0
opens_allowance l h s e =
    let al = allowances_on l in
    let b = between_is 1 s (length al) e in
    ap (λ (f : Farm). allowance_of f s) (granted_opens (get_or (numbers_of l) 0 0) (costs_in (numbers_of l)) al h.granted)
    ∙ get_or-append al (replicate (32 - length al) 0) 0 (s - 1) (omega (arith, b.0, b.1))

-- Before a farm is opened a line is answered what it asks for, an opening alone.
unopened_asks : (l : List ℕ) (a : Asks) → line_asks l ≡ a
    → (answered unopened l).farm ≡ (answered_with unopened a (numbers_of l)).farm
unfolding answered
unopened_asks l a e = ap (λ (x : Asks). (answered_with unopened x (numbers_of l)).farm) e

-- A line whose opening is granted hands its farm back.
pub opens_farm : (l : List ℕ) → Opens l → (answered unopened l).farm ≡ farm_on l
unfolding answered_as
opens_farm l h = unopened_asks l an_opening h.line

-- Before a farm is opened a line leaves it unopened or opens one.
pub stays_or_opens : (l : List ℕ) → Stays l ⊎ Opens l
unfolding answered_as
stays_or_opens l = go (line_asks l) refl
  where
    said : Said
    said = open_said (get_or (numbers_of l) 0 0) (costs_in (numbers_of l)) (allowances_on l)

    number : line_asks l ≡ an_opening → (m : ℕ) → said.number ≡ m → Stays l ⊎ Opens l
    number h zero e = inr (record { line = h; granted = e })
    number h (suc m) e =
        inl
        (unopened_asks l an_opening h ∙ open_keeps (get_or (numbers_of l) 0 0) (costs_in (numbers_of l)) (allowances_on l) m e)

    go : (a : Asks) → line_asks l ≡ a → Stays l ⊎ Opens l
    go an_opening h = number h said.number refl
    go (a_call g) h = inl (unopened_asks l (a_call g) h)
    go no_call h = inl (unopened_asks l no_call h)

-- ---- Lines in two parts

farm_append : (f : Farm) (xs ys : List (List ℕ)) → farm_after f (xs ++ ys) ≡ farm_after (farm_after f xs) ys
unfolding farm_after
farm_append f [] ys = refl
farm_append f (l ∷ xs) ys = farm_append (answered f l).farm xs ys

-- What lines in two parts print is what the one part prints, then what the other prints from the farm that the one leaves.
pub prints_append : (f : Farm) (xs ys : List (List ℕ)) → prints f (xs ++ ys) ≡ prints f xs ++ prints (farm_after f xs) ys
unfolding prints farm_after
prints_append f [] ys = refl
prints_append f (l ∷ xs) ys =
    ap (λ (ps : List Print). line_prints f l ++ ps) (prints_append (answered f l).farm xs ys)
    ∙ sym (append_assoc (line_prints f l) (prints (answered f l).farm xs) (prints (farm_after (answered f l).farm xs) ys))

prints_at : (f : Farm) (xs : List (List ℕ)) (a : List ℕ) (ys : List (List ℕ))
    → prints f (xs ++ a ∷ ys) ≡ prints f xs ++ (line_prints (farm_after f xs) a ++ prints (answered (farm_after f xs) a).farm ys)
unfolding prints
prints_at f xs a ys = prints_append f xs (a ∷ ys)

prints_behind : (f : Farm) (xs : List (List ℕ)) (l : List ℕ) (ys : List (List ℕ)) (a : List ℕ) (zs : List (List ℕ))
    → prints f (xs ++ l ∷ (ys ++ a ∷ zs)) ≡ prints f (xs ++ l ∷ ys) ++ (line_prints (farm_after f (xs ++ l ∷ ys)) a ++ prints (answered (farm_after f (xs ++ l ∷ ys)) a).farm zs)
prints_behind f xs l ys a zs =
    let e : (xs ++ l ∷ ys) ++ (a ∷ zs) ≡ xs ++ l ∷ (ys ++ a ∷ zs) = append_assoc xs (l ∷ ys) (a ∷ zs) in
    ap (prints f) (sym e) ∙ prints_at f (xs ++ l ∷ ys) a zs

read_append : {A : Type 0} (r : Farm → List ℕ → Print → List A) (f : Farm) (xs ys : List (List ℕ)) → read_in r f (xs ++ ys) ≡ read_in r f xs ++ read_in r (farm_after f xs) ys
unfolding read_in farm_after
read_append r f [] ys = refl
read_append {A} r f (l ∷ xs) ys =
    let first = collect (r f (numbers_of l)) (line_prints f l) in
    let g = (answered f l).farm in
    ap (λ (k : List A). first ++ k) (read_append r g xs ys) ∙ sym (append_assoc first (read_in r g xs) (read_in r (farm_after g xs) ys))

-- ---- Before the opening

stays_farm : (ls : List (List ℕ)) → All Stays ls → farm_after unopened ls ≡ unopened
unfolding farm_after
stays_farm [] h = refl
stays_farm (l ∷ ls) h = ap (λ (g : Farm). farm_after g ls) h.0 ∙ stays_farm ls h.1

-- Nothing is read of lines that leave the farm unopened, ..
stays_read : {A : Type 0} (r : Farm → List ℕ → Print → List A) (noted : History → List A) → Reading r noted → (ls : List (List ℕ)) → All Stays ls → read_in r unopened ls ≡ []
unfolding read_in
stays_read r noted x [] h = refl
stays_read {A} r noted x (l ∷ ls) h =
    ap (λ (k : List A). k ++ read_in r (answered unopened l).farm ls) (read_unopened r noted x l) ∙ ap (λ (g : Farm). read_in r g ls) h.0 ∙ stays_read r noted x ls h.1

stays_collect : {A : Type 0} (g : Print → List A) (noted : History → List A) → Reading (λ f ns. g) noted → (ls : List (List ℕ)) → All Stays ls → collect g (prints unopened ls) ≡ []
stays_collect g noted x ls h = collect_prints g unopened ls ∙ stays_read (λ f ns. g) noted x ls h

never_opens : (ls : List (List ℕ)) → All Stays ls → Day ls
never_opens ls h =
    never h (stays_collect chunk_in _ chunks_reading ls h) (stays_read accepted_on _ accepted_reading ls h)
    (stays_collect gone_on _ gone_reading ls h)

module _ (before : List (List ℕ)) (l : List ℕ) (h : All Stays before) (o : Opens l) where
  lines_farm : (after : List (List ℕ)) → farm_after unopened (before ++ l ∷ after) ≡ (run (opening (farm_on l)) (calls_in after)).farm
  unfolding farm_after
  lines_farm after =
      farm_append unopened before (l ∷ after)
      ∙ ap (λ (g : Farm). farm_after g (l ∷ after)) (stays_farm before h)
      ∙ ap (λ (g : Farm). farm_after g after) (opens_farm l o)
      ∙ farm_after_lem (farm_on l) after (opens_opened l o)

  lines_costs : (part : List (List ℕ)) → (farm_after unopened (before ++ l ∷ part)).costs ≡ costs_in (numbers_of l)
  lines_costs part = ap (λ (g : Farm). g.costs) (lines_farm part) ∙ (run_keeps (opening (farm_on l)) (calls_in part)).costs ∙ opens_costs l o

  -- .. and of those from the opening on what is noted of the calls that the others are.
  lines_read : {A : Type 0} (r : Farm → List ℕ → Print → List A) (noted : History → List A) → Reading r noted → (after : List (List ℕ))
      → read_in r unopened (before ++ l ∷ after) ≡ noted (run (opening (farm_on l)) (calls_in after))
  unfolding read_in
  lines_read {A} r noted x after =
      read_append r unopened before (l ∷ after)
      ∙ ap (λ (k : List A). k ++ read_in r (farm_after unopened before) (l ∷ after)) (stays_read r noted x before h)
      ∙ ap (λ (g : Farm). read_in r g (l ∷ after)) (stays_farm before h)
      ∙ ap (λ (k : List A). k ++ read_in r (answered unopened l).farm after) (read_unopened r noted x l)
      ∙ ap (λ (g : Farm). read_in r g after) (opens_farm l o)
      ∙ read_lines r noted x (farm_on l) after (opens_opened l o)

  lines_collect : {A : Type 0} (g : Print → List A) (noted : History → List A) → Reading (λ f ns. g) noted → (after : List (List ℕ))
      → collect g (prints unopened (before ++ l ∷ after)) ≡ noted (run (opening (farm_on l)) (calls_in after))
  lines_collect g noted x after = collect_prints g unopened (before ++ l ∷ after) ∙ lines_read (λ f ns. g) noted x after

  lines_chunks : (after : List (List ℕ)) → chunks_in (prints unopened (before ++ l ∷ after)) ≡ (run (opening (farm_on l)) (calls_in after)).lines
  lines_chunks after = lines_collect chunk_in (λ (w : History). w.lines) chunks_reading after

  lines_demand : (after : List (List ℕ)) → Demand3 (farm_on l) (calls_in after) (run (opening (farm_on l)) (calls_in after))
  lines_demand after = demand3 (get_or (numbers_of l) 0 0) (costs_in (numbers_of l)) (allowances_on l) o.granted (calls_in after)

  lines_account : (part : List (List ℕ)) (s : ℕ)
      → account_said (run (opening (farm_on l)) (calls_in part)).farm s ≡ account_of (allowances_on l) s (run (opening (farm_on l)) (calls_in part)).lines
  unfolding account_said
  lines_account part s =
      ap (λ (b : Bool). cond b (cond (between 1 s w.farm.shows) said (refused 4)) (refused 11)) d.passes
      ∙ ap (λ (n : ℕ). cond (between 1 s n) said (refused 4)) shows
      ∙ go (between 1 s (length (allowances_on l))) refl
    where
      w : History
      w = run (opening (farm_on l)) (calls_in part)

      d : Demand3 (farm_on l) (calls_in part) w
      d = lines_demand part

      said : Said
      said = granted Account (s ∷ held_by w.farm s ∷ (held_by w.farm s - allowance_of w.farm s) ∷ [])

      shows : w.farm.shows ≡ length (allowances_on l)
      shows = (run_keeps (opening (farm_on l)) (calls_in part)).shows ∙ opens_shows l o

      held : between 1 s (length (allowances_on l)) ≡ true → held_by w.farm s ≡ held_of s w.lines
      held e = d.held s (subst (λ (n : ℕ). Between 1 s n) (sym shows) (between_is 1 s (length (allowances_on l)) e))

      allowance : between 1 s (length (allowances_on l)) ≡ true → allowance_of w.farm s ≡ get_or (allowances_on l) (s - 1) 0
      allowance e =
          ap (λ (al : List ℕ). get_or al (s - 1) 0) (run_keeps (opening (farm_on l)) (calls_in part)).allowances ∙ opens_allowance l o s e

      go : (b : Bool) → between 1 s (length (allowances_on l)) ≡ b
          → cond b said (refused 4)
          ≡ cond b (granted Account (s ∷ held_of s w.lines ∷ (held_of s w.lines - get_or (allowances_on l) (s - 1) 0) ∷ [])) (refused 4)
      go true e =
          ap (λ (n : ℕ). granted Account (s ∷ n ∷ (n - allowance_of w.farm s) ∷ [])) (held e)
          ∙ ap (λ (n : ℕ). granted Account (s ∷ held_of s w.lines ∷ (held_of s w.lines - n) ∷ [])) (allowance e)
      go false e = refl

  lines_opened : (part : List (List ℕ)) → (farm_after unopened (before ++ l ∷ part)).opened ≡ true
  lines_opened part = ap (λ (f : Farm). f.opened) (lines_farm part) ∙ (run_keeps (opening (farm_on l)) (calls_in part)).opened ∙ opens_opened l o

  lines_accounts : (part : List (List ℕ)) (a : List ℕ) (rest : List (List ℕ)) → Reads a kind.Account
      → prints unopened (before ++ l ∷ (part ++ a ∷ rest))
      ≡ prints unopened (before ++ l ∷ part)
      ++ answer (account_of (allowances_on l) (get_or (numbers_of a) 0 0) (chunks_in (prints unopened (before ++ l ∷ part))))
      ∷ prints (farm_after unopened (before ++ l ∷ part)) rest
  lines_accounts part a rest r =
      prints_behind unopened before l part a rest
      ∙ ap (λ (ps : List Print). prints unopened (before ++ l ∷ part) ++ ps) then
    where
      g : Farm
      g = farm_after unopened (before ++ l ∷ part)

      s : ℕ
      s = get_or (numbers_of a) 0 0

      said : line_prints g a ≡ answer (account_of (allowances_on l) s (chunks_in (prints unopened (before ++ l ∷ part)))) ∷ []
      said =
          call_prints g a kind.Account _ refl (lines_opened part) r refl
          ∙ ap (λ (x : Said). answer x ∷ [])
          (ap (λ (f : Farm). account_said f s) (lines_farm part) ∙ lines_account part s ∙ ap (account_of (allowances_on l) s) (sym (lines_chunks part)))

      then : line_prints g a ++ prints (answered g a).farm rest ≡ answer (account_of (allowances_on l) s (chunks_in (prints unopened (before ++ l ∷ part)))) ∷ prints g rest
      then =
          ap (λ (ps : List Print). ps ++ prints (answered g a).farm rest) said
          ∙ ap (λ (f : Farm). answer (account_of (allowances_on l) s (chunks_in (prints unopened (before ++ l ∷ part)))) ∷ prints f rest) (ap (λ (x : Answered). x.farm) (call_answered g a kind.Account _ refl (lines_opened part) r))

-- ---- The theorems

-- **Demand 3 of the lines of a day** that leave the farm unopened, then open it, then are any others.
pub day_demand3 : (before : List (List ℕ)) (l : List ℕ) (after : List (List ℕ)) → All Stays before → Opens l → DayDemand3 before l after
day_demand3 before l after h o = record {
  text = answers_text unopened (before ++ l ∷ after);
  farm = lines_farm before l h o after;
  costs = λ part rest e. lines_costs before l h o part;
  chunks = lines_chunks before l h o after;
  accepted = lines_read before l h o accepted_on (λ (w : History). w.jobs) accepted_reading after;
  gone = lines_collect before l h o gone_on (λ (w : History). w.gone) gone_reading after;
  demand = lines_demand before l h o after;
  accounts = λ part a rest e r. ap (λ (xs : List (List ℕ)). prints unopened (before ++ l ∷ xs)) e ∙ lines_accounts before l h o part a rest r;
  quoted = λ part q j rest e r k n. quoted_as (farm_after unopened (before ++ l ∷ part)) q j (lines_opened before l h o part) r k n;
}

further : (l : List ℕ) (ls : List (List ℕ)) → Stays l → Day ls → Day (l ∷ ls)
further l ls s (never h k j g) = never_opens (l ∷ ls) (s, h)
further l ls s (opens before x after e h o d) = opens (l ∷ before) x after (ap (λ (xs : List (List ℕ)). l ∷ xs) e) (s, h) o (day_demand3 (l ∷ before) x after (s, h) o)

-- All lists of lines are such lines, or none of them opens a farm.
pub lines_day : (ls : List (List ℕ)) → Day ls
lines_day [] = never_opens [] tt
lines_day (l ∷ ls) = ⊎_elim (λ s. further l ls s (lines_day ls)) (λ o. opens [] l ls refl tt o (day_demand3 [] l ls tt o)) (stays_or_opens l)

-- of an input
pub record PrintedDay (bs : List ℕ) : Type 0 where
  -- What the program prints for it is the texts of its printed lines, of which `Day` holds.
  pub text : day_text bs ≡ print_texts (prints unopened (lines_in bs))
  pub day : Day (lines_in bs)
  -- It is the answers of its lines, one after the other. Without the `quote` lines every other line is answered what it is answered among them,
  pub each : day_text bs ≡ texts (line_answers unopened (lines_in bs))
  pub others : line_answers unopened (lines_without_quotes (lines_in bs)) ≡ other_line_answers unopened (lines_in bs)
  -- and an input of the other lines alone prints these answers.
  pub rest : (cs : List ℕ) → lines_in cs ≡ lines_without_quotes (lines_in bs) → day_text cs ≡ texts (other_line_answers unopened (lines_in bs))

-- **Demand 3 of every input.**
pub printed_day : (bs : List ℕ) → PrintedDay bs
printed_day bs = record {
  text = answers_text unopened (lines_in bs);
  day = lines_day (lines_in bs);
  each = answers_texts unopened (lines_in bs);
  others = answers_without unopened (lines_in bs);
  rest = λ cs e. ap (answers unopened) e ∙ answers_texts unopened (lines_without_quotes (lines_in bs)) ∙ ap texts (answers_without unopened (lines_in bs));
}
