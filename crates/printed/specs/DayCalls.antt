-- What a day prints is the text of the calls that its readable lines are: the farm after it is the farm that those calls leave (`farm_after_lem`), its `chunk`
-- lines are the chunks that they issue, the jobs told `yes` those that they accept, and those told `gone` those that they withdraw (`read_lines`, with
-- `chunks_reading`, `accepted_reading` and `gone_reading`). So demand 3, which is about lists of calls, can be said of what the program prints (DayDemand3).
-- The definitions come first.
use Rattle.std.specs.Prelude.{◌≡◌, refl, Bool, true, false, cond, not, ◌&&◌, leb, eqb, length, get_or, replicate}
use Rattle.std.proofs.Math.Path.{ap, sym}
use Rattle.std.proofs.Common.{◌∙◌, eqb-true}
use mathlib.Core.List.{List, [], ◌∷◌, ◌++◌, map, append-nil, append_assoc}
use Prim.Native.Nat.{ℕ}
use Rattle.limits.specs.declared.FarmCosts.{FarmCosts}
use Rattle.walk.specs.declared.Chunk.{Chunk}
use Rattle.walk.specs.Model.{no_chunk}
use Rattle.answers.specs.declared.Offer.{Offer}
use Rattle.planner.specs.Model.{Farm, between, costs_within}
use Rattle.planner.specs.Calls.{SaidWord, Open, Yes, Clock, Shown, Account, Gone, Quote, No, Said, granted, refused, unopened, shows_within, open_said, offer_said, quote_said}
use Rattle.planner.specs.Call.{Call, Accepted, accepted_from, Noted, nothing, does, reply, is_granted, noted}
use Rattle.reading.specs.declared.Kind.{Kind}
use Rattle.reading.specs.declared.Kind.TheVariants as kind
use Rattle.reading.specs.Model.{line_kind, readable, numbers_of}
use Rattle.lines.specs.Model.{answer_text, chunk_text, chunk_texts, costs_in, allowances_of, offer_in, lent, Asks, an_opening, a_call, no_call, asked, longest, line_asks, Answered, answered_text, unread, opening_with, called, answered_as, answered_with, answered}
use Rattle.demands.specs.Demand1.{quote_given, withdraw_leaves, move_writes, account_says}
use Rattle.demands.specs.Kept.{run_keeps}
use Rattle.demands.specs.CallLists.{History, opening, note, run}
use Rattle.demands.specs.Invariant.{run_append}
use Rattle.printed.specs.Model.{answers}

-- ---- The calls that lines are

-- the call that a line of these numbers is once a farm is opened: none where it asks for an opening or cannot be read
abbrev pub call_in : Asks → List ℕ → List Call
call_in an_opening ns = []
call_in (a_call g) ns = g (length ns) ns ∷ []
call_in no_call ns = []

abbrev pub line_call : List ℕ → List Call
line_call l = call_in (line_asks l) (numbers_of l)

-- the calls that lines are, in order
unfoldable pub calls_in : List (List ℕ) → List Call
calls_in [] = []
calls_in (l ∷ ls) = line_call l ++ calls_in ls

-- the farm after lines
unfoldable pub farm_after : Farm → List (List ℕ) → Farm
farm_after f [] = f
farm_after f (l ∷ ls) = farm_after (answered f l).farm ls

-- ---- What lines print

-- a printed line: a `chunk` line of a record, or an answer
pub data Print : Type 0 where
  chunk : Chunk → Print
  answer : Said → Print

abbrev pub print_text : Print → List ℕ
print_text (chunk x) = chunk_text x
print_text (answer s) = answer_text s

unfoldable pub print_texts : List Print → List ℕ
print_texts [] = []
print_texts (p ∷ ps) = print_text p ++ print_texts ps

-- what a line prints: the chunks that it issues, then what it is told
abbrev pub prints_of : Answered → List Print
prints_of a = map chunk a.chunks ++ answer a.said ∷ []

abbrev pub line_prints : Farm → List ℕ → List Print
line_prints f l = prints_of (answered f l)

-- what lines print, one after the other
unfoldable pub prints : Farm → List (List ℕ) → List Print
prints f [] = []
prints f (l ∷ ls) = line_prints f l ++ prints (answered f l).farm ls

-- ---- What can be read of printed lines

-- what each of them gives, one after the other
unfoldable pub collect : {A : Type 0} → (Print → List A) → List Print → List A
collect g [] = []
collect g (p ∷ ps) = g p ++ collect g ps

-- the records of the `chunk` lines among them
abbrev pub chunk_in : Print → List Chunk
chunk_in (chunk x) = x ∷ []
chunk_in (answer s) = []

abbrev pub chunks_in : List Print → List Chunk
chunks_in ps = collect chunk_in ps

-- a number for each word, to compare them by
abbrev pub word_code : SaidWord → ℕ
word_code Open = 0
word_code Yes = 1
word_code Clock = 2
word_code Shown = 3
word_code Account = 4
word_code Gone = 5
word_code Quote = 6
word_code No = 7

abbrev pub same_word : SaidWord → SaidWord → Bool
same_word v w = eqb (word_code v) (word_code w)

-- what an answer with this word tells by its values, where it is no refusal; other answers and `chunk` lines tell
-- nothing
abbrev pub told_under : {A : Type 0} → SaidWord → (List ℕ → A) → Print → List A
told_under w g (chunk x) = []
told_under w g (answer s) = cond (eqb s.number 0 && same_word s.word w) (g s.values ∷ []) []

-- the jobs told `gone`
abbrev pub gone_on : Print → List ℕ
gone_on p = told_under Gone (λ (vs : List ℕ). get_or vs 0 0) p

abbrev pub gone_in : List Print → List ℕ
gone_in ps = collect gone_on ps

-- the job accepted by an answer to a line with these numbers: a `yes` with its job number, for the show, size and deadline on the line, and for the
-- compute cost on the line or, where there is none, the farm's
abbrev pub accepted_on : Farm → List ℕ → Print → List Accepted
accepted_on f ns p = told_under Yes (λ (vs : List ℕ). accepted_from f (offer_in (length ns) ns) (get_or vs 0 0)) p

-- what can be read of the prints of lines, each by the farm before it and its numbers
unfoldable pub read_in : {A : Type 0} → (Farm → List ℕ → Print → List A) → Farm → List (List ℕ) → List A
read_in r f [] = []
read_in r f (l ∷ ls) = collect (r f (numbers_of l)) (line_prints f l) ++ read_in r (answered f l).farm ls

-- the jobs that lines are told `yes` to
abbrev pub accepted_in : Farm → List (List ℕ) → List Accepted
accepted_in f ls = read_in accepted_on f ls

-- ---- The farm

line_farm : (w : History) (l : List ℕ) → w.farm.opened ≡ true → (answered w.farm l).farm ≡ (run w (line_call l)).farm
unfolding answered answered_as run
line_farm w l o = go (line_asks l)
  where
    ns : List ℕ
    ns = numbers_of l

    go : (a : Asks) → (answered_with w.farm a ns).farm ≡ (run w (call_in a ns)).farm
    go an_opening =
        ap (λ (b : Bool). (cond {A = Answered} (not b) (opening_with ns (allowances_of ns)) (unread w.farm)).farm) o
    go (a_call g) =
        ap (λ (b : Bool). (cond {A = Answered} b (called w.farm (g (length ns) ns)) (unread w.farm)).farm) o
    go no_call = refl

farm_from : (w : History) (ls : List (List ℕ)) → w.farm.opened ≡ true → farm_after w.farm ls ≡ (run w (calls_in ls)).farm
unfolding farm_after calls_in run
farm_from w [] o = refl
farm_from w (l ∷ ls) o =
    ap (λ (g : Farm). farm_after g ls) (line_farm w l o)
    ∙ farm_from (run w (line_call l)) ls ((run_keeps w (line_call l)).opened ∙ o)
    ∙ ap (λ (v : History). v.farm) (sym (run_append w (line_call l) (calls_in ls)))

-- The farm after lines is the farm that their calls leave.
pub farm_after_lem : (f : Farm) (ls : List (List ℕ)) → f.opened ≡ true → farm_after f ls ≡ (run (opening f) (calls_in ls)).farm
farm_after_lem f ls o = farm_from (opening f) ls o

-- ---- The text

texts_append : (ps qs : List Print) → print_texts (ps ++ qs) ≡ print_texts ps ++ print_texts qs
unfolding print_texts
texts_append [] qs = refl
texts_append (p ∷ ps) qs = ap (λ (l : List ℕ). print_text p ++ l) (texts_append ps qs) ∙ sym (append_assoc (print_text p) (print_texts ps) (print_texts qs))

texts_chunks : (xs : List Chunk) → print_texts (map chunk xs) ≡ chunk_texts xs
unfolding print_texts chunk_texts
texts_chunks [] = refl
texts_chunks (x ∷ xs) = ap (λ (l : List ℕ). chunk_text x ++ l) (texts_chunks xs)

texts_one : (s : Said) → print_texts (answer s ∷ []) ≡ answer_text s
unfolding print_texts
texts_one s = append-nil (answer_text s)

-- What a line is answered is the text of what it prints.
pub line_text_lem : (a : Answered) → answered_text a ≡ print_texts (prints_of a)
line_text_lem a =
    sym (texts_append (map chunk a.chunks) (answer a.said ∷ [])
    ∙ ap (λ (l : List ℕ). l ++ print_texts (answer a.said ∷ [])) (texts_chunks a.chunks)
    ∙ ap (λ (l : List ℕ). chunk_texts a.chunks ++ l) (texts_one a.said))

-- The answers of lines are the texts of what they print, one after the other.
pub answers_text : (f : Farm) (ls : List (List ℕ)) → answers f ls ≡ print_texts (prints f ls)
unfolding answers prints print_texts
answers_text f [] = refl
answers_text f (l ∷ ls) =
    ap (λ (t : List ℕ). t ++ answers (answered f l).farm ls) (line_text_lem (answered f l))
    ∙ ap (λ (t : List ℕ). print_texts (line_prints f l) ++ t) (answers_text (answered f l).farm ls)
    ∙ sym (texts_append (line_prints f l) (prints (answered f l).farm ls))

-- ---- What is read of lines is what is noted of their calls

-- What is collected of two lists of printed lines is that of the one, then that of the other.
pub collect_append : {A : Type 0} (g : Print → List A) (ps qs : List Print) → collect g (ps ++ qs) ≡ collect g ps ++ collect g qs
unfolding collect
collect_append g [] qs = refl
collect_append {A} g (p ∷ ps) qs = ap (λ (l : List A). g p ++ l) (collect_append g ps qs) ∙ sym (append_assoc (g p) (collect g ps) (collect g qs))

-- What is collected of all that lines print is read line by line.
pub collect_prints : {A : Type 0} (g : Print → List A) (f : Farm) (ls : List (List ℕ)) → collect g (prints f ls) ≡ read_in (λ f ns. g) f ls
unfolding collect prints read_in
collect_prints g f [] = refl
collect_prints {A} g f (l ∷ ls) =
    collect_append g (line_prints f l) (prints (answered f l).farm ls) ∙ ap (λ (xs : List A). collect g (line_prints f l) ++ xs) (collect_prints g (answered f l).farm ls)

-- what r reads of the answer to a call is what is kept of the call
abbrev pub ReadsCall : {A : Type 0} → (Farm → List ℕ → Print → List A) → (History → List A) → History → List ℕ → Asks
    → Type 0
ReadsCall r kept w ns an_opening = Unit
ReadsCall r kept w ns (a_call g) =
    kept w ++ collect (r w.farm ns) (prints_of (called w.farm (g (length ns) ns))) ≡ kept
    (note w (g (length ns) ns))
ReadsCall r kept w ns no_call = Unit

-- of every line in its turn, what r reads is what is kept of the call that it is; it reads nothing of `no 11` and of an
-- opening
pub record Reading {A : Type 0} (r : Farm → List ℕ → Print → List A) (kept : History → List A) : Type 0 where
  pub unread : (f : Farm) (ns : List ℕ) → r f ns (answer (refused 11)) ≡ []
  pub opens : (f : Farm) (ns : List ℕ) (n : ℕ) (c : FarmCosts) (al : List ℕ) → r f ns (answer (open_said n c al)) ≡ []
  pub starts : (f : Farm) → kept (opening f) ≡ []
  pub calls : (w : History) (ns : List ℕ) (k : Kind) → ReadsCall r kept w ns (asked k)

-- What holds of the lines of each kind holds of every line.
by_kind : (P : Asks → Type 0) → ((k : Kind) → P (asked k)) → (l : List ℕ) → P (line_asks l)
unfolding line_asks
by_kind P h l = go (leb (length l) longest) (readable l)
  where
    go : (a b : Bool) → P (cond a (cond b (asked (line_kind l)) no_call) no_call)
    go true true = h (line_kind l)
    go true false = h kind.Unreadable
    go false b = h kind.Unreadable

module _ {A : Type 0} (r : Farm → List ℕ → Print → List A) (kept : History → List A) (x : Reading r kept) where
  unread_none : (f : Farm) (ns : List ℕ) → collect (r f ns) (prints_of (unread f)) ≡ []
  unfolding collect
  unread_none f ns = ap (λ (l : List A). l ++ []) (x.unread f ns)

  line_read : (w : History) (l : List ℕ) → w.farm.opened ≡ true
      → kept w ++ collect (r w.farm (numbers_of l)) (line_prints w.farm l) ≡ kept (run w (line_call l))
  unfolding answered answered_as run
  line_read w l o = go (line_asks l) (by_kind (ReadsCall r kept w ns) (x.calls w ns) l)
    where
      ns : List ℕ
      ns = numbers_of l

      read : Answered → List A
      read a = kept w ++ collect (r w.farm ns) (prints_of a)

      none : read (unread w.farm) ≡ kept w
      none = ap (λ (k : List A). kept w ++ k) (unread_none w.farm ns) ∙ append-nil (kept w)

      go : (a : Asks) → ReadsCall r kept w ns a → read (answered_with w.farm a ns) ≡ kept (run w (call_in a ns))
      go an_opening h =
          ap (λ (b : Bool). read (cond (not b) (opening_with ns (allowances_of ns)) (unread w.farm))) o
          ∙ none
      go (a_call g) h = ap (λ (b : Bool). read (cond b (called w.farm (g (length ns) ns)) (unread w.farm))) o ∙ h
      go no_call h = none

  read_from : (w : History) (ls : List (List ℕ)) → w.farm.opened ≡ true
      → kept w ++ read_in r w.farm ls ≡ kept (run w (calls_in ls))
  unfolding read_in calls_in run
  read_from w [] o = append-nil (kept w)
  read_from w (l ∷ ls) o =
      sym (append_assoc (kept w) (collect (r w.farm (numbers_of l)) (line_prints w.farm l)) (read_in r (answered w.farm l).farm ls))
      ∙ ap (λ (k : List A). k ++ read_in r (answered w.farm l).farm ls) (line_read w l o)
      ∙ ap (λ (g : Farm). kept (run w (line_call l)) ++ read_in r g ls) (line_farm w l o)
      ∙ read_from (run w (line_call l)) ls ((run_keeps w (line_call l)).opened ∙ o)
      ∙ ap kept (sym (run_append w (line_call l) (calls_in ls)))

  -- What is read of lines after an opening is what is noted of their calls, in order.
  pub read_lines : (f : Farm) (ls : List (List ℕ)) → f.opened ≡ true
      → read_in r f ls ≡ kept (run (opening f) (calls_in ls))
  read_lines f ls o = ap (λ (k : List A). k ++ read_in r f ls) (sym (x.starts f)) ∙ read_from (opening f) ls o

  -- Before it nothing is read of a line.
  pub read_unopened : (l : List ℕ) → collect (r unopened (numbers_of l)) (line_prints unopened l) ≡ []
  unfolding answered answered_as collect
  read_unopened l = go (line_asks l)
    where
      ns : List ℕ
      ns = numbers_of l

      go : (a : Asks) → collect (r unopened ns) (prints_of (answered_with unopened a ns)) ≡ []
      go an_opening = ap (λ (k : List A). k ++ []) (x.opens unopened ns (get_or ns 0 0) (costs_in ns) (allowances_of ns))
      go (a_call g) = unread_none unopened ns
      go no_call = unread_none unopened ns

-- ---- The chunk lines

chunks_printed : (xs : List Chunk) (s : Said) → chunks_in (map chunk xs ++ answer s ∷ []) ≡ xs
unfolding collect
chunks_printed [] s = refl
chunks_printed (x ∷ xs) s = ap (λ (l : List Chunk). x ∷ l) (chunks_printed xs s)

-- The `chunk` lines printed are the chunks that the calls issue.
pub chunks_reading : Reading (λ f ns. chunk_in) (λ (w : History). w.lines)
chunks_reading = record { unread = λ f ns. refl; opens = λ f ns n c al. refl; starts = λ f. refl; calls = λ w ns k. calls w ns (asked k) }
  where
    calls : (w : History) (ns : List ℕ) (a : Asks) → ReadsCall (λ f ns. chunk_in) (λ (w : History). w.lines) w ns a
    calls w ns an_opening = tt
    calls w ns (a_call g) = let c = g (length ns) ns in ap (λ (l : List Chunk). w.lines ++ l) (chunks_printed (noted w.farm c).lines (reply w.farm c))
    calls w ns no_call = tt

-- ---- The words of answers

quote_number : (f : Farm) (o : Offer) → (quote_said f o).number ≡ 0 → (offer_said f o).number ≡ 0
unfolding quote_said
quote_number f o e = e

-- the word under which a call on a line with these numbers is granted; what is told under `yes` and under `gone` where it
-- is, is what it notes
record TellsNoted (f : Farm) (ns : List ℕ) (c : Call) : Type 0 where
  word : SaidWord
  grants : (reply f c).number ≡ 0 → (reply f c).word ≡ word
  jobs : cond (same_word word Yes) (accepted_from f (offer_in (length ns) ns) (get_or (reply f c).values 0 0) ∷ []) []
      ≡ (does f c).notes.jobs
  gone : cond (same_word word Gone) (get_or (reply f c).values 0 0 ∷ []) [] ≡ (does f c).notes.gone

abbrev AsksNoted : Farm → List ℕ → Asks → Type 0
AsksNoted f ns an_opening = Unit
AsksNoted f ns (a_call g) = TellsNoted f ns (g (length ns) ns)
AsksNoted f ns no_call = Unit

under : {s t : Said} → s ≡ t → s.word ≡ t.word
under e = ap (λ (s : Said). s.word) e

-- So it is of the lines of each kind.
kind_tells : (f : Farm) (ns : List ℕ) (k : Kind) → AsksNoted f ns (asked k)
kind_tells f ns kind.Farm = tt
kind_tells f ns kind.Job = record {
  word = Yes;
  grants = λ e. under (quote_given f _ e).0;
  jobs = refl;
  gone = refl;
}
kind_tells f ns kind.Clock = record {
  word = Clock;
  grants = λ e. under (move_writes f _ (replicate lent no_chunk) e).0;
  jobs = refl;
  gone = refl;
}
kind_tells f ns kind.Account = record {
  word = Account;
  grants = λ e. under (account_says f _ e);
  jobs = refl;
  gone = refl;
}
kind_tells f ns kind.Withdraw = record {
  word = Gone;
  grants = λ e. under (withdraw_leaves f _ e).0;
  jobs = refl;
  gone = refl;
}
kind_tells f ns kind.Quote = record {
  word = Quote;
  grants = λ e. under (quote_given f _ (quote_number f _ e)).1;
  jobs = refl;
  gone = refl;
}
kind_tells f ns kind.Unreadable = tt

-- An opening is granted under another word than these.
open_tells : {A : Type 0} (w : SaidWord) (g : List ℕ → A) → same_word Open w ≡ false → (n : ℕ) (c : FarmCosts) (al : List ℕ)
    → told_under w g (answer (open_said n c al)) ≡ []
unfolding open_said
open_tells {A} w g e n c al = go (between 1 n 64) (costs_within c) (shows_within al)
  where
    go : (a b d : Bool)
        → told_under w g (answer (cond a (cond b (cond d (granted Open (n ∷ length al ∷ [])) (refused 3)) (refused 2)) (refused 1)))
        ≡ []
    go true true true = ap (λ (b : Bool). cond {A = List A} b (g (n ∷ length al ∷ []) ∷ []) []) e
    go true true false = refl
    go true false d = refl
    go false b d = refl

-- ---- Accepted and withdrawn jobs

-- Of what a line prints what its answer tells is read.
told_after : {A : Type 0} (w : SaidWord) (g : List ℕ → A) (xs : List Chunk) (s : Said)
    → collect (told_under w g) (map chunk xs ++ answer s ∷ []) ≡ told_under w g (answer s)
unfolding collect
told_after w g [] s = append-nil (told_under w g (answer s))
told_after w g (x ∷ xs) s = told_after w g xs s

-- what answers under a word tell is what is noted of granted calls
record ReadsAnswers {A : Type 0} (w : SaidWord) (g : Farm → List ℕ → List ℕ → A) (of : Noted → List A) (kept : History → List A)
    : Type 0 where
  other : same_word Open w ≡ false
  none : of nothing ≡ []
  starts : (f : Farm) → kept (opening f) ≡ []
  notes : (v : History) (c : Call) → kept (note v c) ≡ kept v ++ of (noted v.farm c)
  calls : (f : Farm) (ns : List ℕ) (c : Call) (t : TellsNoted f ns c)
      → cond {A = List A} (same_word t.word w) (g f ns (reply f c).values ∷ []) [] ≡ of (does f c).notes

answers_reading : {A : Type 0} (w : SaidWord) (g : Farm → List ℕ → List ℕ → A) (of : Noted → List A) (kept : History → List A)
    → ReadsAnswers w g of kept → Reading (λ f ns. told_under w (g f ns)) kept
answers_reading {A} w g of kept x = record {
  unread = λ f ns. refl;
  opens = λ f ns n c al. open_tells w (g f ns) x.other n c al;
  starts = x.starts;
  calls = λ v ns k. calls v ns (asked k) (kind_tells v.farm ns k);
}
  where
    told : (f : Farm) (ns : List ℕ) (c : Call) → TellsNoted f ns c → told_under w (g f ns) (answer (reply f c)) ≡ of (noted f c)
    told f ns c t = go (is_granted f c) refl
      where
        under_word : SaidWord → List A
        under_word v = cond (same_word v w) (g f ns (reply f c).values ∷ []) []

        go : (b : Bool) → is_granted f c ≡ b
            → cond {A = List A} (b && same_word (reply f c).word w) (g f ns (reply f c).values ∷ []) []
            ≡ of (cond b (does f c).notes nothing)
        go true e = ap under_word (t.grants (eqb-true (reply f c).number 0 e)) ∙ x.calls f ns c t
        go false e = sym x.none

    calls : (v : History) (ns : List ℕ) (a : Asks) → AsksNoted v.farm ns a
        → ReadsCall (λ f ns. told_under w (g f ns)) kept v ns a
    calls v ns an_opening t = tt
    calls v ns (a_call k) t =
        let c = k (length ns) ns in
        ap (λ (l : List A). kept v ++ l)
        (told_after w (g v.farm ns) (noted v.farm c).lines (reply v.farm c) ∙ told v.farm ns c t)
        ∙ sym (x.notes v c)
    calls v ns no_call t = tt

-- The jobs that are told `yes` are those that the calls accept.
pub accepted_reading : Reading accepted_on (λ (w : History). w.jobs)
accepted_reading =
    answers_reading Yes (λ f ns vs. accepted_from f (offer_in (length ns) ns) (get_or vs 0 0)) (λ (n : Noted). n.jobs)
    (λ (w : History). w.jobs) (record {
      other = refl;
      none = refl;
      starts = λ f. refl;
      notes = λ v c. refl;
      calls = λ f ns c t. t.jobs;
    })

-- The jobs that are told `gone` are those that the calls withdraw.
pub gone_reading : Reading (λ f ns. gone_on) (λ (w : History). w.gone)
gone_reading =
    answers_reading Gone (λ f ns vs. get_or vs 0 0) (λ (n : Noted). n.gone) (λ (w : History). w.gone) (record {
      other = refl;
      none = refl;
      starts = λ f. refl;
      notes = λ v c. refl;
      calls = λ f ns c t. t.gone;
    })
