-- What commands and queries print and leave, a clock move's answer and the records that it is lent, for src/blocks.rt.
use Rattle.std.specs.Prelude.{◌≡◌, refl, List, [], ◌++◌, map, ℕ, ◌+◌, ◌≤◌, ◌<◌, length, take, Result, true, is_ok}
use Rattle.std.proofs.Common.{ap, ap₂, sym, subst, ◌∙◌, arith, length-append}
use Rattle.std.proofs.lemmas.List.{length-map}
use Rattle.lists.specs.Laws.{All}
use Rattle.keys.specs.declared.Key.{Key}
use Rattle.walk.specs.declared.Job.{Job}
use Rattle.walk.specs.declared.Chunk.{Chunk}
use Rattle.walk.specs.Model.{in_order}
use Rattle.walk.specs.Chunks.{Sendable}
use Rattle.timetable.specs.Model.{chunk_row, lines_of_all}
use Rattle.timetable.specs.BeginSteps.{chunks}
use Rattle.answers.specs.declared.Granted.{Granted}
use Rattle.answers.specs.declared.Question.{Question}
use Rattle.planner.specs.declared.Move.{Move}
use Rattle.planner.specs.Model.{Farm, Sized}
use Rattle.planner.specs.Call.{offer, quote, withdraw, account, reply, handed}
use Rattle.planner.specs.Calls.{Said, said}
use Rattle.planner.specs.Parts.{CellsSized}
use Rattle.planner.specs.Clock.{move_said, move_lines}
use Rattle.planner.specs.ClockSteps.{Begins, MoveDecides, begins_places, begins_sends, begins_lines, begins_count, move_taken}
use Rattle.lines.specs.declared.Command.{Command}
use Rattle.lines.specs.declared.Command.TheVariants as command
use Rattle.lines.specs.declared.Query.{Query}
use Rattle.lines.specs.declared.Query.TheVariants as query
use Rattle.lines.specs.Orders.{command_call, query_call}
use Rattle.lines.specs.Model.{answer_text, chunk_texts, answered_text, called, lent}
use Rattle.lines.specs.Rows.{call_text}
use Rattle.lines.specs.AnswerLines.{row_texts, front_texts}

-- A command issues no chunk, so that it prints what it is told,
pub command_text : (f : Farm) (c : Command) {s : Said} → s ≡ reply f (command_call c) → answer_text s ≡ answered_text (called f (command_call c))
command_text f (command.Offer o) e = call_text f (offer o) refl e
command_text f (command.Withdraw n) e = call_text f (withdraw n) refl e

-- and so does a query,
pub query_text : (f : Farm) (q : Query) {s : Said} → s ≡ reply f (query_call q) → answer_text s ≡ answered_text (called f (query_call q))
query_text f (query.Quote o) e = call_text f (quote o) refl e
query_text f (query.Account n) e = call_text f (account n) refl e

-- which leaves the farm as it is.
pub query_keeps : (f : Farm) (q : Query) → handed f (query_call q) ≡ f
query_keeps f (query.Quote o) = refl
query_keeps f (query.Account n) = refl

-- Whatever way a query was asked, it is told what it asks,
pub query_told : (f : Farm) {q case : Query} {told answer : Result Granted Question} → q ≡ case → told ≡ answer
    → said answer ≡ reply f (query_call case) → said told ≡ reply f (query_call q)
query_told f is same e = ap said same ∙ e ∙ ap (λ (x : Query). reply f (query_call x)) (sym is)

-- what holds of a command, what it comes to and the cells holds of the same,
pub command_decided : {A : Type 0} (P : Command → A → List ℕ → List ℕ → Type 0) {k case : Command} {d decision : A} {ks xs ks' xs' : List ℕ}
    → k ≡ case → d ≡ decision → ks ≡ ks' → xs ≡ xs' → P case decision ks' xs' → P k d ks xs
command_decided P {k} {case} {d} {decision} {ks} {xs} {ks'} {xs'} is p q r x =
    subst (λ (c : Command). P c d ks xs) (sym is)
    (subst (λ a. P case a ks xs) (sym p)
    (subst (λ (l : List ℕ). P case decision l xs) (sym q) (subst (λ (l : List ℕ). P case decision ks' l) (sym r) x)))

-- and so do the lengths of cells.
pub cells_same : {ks xs ks' xs' : List ℕ} → ks ≡ ks' → xs ≡ xs' → CellsSized ks' xs' → CellsSized ks xs
cells_same p q z = (ap length p ∙ z.0, ap length q ∙ z.1)

-- A move that issues no line prints its answer alone.
pub clock_plain : (f : Farm) (t : ℕ) (s : Said) → move_lines f t lent ≡ [] → s ≡ move_said f t lent → answer_text s ≡ chunk_texts (move_lines f t lent) ++ answer_text (move_said f t lent)
unfolding chunk_texts
clock_plain f t s none e = ap answer_text e ∙ sym (ap (λ (l : List Chunk). chunk_texts l ++ answer_text (move_said f t lent)) none)

-- A move that is granted, and what it begins.
module _ (f : Farm) (t : ℕ) (r : Move) (sized : Sized f) (b : Begins f t r.due) (x : MoveDecides f t lent r) (g : is_ok r.answer ≡ true) where
  abbrev named : List Job
  named = in_order f.jobs (take r.due.count r.due.keys)

  few : length (lines_of_all f.costs named) ≤ lent
  few = omega (arith, ap length (begins_lines f t r.due sized b), (move_taken f t lent r x g).2)

  counted : length (lines_of_all f.costs named) ≡ r.due.lines
  counted = ap length (begins_lines f t r.due sized b) ∙ begins_count f t r.due sized b

  -- What is asked to write its lines to the lent records.
  pub rows_asked : All (λ (k : Key). k.place < 128) (take r.due.count r.due.keys) × All (Sendable f.costs) named × (chunks named ≤ 1024)
  rows_asked = (
    begins_places f t r.due sized b,
    begins_sends f t r.due sized b,
    omega (arith, few, counted, b.due.lines, ap chunks b.due.jobs),
  )

  -- They have room.
  pub rows_fit : (rows rest : List (List ℕ)) → rows ≡ map chunk_row (lines_of_all f.costs named) ++ rest → (r.due.lines ≤ 1024) × (r.due.lines ≤ length rows)
  rows_fit rows rest e =
      let l : length rows ≡ length (map chunk_row (lines_of_all f.costs named)) + length rest = ap length e ∙ length-append (map chunk_row (lines_of_all f.costs named)) rest in
      (omega (arith, few, counted), omega (arith, counted, length-map (lines_of_all f.costs named) chunk_row))

  -- The lines in the records, and then the answer, are what the move prints.
  pub clock_text : (rows rest : List (List ℕ)) → rows ≡ map chunk_row (lines_of_all f.costs named) ++ rest
      → row_texts (take r.due.lines rows) ++ answer_text (said r.answer) ≡ chunk_texts (move_lines f t lent) ++ answer_text (move_said f t lent)
  clock_text rows rest e =
      ap₂ (λ (y z : List ℕ). y ++ z)
      (front_texts (lines_of_all f.costs named) rest rows r.due.lines e counted ∙ ap chunk_texts (begins_lines f t r.due sized b ∙ sym (move_taken f t lent r x g).1))
      (ap answer_text x.says)
