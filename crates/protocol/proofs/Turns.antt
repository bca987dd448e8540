-- What a line comes to, for the functions that answer it: what is put by one order, and what a row's order asks for.
use Rattle.std.specs.Prelude.{Option, None, Some, cond, false}
use Rattle.std.proofs.Common.{◌≡◌, refl, ap, sym, subst, ◌∙◌, Bool, true, List, ℕ, arith}
use Rattle.std.proofs.lemmas.Option.{none-some, cond_some}
use Rattle.text.specs.Writing.{WroteWithin, within_same}
use Rattle.reading.specs.declared.Row.{Row}
use Rattle.planner.specs.declared.Move.{Move}
use Rattle.planner.specs.Model.{Farm}
use Rattle.planner.specs.ClockSteps.{Begins, MoveDecides}
use Rattle.lines.specs.declared.Order.{Order}
use Rattle.lines.specs.Model.{lent, asked, in_turn, Answered, answered_text, answer_to}
use Rattle.lines.specs.Orders.{order_of, order_turn, order_answer, order_is}
use Rattle.lines.specs.Rows.{by_row, allowances_in, row_turn}
use Rattle.protocol.specs.declared.Session.{Session}
use Rattle.protocol.specs.Promises.{day_farm, order_kept, Puts}
use Rattle.protocol.specs.Reachable.{Reachable, reachable_passes}

-- A text of one line is put, the farm is the one after it, and what has come of the next line is as it was.
pub put_one : {x : Answered} {text : List ℕ} {at : ℕ} {e o : List ℕ} {r : ℕ} {s t : Session} → text ≡ answered_text x
    → WroteWithin 176 text at e o r → day_farm t ≡ x.farm → t.rest ≡ s.rest → Puts x at e o r s t
put_one q w f k = let v = within_same q w in record { wrote = record { wrote = v.wrote; within = omega (arith, v.within) }; farm = f; rest = k }

pub puts_same : {x y : Answered} {at : ℕ} {e o : List ℕ} {r : ℕ} {s t : Session} → x ≡ y → Puts y at e o r s t → Puts x at e o r s t
puts_same {at = at} {e = e} {o = o} {r = r} {s = s} {t = t} q p = subst (λ (x : Answered). Puts x at e o r s t) (sym q) p

none_turned : (o : Option Order) (opened : Bool) → None ≡ order_kept o opened → order_turn o opened ≡ false
none_turned None opened e = refl
none_turned (Some x) opened e = go (order_turn (Some x) opened) e
  where
    go : (b : Bool) → None ≡ cond b (Some x) None → b ≡ false
    go true e = absurd (none-some x e)
    go false e = refl

some_turned : (o : Option Order) (opened : Bool) (told : Order) → Some told ≡ order_kept o opened → (o ≡ Some told) × (order_turn (Some told) opened ≡ true)
some_turned None opened told e = absurd (none-some told (sym e))
some_turned (Some x) opened told e =
    let t = cond_some (order_turn (Some x) opened) x told (sym e) in
    (ap Some t.1, subst (λ (y : Order). order_turn (Some y) opened ≡ true) t.1 t.0)

-- The order of a row that is kept where it is in its turn.
module _ (farm : Farm) (row : Row) {kept : Option Order} (is : kept ≡ order_kept (order_of row.kind row.count row.numbers) farm.opened) where
  abbrev order : Option Order
  order = order_of row.kind row.count row.numbers

  turns : (in_turn (asked row.kind) farm.opened ≡ order_turn order farm.opened) × (answer_to farm (asked row.kind) row.count row.numbers (allowances_in row) ≡ order_answer farm order row.numbers (allowances_in row))
  turns = order_is farm row.kind row.count row.numbers (allowances_in row) farm.opened

  -- Where it is not kept the row is out of its turn,
  pub out_of_turn : kept ≡ None → in_turn (asked row.kind) farm.opened ≡ false
  out_of_turn e = turns.0 ∙ none_turned order farm.opened (sym e ∙ is)

  -- and where it is, it is in its turn, and the row is answered as it is.
  module _ {told : Order} (e : kept ≡ Some told) where
    some : (order ≡ Some told) × (order_turn (Some told) farm.opened ≡ true)
    some = some_turned order farm.opened told (sym e ∙ is)

    pub order_told : order_of row.kind row.count row.numbers ≡ Some told
    order_told = some.0

    pub order_opened : order_turn (Some told) farm.opened ≡ true
    order_opened = some.1

    pub by_order : by_row farm row ≡ order_answer farm (Some told) row.numbers (allowances_in row)
    by_order =
        row_turn farm row (turns.0 ∙ ap (λ (x : Option Order). order_turn x farm.opened) some.0 ∙ some.1)
        ∙ turns.1
        ∙ ap (λ (x : Option Order). order_answer farm x row.numbers (allowances_in row)) some.0

-- What is known of a clock move on an opened farm that was reached: what is due by its time.
pub move_begins : (f : Farm) → Reachable f → f.opened ≡ true → (t : ℕ) {step : Move} → MoveDecides f t lent step → Begins f t step.due
move_begins f reached o t x = record { passes = reachable_passes f reached o; due = x.due }
