-- `protocol::Session::put_line` meets its contract: a row is answered as its order is, and out of its turn it is not read.
use Rattle.std.specs.Prelude.{Some}
use Rattle.std.proofs.Common.{refl, sym, ◌∙◌, ap}
use Rattle.lines.specs.Model.{answer_text}
use Rattle.lines.specs.Orders.{open_kind}
use Rattle.lines.specs.Rows.{allowances_in, row_unread, unread_text, opening_text}
use Rattle.planner.specs.Calls.{said}
use Rattle.protocol.specs.declared.Session.{Session}
use Rattle.protocol.specs.CallSteps.{command_text, query_text, query_keeps}
use Rattle.protocol.specs.Promises.{day_farm}
use Rattle.protocol.specs.Reachable.{reachable_passes}
use Rattle.protocol.proofs.Turns.{put_one, puts_same, out_of_turn, order_opened, order_told, by_order}
use Rattle.protocol.proofs.Session.put_line.Goals as goal
use Rattle.protocol.proofs.Session.put_line.Goals.{in-Query, in-Command, in-Open}

pub returns-in_default : goal.returns-in_default
unfolding answer_text
returns-in_default c =
    let f = day_farm c.args.self.now in
    let row = c.args.row in
    puts_same (row_unread f row (out_of_turn f row c.order_in_turn.ensures c.in_default.is)) (put_one (unread_text f) c.put_answer.ensures refl refl)

pub told-answer-requires : goal.told-answer-requires
told-answer-requires c =
    let f = day_farm c.args.self.now in
    reachable_passes f c.requires.reached (order_opened f c.args.row c.order_in_turn.ensures (c.in-Some.is ∙ ap Some c.in-Query.is))

pub decided-answer-requires : goal.decided-answer-requires
decided-answer-requires c =
    let f = day_farm c.args.self.now in
    reachable_passes f c.requires.reached (order_opened f c.args.row c.order_in_turn.ensures (c.in-Some.is ∙ ap Some c.in-Command.is))

pub put_clock-requires-clause-opened : goal.put_clock-requires-clause-opened
put_clock-requires-clause-opened c =
    order_opened (day_farm c.args.self.now) c.args.row c.order_in_turn.ensures (c.in-Some.is ∙ ap Some c.in-Clock.is)

pub returns-in-Clock : goal.returns-in-Clock
returns-in-Clock c =
    puts_same (by_order (day_farm c.args.self.now) c.args.row c.order_in_turn.ensures (c.in-Some.is ∙ ap Some c.in-Clock.is)) c.put_clock.ensures

pub opened-answer-requires : goal.opened-answer-requires
opened-answer-requires c =
    c.requires.farm (open_kind c.args.row.kind _ _ (order_told (day_farm c.args.self.now) c.args.row c.order_in_turn.ensures (c.in-Some.is ∙ ap Some c.in-Open.is)))

pub returns : goal.returns
returns c =
    let f = day_farm c.args.self.now in
    let row = c.args.row in
    let is = c.order_in_turn.ensures in
    let put = c.put_answer-2.ensures in
    let rest = λ (s : Session). s.rest in
    elim c.match-order.branch [
      | in-Query w ↦
          let q = w.in-Query.query in
          let told = w.told-answer.ensures in
          puts_same (by_order f row is (c.in-Some.is ∙ ap Some w.in-Query.is))
          (put_one (query_text f q (ap said w.answer-is ∙ told.says)) put (ap day_farm w.self-is ∙ told.farm ∙ sym (query_keeps f q)) (ap rest w.self-is ∙ told.rest))
      | in-Command w ↦
          let told = w.decided-answer.ensures in
          puts_same (by_order f row is (c.in-Some.is ∙ ap Some w.in-Command.is))
          (put_one (command_text f w.in-Command.command (ap said w.answer-is ∙ told.says)) put (ap day_farm w.self-is ∙ told.farm) (ap rest w.self-is ∙ told.rest))
      | in-Open w ↦
          let told = w.opened-answer.ensures in
          puts_same (by_order f row is (c.in-Some.is ∙ ap Some w.in-Open.is))
          (put_one (opening_text row.numbers (allowances_in row) (ap said w.answer-is ∙ told.says)) put (ap day_farm w.self-is ∙ told.farm) (ap rest w.self-is ∙ told.rest))
    ]
