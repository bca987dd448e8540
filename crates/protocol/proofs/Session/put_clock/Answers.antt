-- `protocol::Session::put_clock` meets its contract: a move that is refused, that begins nothing, and that issues lines.
use Rattle.std.proofs.Common.{refl, sym, ap, ◌∙◌, not, length-take, arith}
use Rattle.text.specs.Writing.{within_same}
use Rattle.planner.specs.ClockSteps.{move_refused, move_taken, none_due_yet, begins_few}
use Rattle.lines.specs.Model.{lent}
use Rattle.lines.specs.Rows.{move_called}
use Rattle.protocol.specs.CallSteps.{clock_plain, rows_asked, rows_fit, clock_text}
use Rattle.protocol.specs.Promises.{day_farm}
use Rattle.protocol.specs.Reachable.{reachable_passes}
use Rattle.protocol.proofs.Turns.{put_one, puts_same, move_begins}
use Rattle.protocol.proofs.Session.put_clock.Goals as goal

pub move_unchecked-step-requires : goal.move_unchecked-step-requires
move_unchecked-step-requires c = reachable_passes (day_farm c.args.self.now) c.requires.reached c.requires.opened

pub returns-then-is_err : goal.returns-then-is_err
returns-then-is_err c =
    let f = day_farm c.args.self.now in
    let t = c.args.time in
    let x = c.move_unchecked-step.ensures in
    let k = move_refused f t lent _ x (c.is_err.ensures.negation ∙ ap not c.if-is_err.true) in
    puts_same (move_called f t) (put_one (clock_plain f t _ k.1 x.says) c.put_answer.ensures (sym k.0) refl)

pub returns-then-due-eq0 : goal.returns-then-due-eq0
returns-then-due-eq0 c =
    let f = day_farm c.args.self.now in
    let t = c.args.time in
    let x = c.move_unchecked-step.ensures in
    let k = move_taken f t lent _ x (c.is_err.ensures.negation ∙ ap not c.if-is_err.false) in
    let z = none_due_yet f t _ x.sized (move_begins f c.requires.reached c.requires.opened t x) c.if-due-eq0.true in
    puts_same (move_called f t)
    (put_one (clock_plain f t _ (k.1 ∙ z.1) x.says) c.put_answer-then-due-eq0.ensures (z.0 ∙ sym k.0) refl)

pub shared_ref_as_front-write_rows : goal.shared_ref_as_front-write_rows
shared_ref_as_front-write_rows c =
    let f = day_farm c.args.self.now in
    let x = c.move_unchecked-step.ensures in
    let few = begins_few f c.args.time _ x.sized (move_begins f c.requires.reached c.requires.opened c.args.time x) in
    omega (arith, few)

pub write_rows-requires : goal.write_rows-requires
write_rows-requires c =
    let x = c.move_unchecked-step.ensures in
    rows_asked _ _ _ x.sized (move_begins _ c.requires.reached c.requires.opened _ x) x (c.is_err.ensures.negation ∙ ap not c.if-is_err.false)

pub moved-requires : goal.moved-requires
moved-requires c = move_begins (day_farm c.args.self.now) c.requires.reached c.requires.opened c.args.time c.move_unchecked-step.ensures

pub shared_ref_as_front-put_move : goal.shared_ref_as_front-put_move
shared_ref_as_front-put_move c =
    let x = c.move_unchecked-step.ensures in
    let b = move_begins _ c.requires.reached c.requires.opened c.args.time x in
    (rows_fit _ _ _ x.sized b x (c.is_err.ensures.negation ∙ ap not c.if-is_err.false) _ _ c.write_rows.ensures).0

pub put_move-requires : goal.put_move-requires
put_move-requires c =
    let x = c.move_unchecked-step.ensures in
    let b = move_begins _ c.requires.reached c.requires.opened c.args.time x in
    let fit = rows_fit _ _ _ x.sized b x (c.is_err.ensures.negation ∙ ap not c.if-is_err.false) _ _ c.write_rows.ensures in
    (omega (arith, length-take c.move_unchecked-step.result.due.lines c.write_rows.new.rows, fit.0), c.requires.room)

pub returns : goal.returns
returns c =
    let f = day_farm c.args.self.now in
    let t = c.args.time in
    let x = c.move_unchecked-step.ensures in
    let b = move_begins f c.requires.reached c.requires.opened t x in
    let g = c.is_err.ensures.negation ∙ ap not c.if-is_err.false in
    let k = move_taken f t lent _ x g in
    puts_same (move_called f t) (record {
      wrote = within_same (clock_text f t _ x.sized b x g _ _ c.write_rows.ensures) c.put_move.ensures;
      farm = c.moved.ensures ∙ sym k.0;
      rest = refl;
    })
