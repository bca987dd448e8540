-- `protocol::Session::end_of_input` meets its contract.
use Rattle.std.proofs.Common.{ap, refl, sym, ◌∙◌, ◌≡◌, true, not, length, le-leb, ap₂}
use Rattle.std.specs.Prelude.{◌&&◌}
use Rattle.lines.specs.Rows.{pending_of}
use Rattle.text.specs.Writing.{within_same}
use Rattle.protocol.specs.Promises.{day_farm, ends_line}
use Rattle.protocol.specs.Blocks.{end_line, end_took, end_ended}
use Rattle.protocol.proofs.Session.end_of_input.Goals as goal

pub returns-clause-day : goal.returns-clause-day
returns-clause-day c =
    let s = c.args.self.now in
    let p = c.answer_block in
    let f = day_farm s in
    let room = c.if-out-lt180400.false in
    let some = sym c.is_empty.ensures ∙ c.if-is_empty.false in
    let ends : ends_line (pending_of s.rest) (length c.args.out.now) ≡ true = ap₂ ◌&&◌ (le-leb 180400 (length c.args.out.now) room) (ap not some) in
    end_ended f (pending_of s.rest) c.args.out.now p.new.out p.result p.new.self p.ensures room s refl refl ends

pub returns-clause-wrote : goal.returns-clause-wrote
returns-clause-wrote c =
    let s = c.args.self.now in
    let p = c.answer_block in
    let f = day_farm s in
    let room = c.if-out-lt180400.false in
    within_same (sym (end_line f (pending_of s.rest) (length c.args.out.now) room (sym c.is_empty.ensures ∙ c.if-is_empty.false)))
    (end_took f (pending_of s.rest) c.args.out.now p.new.out p.result p.new.self p.ensures room)
