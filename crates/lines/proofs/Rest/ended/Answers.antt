-- `lines::Rest::ended` meets its contract.
use Rattle.std.proofs.Common.{sym, ◌∙◌, arith}
use Rattle.lines.specs.PendingLine.{row_whole, row_over}
use Rattle.lines.proofs.Rest.ended.Goals as goal

pub returns-then-more-gt1024-clause-row : goal.returns-then-more-gt1024-clause-row
returns-then-more-gt1024-clause-row c =
    let a = c.args in
    c.unreadable.ensures ∙ sym (row_over a.self.now a.more.now (omega arith) c.if-more-gt1024.true)

pub returns-clause-row : goal.returns-clause-row
returns-clause-row c =
    let a = c.args in
    c.read.ensures ∙ sym (row_whole a.self.now a.more.now (omega arith) c.if-more-gt1024.false)
