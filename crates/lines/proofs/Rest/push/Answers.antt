-- `lines::Rest::push` meets its contract.
use Rattle.std.proofs.Common.{refl, arith, rules}
use Rattle.std.proofs.lemmas.Slice.{take-put_mid}
use Rattle.lines.specs.PendingLine.{rest_long, rest_over, rest_fits}
use Rattle.lines.proofs.Rest.push.Goals as goal

pub returns-then-self-gt1024 : goal.returns-then-self-gt1024
returns-then-self-gt1024 c = rest_long c.args.self.now c.args.more.now c.if-self-gt1024.true

pub returns-then-self-more : goal.returns-then-self-more
returns-then-self-more c =
    let r = c.args.self.now in
    rest_over r c.args.more.now c.if-self-gt1024.false (search rules) r.bytes c.if-self-more.true

pub returns : goal.returns
returns c =
    let r = c.args.self.now in
    let q = c.copy_from_slice.ensures in
    rest_fits r c.args.more.now c.if-self-gt1024.false (search rules) _ (omega arith) (rw q.after (take-put_mid r.fill _ r.bytes c.args.more.now _ refl (search rules)))
