-- `reading::read` meets its contract: the fields up to the first tab and behind it are those of the line.
use Rattle.std.proofs.Common.{◌≡◌, refl, min, arith, sym, ◌∙◌}
use Rattle.reading.specs.Separators.{end_none, field_known, row_broken}
use Rattle.reading.specs.Steps.{row_unknown, row_unfit, row_read}
use Rattle.reading.proofs.read.Goals as goal

pub returns-in_default : goal.returns-in_default
returns-in_default c = c.unreadable.ensures ∙ sym (row_broken c.args.line.now _ refl (end_none _ c.in_default.ensures.place))

pub returns-in_default-gather : goal.returns-in_default-gather
returns-in_default-gather c =
    let xs = c.args.line.now in
    let e = c.in-Some in
    c.unreadable-in_default-gather.ensures
    ∙ sym (row_unknown xs e.end (field_known xs 0 e.end e.ensures.place) c.in_default-gather.ensures)

pub returns-then-not-fitting : goal.returns-then-not-fitting
returns-then-not-fitting c =
    let xs = c.args.line.now in
    let e = c.in-Some in
    let k = c.kind_of-kind in
    let x = c.in-Some-gather in
    let cut = field_known xs 0 e.end e.ensures.place in
    c.unreadable-then-not-fitting.ensures
    ∙ sym (row_unfit xs e.end cut k.result x.x k.ensures x.ensures (sym c.if-not-fitting.ensures))

pub returns : goal.returns
returns c =
    let xs = c.args.line.now in
    let e = c.in-Some in
    let k = c.kind_of-kind in
    let x = c.in-Some-gather in
    let cut = field_known xs 0 e.end e.ensures.place in
    let m : c.min.result ≡ min 39 x.x.count = omega (arith, c.min.ensures) in
    rw m (sym (row_read xs e.end cut k.result x.x k.ensures x.ensures (sym c.if-not-fitting.ensures)))
