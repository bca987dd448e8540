-- `soundness::in_turn` meets its contract: the sorted keys are those of the waiting jobs by start.
use mathlib.Core.Path.{◌≡◌, ap, ◌∙◌}
use mathlib.Core.List.{List}
use lib.ListN.{length}
use Rattle.std.proofs.Common.{rules}
use Rattle.walk.specs.declared.Job.{Job}
use Rattle.walk.specs.Model.{start_of, spans_of_all, fit_all}
use Rattle.soundness.specs.Steps.{ordered_inside, ordered_whole}
use Rattle.soundness.proofs.in_turn.Goals as goal

pub jobs_fit-requires : goal.jobs_fit-requires
jobs_fit-requires c =
    let keys = c.keys_by-keys in
    let size : length keys.result ≡ 128 = search rules in
    let are = keys.ensures start_of (λ j r h. let z = h.says.met in search rules) in
    (c.requires.1, ordered_inside c.args.jobs.now keys.result c.sorted-order.result c.requires.0 size are c.sorted-order.ensures)

pub returns : goal.returns
returns c =
    let a = c.args in
    let keys = c.keys_by-keys in
    let size : length keys.result ≡ 128 = search rules in
    let are = keys.ensures start_of (λ j r h. let z = h.says.met in search rules) in
    let whole = ordered_whole a.jobs.now keys.result c.sorted-order.result c.requires.0 size are c.sorted-order.ensures in
    c.jobs_fit.ensures ∙ ap (λ (js : List Job). fit_all a.times (spans_of_all a.costs js)) whole
