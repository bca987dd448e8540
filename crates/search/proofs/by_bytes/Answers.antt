-- `search::by_bytes` meets its contract.
use Rattle.std.proofs.Common.{arith, ◌≡◌, ◌<◌, drop, length, ◌∙◌}
use Rattle.search.specs.Model.{either}
use Rattle.search.specs.Laws.{next_past}
use Rattle.search.specs.Steps.{rest_is, before_position}
use Rattle.search.proofs.by_bytes.Goals as goal

pub returns-in-Some : goal.returns-in-Some
returns-in-Some c =
    let a = c.args in
    let xs = c.in-Some.rest.now in
    let d : xs ≡ drop a.from a.text.now = c.in-Some.ensures.lookup.0.2 ∙ rest_is a.text.now a.from in
    let f = rw (c.first_of.ensures, ← before_position) at c.unwrap_or.ensures in
    omega (arith, rw d at f)

pub returns-in-None : goal.returns-in-None
returns-in-None c =
    let a = c.args in
    let l : length a.text.now < a.from = grind arith in
    omega (arith, next_past (either a.a a.b) a.text.now a.from (omega arith))
