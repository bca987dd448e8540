-- `limits::all_at_most` meets its contract: the chain gives the front of the numbers, and each is asked for its test.
use borrow.Author.Tests.{tests}
use mathlib.Core.Path.{◌∙◌}
use lib.Dec.{leb}
use lib.ListN.{take}
use Rattle.std.proofs.Common.{rules}
use Rattle.std.proofs.lemmas.Iterator.{YieldsList-from_slice, YieldsList-from_take}
use Rattle.std.proofs.lemmas.Iterator.Search.{all_from_yields_List}
use Rattle.limits.specs.Tests.{at_most_each}
use Rattle.limits.proofs.all_at_most.Goals as goal

pub returns : goal.returns
returns c =
    let a = c.args in
    all_from_yields_List (λ x. leb x a.limit) _ _ c.all.result c.all.ensures.ran (YieldsList-from_take a.count (YieldsList-from_slice a.xs.now cc) cc) (λ x b q k. search (rules, tests))
    ∙ at_most_each a.limit (take a.count a.xs.now)
