-- `soundness::nodes_known` meets its contract: each node is asked for its test.
use borrow.Author.Tests.{tests}
use mathlib.Core.Path.{◌∙◌}
use Rattle.std.proofs.Common.{rules}
use Rattle.std.proofs.lemmas.Iterator.{YieldsList-from_slice}
use Rattle.std.proofs.lemmas.Iterator.Search.{all_from_yields_List}
use Rattle.limits.specs.Model.{between}
use Rattle.soundness.specs.Steps.{known_each}
use Rattle.soundness.proofs.nodes_known.Goals as goal

pub returns : goal.returns
returns c =
    let a = c.args in
    all_from_yields_List (λ k. between 1 k a.limit) _ _ c.all.result c.all.ensures.ran (YieldsList-from_slice a.nodes.now cc) (λ x b q k. search (rules, tests))
    ∙ known_each a.limit a.nodes.now
