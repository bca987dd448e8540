-- `search::eight` meets its contract.
use Rattle.std.proofs.Common.{rules}
use Rattle.search.specs.Steps.{eight_bytes}
use Rattle.search.proofs.eight.Goals as goal

pub returns : goal.returns
returns c =
    let a = c.args in
    eight_bytes a.bytes.now c.from_le_bytes.result (search rules) (λ i. search rules) c.from_le_bytes.ensures
