-- `search::marks` meets its contract: the marks of either byte, together.
use Rattle.search.specs.Words.{either_exact}
use Rattle.search.proofs.marks.Goals as goal

pub returns : goal.returns
returns c =
    let a = c.args in
    either_exact a.a a.b a.w c.marks_of.result c.marks_of-2.result c.marks_of.ensures c.marks_of-2.ensures
