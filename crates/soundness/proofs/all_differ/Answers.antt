use mathlib.Core.Path.{◌≡◌, sym, ap, ◌∙◌}
use Prim.Native.Nat.{ℕ}
use lib.Dec.{eqb}
use lib.ListN.{get_or, drop}
use Rattle.std.specs.List.{list_any}
use Rattle.soundness.specs.Model.{all_differ}
use Rattle.soundness.specs.Steps.{differ_more, differ_stop, differ_none, part_rest}
use Rattle.soundness.proofs.all_differ.Goals as goal

pub returns-then-contains : goal.returns-then-contains
returns-then-contains c =
    let l = c.loop-rest in
    let xs = l.rest.now in
    let among : list_any (λ (y : ℕ). eqb y (get_or xs 0 0)) (drop 1 xs) ≡ c.contains.result =
    sym (c.contains.ensures.value ∙ ap (list_any (λ (y : ℕ). eqb y (get_or xs 0 0))) (part_rest xs 1)) in
    sym (sym l.invariant ∙ differ_stop xs c.in-len1-up.len_at_least (among ∙ c.if-contains.true))

pub loop-rest-preserved : goal.loop-rest-preserved
loop-rest-preserved c =
    let l = c.loop-rest in
    let xs = l.rest.now in
    let among : list_any (λ (y : ℕ). eqb y (get_or xs 0 0)) (drop 1 xs) ≡ c.contains.result =
    sym (c.contains.ensures.value ∙ ap (list_any (λ (y : ℕ). eqb y (get_or xs 0 0))) (part_rest xs 1)) in
    ap all_differ (part_rest xs 1) ∙ sym (differ_more xs c.in-len1-up.len_at_least (among ∙ c.if-contains.false)) ∙ l.invariant

pub returns : goal.returns
returns c = sym (differ_none c.loop-rest.rest.now c.in_default.len_below) ∙ c.loop-rest.invariant
