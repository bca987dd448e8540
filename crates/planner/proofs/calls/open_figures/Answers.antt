-- `calls::open_figures` meets its contract, one return a question.
use mathlib.Core.Path.{◌≡◌, refl, sym, ap, ◌∙◌}
use mathlib.Core.Bool.{true, false}
use Rattle.std.proofs.Common.{rules}
use Prim.Native.Nat.{ℕ, ◌-◌}
use lib.ListN.{length, drop, replicate}
use lib.Seq.{take-length}
use Rattle.std.proofs.lemmas.List.{drop-replicate}
use Rattle.planner.specs.Model.{between, all_at_most, greatest}
use Rattle.planner.specs.CallsSteps.{no_nodes, no_costs, no_shows, opens}
use Rattle.planner.proofs.calls.open_figures.Goals as goal

pub returns-then-not-contains : goal.returns-then-not-contains
returns-then-not-contains c =
    let a = c.args in
    let nodes : between 1 a.nodes 64 ≡ false = search rules in
    no_nodes a.nodes a.costs a.allowances.now c.not_opened.result _ refl c.not_opened.ensures nodes

pub returns-then-not-costs_within : goal.returns-then-not-costs_within
returns-then-not-costs_within c =
    let a = c.args in
    let nodes : between 1 a.nodes 64 ≡ true = search rules in
    no_costs a.nodes a.costs a.allowances.now c.not_opened-then-not-costs_within.result _ refl c.not_opened-then-not-costs_within.ensures nodes (sym c.costs_within.ensures ∙ c.if-not-costs_within.true)

pub returns-then-not-contains-2 : goal.returns-then-not-contains-2
returns-then-not-contains-2 c =
    let a = c.args in
    let nodes : between 1 a.nodes 64 ≡ true = search rules in
    let shows : between 1 (length a.allowances.now) 32 ≡ false = search rules in
    no_shows a.nodes a.costs a.allowances.now c.not_opened-then-not-contains-2.result _ refl c.not_opened-then-not-contains-2.ensures nodes (sym c.costs_within.ensures ∙ c.if-not-costs_within.false) (rw shows)

pub returns-then-not-all_at_most : goal.returns-then-not-all_at_most
returns-then-not-all_at_most c =
    let a = c.args in
    let nodes : between 1 a.nodes 64 ≡ true = search rules in
    let shows : between 1 (length a.allowances.now) 32 ≡ true = search rules in
    let all : all_at_most greatest a.allowances.now ≡ false = ap (all_at_most greatest) (sym (take-length a.allowances.now)) ∙ sym c.all_at_most.ensures ∙ c.if-not-all_at_most.true in
    no_shows a.nodes a.costs a.allowances.now c.not_opened-then-not-all_at_most.result _ refl c.not_opened-then-not-all_at_most.ensures nodes (sym c.costs_within.ensures ∙ c.if-not-costs_within.false) (rw (shows, all))

pub returns : goal.returns
returns c =
    let a = c.args in
    let nodes : between 1 a.nodes 64 ≡ true = search rules in
    let shows : between 1 (length a.allowances.now) 32 ≡ true = search rules in
    let all : all_at_most greatest a.allowances.now ≡ true = ap (all_at_most greatest) (sym (take-length a.allowances.now)) ∙ sym c.all_at_most.ensures ∙ c.if-not-all_at_most.false in
    let zeros : drop {A = ℕ} (length a.allowances.now) (replicate 32 0) ≡ replicate (32 - length a.allowances.now) 0 = drop-replicate (length a.allowances.now) 32 0 in
    opens a.nodes a.costs a.allowances.now _ (rw (c.unopened_figures.ensures, c.copy_from_slice.ensures.after, zeros)) nodes (sym c.costs_within.ensures ∙ c.if-not-costs_within.false) (rw (shows, all))
