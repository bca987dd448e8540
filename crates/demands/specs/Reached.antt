-- Farms that a granted opening and calls after it hand back. Each passes question 11, so that a loop over calls need not ask it again.
use Rattle.std.specs.Prelude.{◌≡◌, refl, List, [], ◌∷◌, ◌++◌, true, ℕ}
use Rattle.std.proofs.Common.{ap, subst, ◌∙◌}
use Rattle.limits.specs.declared.FarmCosts.{FarmCosts}
use Rattle.planner.specs.Model.{Farm, Sized}
use Rattle.planner.specs.Passes.{passes_of}
use Rattle.planner.specs.Calls.{open_said, open_farm}
use Rattle.demands.specs.CallLists.{Call, History, handed, opening, run}
use Rattle.demands.specs.Invariant.{open_inv, run_inv, run_append}
use Rattle.demands.specs.Demand3.{opening_granted, demand3}

-- the farm that a list of calls after a granted opening hands back
pub record Reached (f : Farm) : Type 0 where
  pub nodes : ℕ
  pub costs : FarmCosts
  pub allowances : List ℕ
  pub granted : (open_said nodes costs allowances).number ≡ 0
  pub calls : List Call
  pub is : (run (opening (open_farm nodes costs allowances)) calls).farm ≡ f

-- A granted opening reaches its farm.
pub reached_opening : (n : ℕ) (c : FarmCosts) (al : List ℕ) → (open_said n c al).number ≡ 0 → Reached (open_farm n c al)
unfolding run
reached_opening n c al e = record { nodes = n; costs = c; allowances = al; granted = e; calls = []; is = refl }

-- So does every call, granted or refused, on a farm that was reached.
pub reached_call : (f : Farm) (c : Call) → Reached f → Reached (handed f c)
unfolding run
reached_call f c r = record {
  nodes = r.nodes;
  costs = r.costs;
  allowances = r.allowances;
  granted = r.granted;
  calls = r.calls ++ c ∷ [];
  is = ap (λ (w : History). w.farm) (run_append (opening (open_farm r.nodes r.costs r.allowances)) r.calls (c ∷ [])) ∙ ap (λ (x : Farm). handed x c) r.is;
}

-- A farm that was reached passes question 11: demand 3 says so of every list.
pub reached_passes : (f : Farm) → Reached f → passes_of f ≡ true
reached_passes f r = subst (λ (x : Farm). passes_of x ≡ true) r.is (demand3 r.nodes r.costs r.allowances r.granted r.calls).passes

-- Its arrays have their declared lengths.
pub reached_sized : (f : Farm) → Reached f → Sized f
reached_sized f r =
    subst Sized r.is
    (run_inv (opening (open_farm r.nodes r.costs r.allowances)) r.calls
    (open_inv r.nodes r.costs r.allowances (opening_granted r.nodes r.costs r.allowances r.granted))).sized
