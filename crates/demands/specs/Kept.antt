-- What no call changes, and what follows where no offer gives a compute cost.
use Rattle.std.specs.Prelude.{◌≡◌, refl, List, [], ◌∷◌, ℕ, Option, None}
use Rattle.std.proofs.Common.{ap, sym, subst, ◌∙◌}
use Rattle.lists.specs.Laws.{All, all_join}
use Rattle.limits.specs.declared.FarmCosts.{FarmCosts}
use Rattle.answers.specs.declared.Offer.{Offer}
use Rattle.planner.specs.Model.{Farm, costs_for, default_costs}
use Rattle.planner.specs.Changes.{at_time, Keeps, keeps_same, keeps_then, jobs_keep, time_keeps}
use Rattle.planner.specs.Calls.{compute_or, planned}
use Rattle.planner.specs.Clock.{issued}
use Rattle.demands.specs.CallLists.{Call, offer, Accepted, Noted, nothing, accepting, withdrawing, moving, handed, noted, accepted_costs, History, opening, note, run}
use Rattle.demands.specs.Outcome.{taken, Outcome, stays, takes, leaves, moves, outcome}

-- A call opens no farm and closes none, and the nodes, the costs, the shows and their allowances are those of the farm that it was given.
pub handed_keeps : (f : Farm) (c : Call) → Keeps f (handed f c)
handed_keeps f c = go (outcome f c)
  where
    go : Outcome f c → Keeps f (handed f c)
    go (stays h n) = subst (Keeps f) (sym h) (keeps_same f)
    go (takes o e k h n) = subst (Keeps f) (sym h) (jobs_keep f _ _ _)
    go (leaves i k h n) = subst (Keeps f) (sym h) (jobs_keep f _ _ _)
    go (moves t i k h n) = subst (Keeps f) (sym h) (keeps_then (time_keeps f t _ _) (jobs_keep (at_time f t _ _) _ _ _))

-- So it is of every list of calls.
pub run_keeps : (w : History) (cs : List Call) → Keeps w.farm (run w cs).farm
unfolding run
run_keeps w [] = keeps_same w.farm
run_keeps w (c ∷ cs) = keeps_then (handed_keeps w.farm c) (run_keeps (note w c) cs)

-- ---- No compute cost given

-- the call is no offer that gives a compute cost
abbrev pub GivesNone : Call → Type 0
GivesNone c = (o : Offer) → c ≡ offer o → o.compute ≡ None

-- the costs that a job was accepted with are those that the farm's compute cost gives
abbrev At : FarmCosts → Accepted → Type 0
At c x = accepted_costs c x ≡ default_costs c

call_at : (f : Farm) (c : Call) → GivesNone c → All (At f.costs) (noted f c).jobs
call_at f c none = go (outcome f c)
  where
    noting_all : (n : Noted) → noted f c ≡ n → All (At f.costs) n.jobs → All (At f.costs) (noted f c).jobs
    noting_all n q h = subst (λ (x : Noted). All (At f.costs) x.jobs) (sym q) h

    go : Outcome f c → All (At f.costs) (noted f c).jobs
    go (stays h n) = noting_all nothing n tt
    go (takes o e k h n) =
        noting_all (accepting (taken f o) (planned f o)) n
        (ap (λ (x : Option ℕ). costs_for f.costs (compute_or f.costs.compute x)) (none o e), tt)
    go (leaves i k h n) = noting_all (withdrawing i) n tt
    go (moves t i k h n) = noting_all (moving t (issued f t)) n tt

run_at : (c : FarmCosts) (w : History) (cs : List Call) → w.farm.costs ≡ c → All GivesNone cs → All (At c) w.jobs → All (At c) (run w cs).jobs
unfolding run
run_at c w [] e h k = k
run_at c w (x ∷ cs) e h k =
    run_at c (note w x) cs ((handed_keeps w.farm x).costs ∙ e) h.1
    (all_join (At c) w.jobs (noted w.farm x).jobs k (subst (λ (d : FarmCosts). All (At d) (noted w.farm x).jobs) e (call_at w.farm x h.0)))

-- **No compute cost given.** Where no offer of a list gives one, every job is accepted with the costs for the farm's, so that by demand 3 its chunks are sent and
-- finish as if there were no other.
pub none_given : (f : Farm) (cs : List Call) → All GivesNone cs → All (λ (x : Accepted). accepted_costs f.costs x ≡ default_costs f.costs) (run (opening f) cs).jobs
none_given f cs h = run_at f.costs (opening f) cs refl h tt
