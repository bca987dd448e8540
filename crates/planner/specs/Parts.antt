-- A farm in its parts, the figures and the rows of cells beside them: what a decision on an offer comes to.
use Rattle.std.specs.Prelude.{◌≡◌, refl, List, [], ◌++◌, Bool, false, ℕ, ◌-◌, ◌≤◌, eqb, length, take, replicate, Result, Ok, Err, is_ok, IsErr, IfOk}
use Rattle.std.proofs.Common.{ap, sym, ◌∙◌, arith, length-take-le, eqb-true}
use Rattle.lists.specs.Laws.{All}
use Rattle.lists.specs.Places.{each_length, each_take}
use Rattle.lists.specs.Rows.{Alike}
use Rattle.limits.specs.declared.FarmCosts.{FarmCosts}
use Rattle.walk.specs.declared.Job.{Job}
use Rattle.walk.specs.declared.QueueEntry.{QueueEntry}
use Rattle.walk.specs.View.{no_entry, job_at, jobs_of, Short, use_of, jobs_sized, empty_jobs}
use Rattle.planner.specs.declared.Figures.{Figures}
use Rattle.planner.specs.declared.Opening.{Opening}
use Rattle.planner.specs.declared.Decision.{Decision}
use Rattle.planner.specs.declared.Farm as stored
use Rattle.answers.specs.declared.Question.{Question}
use Rattle.planner.specs.Model.{Farm, farm_of, waiting_of, Sized}
use Rattle.planner.specs.Changes.{with_jobs}
use Rattle.planner.specs.Calls.{Said, said, told, refused, number_of, new_farm, Replies}

-- ---- Figures

-- figures with u numbers used and the first n of these entries waiting
abbrev pub with_entries : Figures → ℕ → ℕ → List QueueEntry → Figures
with_entries f u n hs = record {
  opened = f.opened;
  nodes = f.nodes;
  costs = f.costs;
  shows = f.shows;
  allowances = f.allowances;
  held = f.held;
  clock = f.clock;
  link = f.link;
  free = f.free;
  used = u;
  waiting = n;
  jobs = hs;
}

-- a value of the declared type has arrays of these lengths
pub record FiguresSized (f : Figures) : Type 0 where
  pub allowances : length f.allowances ≡ 32
  pub held : length f.held ≡ 32
  pub free : length f.free ≡ 64
  pub jobs : length f.jobs ≡ 128

-- arrays of cells have these lengths
abbrev pub CellsSized : List ℕ → List ℕ → Type 0
CellsSized ks xs = (length ks ≡ 8192) × (length xs ≡ 8192)

-- So what they mean has lists of its lengths.
pub parts_sized : (f : Figures) (ks xs : List ℕ) → FiguresSized f → CellsSized ks xs → Sized (farm_of f ks xs)
parts_sized f ks xs z c = record {
  allowances = z.allowances;
  held = z.held;
  free = z.free;
  jobs = each_length (job_at ks xs) 0 f.jobs ∙ z.jobs;
  each = jobs_sized ks xs f.jobs c.0 c.1 (omega (arith, z.jobs));
}

-- The waiting entries put together with their cells are the waiting jobs.
pub waiting_front : (f : Figures) (ks xs : List ℕ) (js : List Job) → f.waiting ≤ length f.jobs
    → take (length (take f.waiting f.jobs)) js ≡ jobs_of ks xs (take f.waiting f.jobs) → take f.waiting js ≡ waiting_of (farm_of f ks xs)
waiting_front f ks xs js h e =
    ap (λ (n : ℕ). take n js) (sym (length-take-le f.waiting f.jobs h)) ∙ e ∙ sym (each_take (job_at ks xs) 0 f.waiting f.jobs)

-- ---- Opening

-- the figures of a farm on which nothing has happened
abbrev pub new_figures : Bool → ℕ → FarmCosts → List ℕ → Figures
new_figures o n c al = record {
  opened = o;
  nodes = n;
  costs = c;
  shows = length al;
  allowances = al ++ replicate (32 - length al) 0;
  held = replicate 32 0;
  clock = 0;
  link = 0;
  free = replicate 64 0;
  used = 0;
  waiting = 0;
  jobs = replicate 128 no_entry;
}

abbrev pub unopened_figures : Figures
unopened_figures = new_figures false 0 (record { send = 0; compute = 0; linksetup = 0; nodesetup = 0; returning = 0 }) []

-- They mean that farm, whatever stands in the rows: no row is in use.
pub new_means : (o : Bool) (n : ℕ) (c : FarmCosts) (al ks xs : List ℕ) → farm_of (new_figures o n c al) ks xs ≡ new_farm o n c al
new_means o n c al ks xs = ap (with_jobs (new_farm o n c al) 0 0) (empty_jobs ks xs 0 128)

-- an opening says so, and its figures mean this farm, whatever stands in the rows
pub record OpensFigures (r : Opening) (a : Said) (next : Farm) : Type 0 where
  pub says : said r.answer ≡ a
  pub means : (ks xs : List ℕ) → farm_of r.figures ks xs ≡ next

-- ---- Calls that decide about the waiting jobs

-- what a decision says
abbrev pub decision_said : Result Decision Question → Said
decision_said (Ok d) = told d.answer
decision_said (Err q) = refused (number_of q)

-- what the rows of a plan hold for the jobs of a granted decision, taken over as far as they are in use: it is this farm
pub record PlansJobs (f : Figures) (ks xs : List ℕ) (next : Farm) (pks pxs : List ℕ) (d : Decision) : Type 0 where
  pub few : (d.waiting ≤ 128) × All Short (take d.waiting d.jobs)
  pub hands : (ks' xs' : List ℕ) → Alike 64 (use_of d.jobs) d.waiting ks pks ks' → Alike 64 (use_of d.jobs) d.waiting xs pxs xs'
      → farm_of (with_entries f d.used d.waiting d.jobs) ks' xs' ≡ next

-- a decision on an offer, with the rows of the plan beside: it says so; where it is granted, and the rows of the plan
-- are taken over as far as they are in use, it is this farm; where it is not, this farm is the one that was given
pub record Plans (f : Figures) (ks xs : List ℕ) (s : Said) (next : Farm) (d : Result Decision Question) (pks pxs : List ℕ) : Type 0 where
  pub says : decision_said d ≡ s
  pub granted : is_ok d ≡ eqb s.number 0
  pub hands : IfOk d (PlansJobs f ks xs next pks pxs)
  pub refuses : IsErr d → farm_of f ks xs ≡ next

-- With the rows of the plan taken over and the decision stored it is the reply,
pub plans_taken : {f : stored.Farm} {s : Said} {next : Farm} {d : Decision} {pks pxs ks xs : List ℕ} → Plans f.figures f.cells.nodes f.cells.shares s next (Ok d) pks pxs
    → Alike 64 (use_of d.jobs) d.waiting f.cells.nodes pks ks → Alike 64 (use_of d.jobs) d.waiting f.cells.shares pxs xs
    → Replies f (record {
      answer = Ok d.answer;
      farm = record { figures = with_entries f.figures d.used d.waiting d.jobs; cells = record { nodes = ks; shares = xs } };
    }) s next
plans_taken {s = s} {ks = ks} {xs = xs} p a b = record {
  says = p.says;
  hands = p.hands.hands ks xs a b;
  same = λ h. absurd (h (eqb-true s.number 0 (sym p.granted)));
}

-- and a refusal hands back the very farm.
pub plans_refused : {f : stored.Farm} {s : Said} {next : Farm} {q : Question} {pks pxs : List ℕ} → Plans f.figures f.cells.nodes f.cells.shares s next (Err q) pks pxs
    → Replies f (record { answer = Err q; farm = f }) s next
plans_refused p = record { says = p.says; hands = p.refuses refl; same = λ _. refl }
