-- A list of calls after a granted opening, each given the farm that the one before it handed back, and what is noted of
-- it. What each call answers, hands back and notes is in the crate planner (Call). Everything here is a definition;
-- nothing is assumed.
use Rattle.std.specs.Prelude.{ℕ, zero, suc, ◌+◌, ◌≤◌, max, ◌≡◌, Bool, true, false, cond, eqb}
use mathlib.Core.List.{List, [], ◌∷◌, ◌++◌, map, Memᴰ}
use Rattle.lists.specs.Laws.{All}
use Rattle.lists.specs.Keep.{keep, answers_to}
use Rattle.shares.specs.declared.Costs.{Costs}
use Rattle.limits.specs.declared.FarmCosts.{FarmCosts}
use Rattle.shares.specs.Model.{send_end, chunk_finish}
use Rattle.walk.specs.declared.Job.{Job}
use Rattle.walk.specs.declared.Chunk.{Chunk}
use Rattle.walk.specs.Model.{Computes}
use Rattle.planner.specs.Model.{Farm, costs_for, Span, lines_of, waiting_of}
use Rattle.planner.specs.Calls.{Said, of_number}
use Rattle.planner.specs.Clock.{holds}
pub use Rattle.planner.specs.Call.{Call, offer, quote, withdraw, move, account, Accepted, Noted, nothing, accepting, withdrawing, moving, does, reply, handed, is_granted, noted}

-- ---- Spans

-- a chunk with the start that its job has at the move, where its node's span begins
abbrev pub with_start : Farm → Chunk → Span
with_start f x = record { from = (of_number x.job (waiting_of f)).booking.start; chunk = x }

-- the chunk of a span
abbrev pub chunk_of : Span → Chunk
chunk_of x = x.chunk

-- ---- A list of calls

-- the farm, and what was noted: every chunk issued, their spans, every job accepted, the number of every job withdrawn, the latest plan, and the time of the
-- last granted move
pub record History : Type 0 where
  pub farm : Farm
  pub lines : List Chunk
  pub spans : List Span
  pub jobs : List Accepted
  pub gone : List ℕ
  pub latest : List Job
  pub time : ℕ

-- after an opening that handed this farm back
abbrev pub opening : Farm → History
opening f = record { farm = f; lines = []; spans = []; jobs = []; gone = []; latest = []; time = 0 }

-- the last of a list, otherwise this
abbrev pub last_or : {A : Type 0} → A → List A → A
last_or x [] = x
last_or x (y ∷ ys) = last_or y ys

-- after a call that handed this farm back, and of which this is noted
abbrev pub noting : History → Farm → Noted → History
noting w g n = record {
  farm = g;
  lines = w.lines ++ n.lines;
  spans = w.spans ++ map (with_start w.farm) n.lines;
  jobs = w.jobs ++ n.jobs;
  gone = w.gone ++ n.gone;
  latest = last_or w.latest n.plans;
  time = last_or w.time n.times;
}

-- after one call more
abbrev pub note : History → Call → History
note w c = noting w (handed w.farm c) (noted w.farm c)

-- after a list of calls
unfoldable pub run : History → List Call → History
run w [] = w
run w (c ∷ cs) = run (note w c) cs

-- each call with what it answers
abbrev pub call_answers : Farm → List Call → List (Call × Said)
call_answers f cs = answers_to handed reply f cs

-- whether it is no quote
abbrev pub no_quote_call : Call → Bool
no_quote_call (offer o) = true
no_quote_call (quote o) = false
no_quote_call (withdraw n) = true
no_quote_call (move t m) = true
no_quote_call (account s) = true

-- the list with its quotes left out, and what its other calls answer
abbrev pub calls_without_quotes : List Call → List Call
calls_without_quotes cs = keep no_quote_call cs

abbrev pub other_call_answers : Farm → List Call → List (Call × Said)
other_call_answers f cs = keep (λ (a : Call × Said). no_quote_call a.0) (call_answers f cs)

-- ---- What is compared

-- the sum over the issued chunks of a show
unfoldable pub held_of : ℕ → List Chunk → ℕ
held_of s [] = 0
held_of s (x ∷ xs) = cond (eqb x.show s) (holds x + held_of s xs) (held_of s xs)

-- the job numbers 1, 2, 3, …, n
unfoldable pub up_to : ℕ → List ℕ
up_to zero = []
up_to (suc n) = up_to n ++ suc n ∷ []

-- the issued chunks of a job
unfoldable pub lines_for : ℕ → List Chunk → List Chunk
lines_for n [] = []
lines_for n (x ∷ xs) = cond (eqb x.job n) (x ∷ lines_for n xs) (lines_for n xs)

-- the latest finish of an issued chunk on node k, 0 where there is none
unfoldable pub latest_finish : ℕ → List Chunk → ℕ
latest_finish k [] = 0
latest_finish k (x ∷ xs) = cond (eqb x.node k) (max x.finish (latest_finish k xs)) (latest_finish k xs)

-- the latest end of an issued send, 0 where there is none
unfoldable pub latest_sent : List Chunk → ℕ
latest_sent [] = 0
latest_sent (x ∷ xs) = max x.sent (latest_sent xs)

-- the units of chunks together
unfoldable pub units_in : List Chunk → ℕ
units_in [] = 0
units_in (x ∷ xs) = x.units + units_in xs

-- what a waiting or begun job was accepted as
abbrev pub accepted_of : Job → Accepted
accepted_of j = record { number = j.number; show = j.show; size = j.size; compute = j.compute; deadline = j.deadline }

-- the costs that it was accepted with: the farm's, for its compute cost
abbrev pub accepted_costs : FarmCosts → Accepted → Costs
accepted_costs c x = costs_for c x.compute

-- chunks that do what was accepted: of its number and show, some units each, adding up to its size, sent and finished as its costs make it, computed by then as
-- its compute cost makes it, ending by its deadline
pub record Fulfils (c : FarmCosts) (x : Accepted) (ls : List Chunk) : Type 0 where
  pub named : All (λ (y : Chunk). (y.job ≡ x.number) × (y.show ≡ x.show)) ls
  pub each : All (λ (y : Chunk). 1 ≤ y.units) ls
  pub all : units_in ls ≡ x.size
  pub sent : All (λ (y : Chunk). y.sent ≡ send_end (accepted_costs c x) y.start y.units) ls
  pub finish : All (λ (y : Chunk). y.finish ≡ chunk_finish (accepted_costs c x) y.start y.units) ls
  pub computed : All (Computes c x.compute) ls
  pub ends : All (λ (y : Chunk). y.finish ≤ x.deadline) ls

-- ---- The lifecycle of a job

-- it waits, and its booked chunks do what was accepted
pub record Waits (x : Accepted) (f : Farm) : Type 0 where
  pub job : Job
  pub among : Memᴰ job (waiting_of f)
  pub same : accepted_of job ≡ x
  pub booked : Fulfils f.costs x (lines_of f.costs job)

-- the call is a granted clock move, to a time that reaches the start u
pub record Reaches (f : Farm) (c : Call) (u : ℕ) : Type 0 where
  pub time : ℕ
  pub moves : (noted f c).times ≡ time ∷ []
  pub start : u ≤ time

-- the call is a granted withdrawal of job n
abbrev pub Withdraws : Farm → Call → ℕ → Type 0
Withdraws f c n = (noted f c).gone ≡ n ∷ []

-- no chunk of job n is among these
abbrev pub NoneOf : ℕ → List Chunk → Type 0
NoneOf n xs = All (λ (y : Chunk). y.job ≡ n → ⊥) xs

-- none of these calls issues a chunk of job n
abbrev pub IssuesNone : ℕ → Farm → List Call → Type 0
IssuesNone n f [] = Unit
IssuesNone n f (c ∷ cs) = NoneOf n (noted f c).lines × IssuesNone n (handed f c) cs

-- what becomes of a job accepted as x over the calls that follow
pub data Lifecycle (x : Accepted) : Farm → List Call → Type 0 where
  -- it waits where the list ends
  waits : {f : Farm} → Waits x f → Lifecycle x f []
  -- it waits, and the call is no granted clock move that reaches the start it has then and no granted withdrawal of it, and issues no chunk of it
  passes : {f : Farm} {c : Call} {cs : List Call} (h : Waits x f) → (Reaches f c h.job.booking.start → ⊥)
      → (Withdraws f c x.number → ⊥) → NoneOf x.number (noted f c).lines
      → Lifecycle x (handed f c) cs → Lifecycle x f (c ∷ cs)
  -- it waits, and the call is a granted clock move that reaches the start it has then: all its chunks are issued, each once, and none later
  begins : {f : Farm} {c : Call} {cs : List Call} (h : Waits x f) → Reaches f c h.job.booking.start
      → lines_for x.number (noted f c).lines ≡ lines_of f.costs h.job
      → IssuesNone x.number (handed f c) cs → Lifecycle x f (c ∷ cs)
  -- it waits, and the call is a granted withdrawal of it: no chunk of it is issued then or later
  withdrawn : {f : Farm} {c : Call} {cs : List Call} (h : Waits x f) → Withdraws f c x.number
      → NoneOf x.number (noted f c).lines → IssuesNone x.number (handed f c) cs
      → Lifecycle x f (c ∷ cs)
