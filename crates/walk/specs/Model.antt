-- The deadline walk, in the words and the order of document 01. Everything here is a definition; nothing is assumed.
pub use Rattle.limits.specs.Model.{greatest, Between}
use Rattle.std.specs.Prelude.{ℕ, suc, ◌+◌, ◌*◌, ◌-◌, ◌≤◌, ◌<◌, max, ◌≡◌, List, [], ◌∷◌, ◌++◌, map, Bool, true, ◌&&◌, ◌↔◌, leb, length, get_or, set}
use Rattle.shares.specs.declared.Costs.{Costs}
use Rattle.limits.specs.declared.FarmCosts.{FarmCosts}
use Rattle.shares.specs.Model.{send_end, chunk_finish}
use Rattle.keys.specs.declared.Key.{Key}
use Rattle.keys.specs.Model.{sort_keys}
use Rattle.booking.specs.declared.Request.{Request}
use Rattle.booking.specs.declared.Booking.{Booking}
use Rattle.booking.specs.Model.{booking_of, book_of}
use Rattle.booking.specs.Best.{free_at, chosen, units}
use Rattle.walk.specs.declared.Job.{Job}
use Rattle.walk.specs.declared.WalkTerms.{WalkTerms}
use Rattle.walk.specs.declared.FreeTimes.{FreeTimes}
use Rattle.walk.specs.declared.Chunk.{Chunk}
use Rattle.walk.specs.declared.ChunkTerms.{ChunkTerms}

-- ---- Jobs and chunks

-- the job that the array of waiting jobs is filled with
abbrev pub empty_job : Job
empty_job = record { number = 0; show = 0; size = 0; compute = 0; deadline = 0; booking = booking_of 0 [] [] }

-- past a list's end
abbrev pub no_job : Job
no_job = record { number = 0; show = 0; size = 0; compute = 0; deadline = 0; booking = record { start = 0; count = 0; nodes = []; shares = [] } }

-- a record of lent memory in which nothing was written
abbrev pub no_chunk : Chunk
no_chunk = record { job = 0; show = 0; node = 0; units = 0; start = 0; sent = 0; finish = 0; computed = 0 }

-- the costs of a job whose units take p ticks to compute, as the share arithmetic takes them: a chunk has finished when its audio is back, so what
-- follows the send takes p + r a unit. Nothing of it is on the link
abbrev pub costs_for : FarmCosts → ℕ → Costs
costs_for c p = record { send = c.send; compute = p + c.returning; linksetup = c.linksetup; nodesetup = c.nodesetup }

-- the costs of a job that the farm's compute cost serves
abbrev pub default_costs : FarmCosts → Costs
default_costs c = costs_for c c.compute

-- a job's own costs: those for the compute cost that the job keeps from its acceptance on
abbrev pub own_costs : FarmCosts → Job → Costs
own_costs c j = costs_for c j.compute

-- the end of computing of `a` units that take p ticks each, their send beginning at t: the send's end, the node's setup and the units, and nothing of the way
-- back. Document 02 (vii)
abbrev pub compute_end : FarmCosts → ℕ → ℕ → ℕ → ℕ
compute_end c p t a = send_end (costs_for c p) t a + (c.nodesetup + a * p)

-- what all chunks of a job have in common
abbrev pub chunk_terms : FarmCosts → Job → ChunkTerms
chunk_terms c j = record { costs = c; compute = j.compute; job = j.number; show = j.show }

-- where the send of a chunk begins, the one before it having ended at t: at t, since sends run back to back. Before a
-- job's first chunk t is the job's start. This is said here and nowhere else
abbrev pub send_start : ℕ → ℕ
send_start t = t

-- the chunk of `a` units on node k, the send before it having ended at t
abbrev pub chunk_on : ChunkTerms → ℕ → ℕ → ℕ → Chunk
chunk_on w t k a = record {
  job = w.job;
  show = w.show;
  node = k;
  units = a;
  start = send_start t;
  sent = send_end (costs_for w.costs w.compute) (send_start t) a;
  finish = chunk_finish (costs_for w.costs w.compute) (send_start t) a;
  computed = compute_end w.costs w.compute (send_start t) a;
}

-- chunk i of a booking, the send before it having ended at t
abbrev pub chunk_at : ChunkTerms → Booking → ℕ → ℕ → Chunk
chunk_at w b i t = chunk_on w t (get_or b.nodes i 0) (get_or b.shares i 0)

-- the chunks of shares xs on nodes ks, the send before the first having ended at t
unfoldable pub chunks_from : ChunkTerms → ℕ → List ℕ → List ℕ → List Chunk
chunks_from w t [] [] = []
chunks_from w t [] (a ∷ xs) = []
chunks_from w t (k ∷ ks) [] = []
chunks_from w t (k ∷ ks) (a ∷ xs) = chunk_on w t k a ∷ chunks_from w (chunk_on w t k a).sent ks xs

-- the lines of a job's booking, in chunk order
abbrev pub lines_of : FarmCosts → Job → List Chunk
lines_of c j = chunks_from (chunk_terms c j) j.booking.start (chosen j.booking) (units j.booking)

-- a chunk's end of computing, its units taking p ticks each: the send's end, SC and units × p; after the send's end, at or before the finish, and equal to
-- it exactly when r is 0
pub record Computes (c : FarmCosts) (p : ℕ) (x : Chunk) : Type 0 where
  pub is : x.computed ≡ x.sent + (c.nodesetup + x.units * p)
  pub after : x.sent < x.computed
  pub within : x.computed ≤ x.finish
  pub equal : (x.computed ≡ x.finish) ↔ (c.returning ≡ 0)

-- the latest finish of chunks, t where there is none
unfoldable pub latest : ℕ → List Chunk → ℕ
latest t [] = t
latest t (x ∷ xs) = max x.finish (latest t xs)

-- a job's finish: the latest of its chunks'. `finish_shares` in Chunks.antt says that it is the finish of its shares
abbrev pub finish_of : FarmCosts → Job → ℕ
finish_of c j = latest j.booking.start (lines_of c j)

-- a chunk with the start of its job, where its node's span begins
pub record Span : Type 0 where
  pub from : ℕ
  pub chunk : Chunk

-- chunks of a job that starts at f, as spans
abbrev pub placed : ℕ → List Chunk → List Span
placed f xs = map (λ (x : Chunk). record { from = f; chunk = x }) xs

-- the spans of shares xs on nodes ks of a job that starts at f, the send before the first having ended at t
abbrev pub spans_from : ChunkTerms → ℕ → ℕ → List ℕ → List ℕ → List Span
spans_from w f t ks xs = placed f (chunks_from w t ks xs)

-- the spans of a job's booking
abbrev pub spans_of : FarmCosts → Job → List Span
spans_of c j = placed j.booking.start (lines_of c j)

-- the spans of several jobs
unfoldable pub spans_of_all : FarmCosts → List Job → List Span
spans_of_all c [] = []
spans_of_all c (j ∷ js) = spans_of c j ++ spans_of_all c js

-- a value of the declared type has arrays of these lengths
pub record JobSized (j : Job) : Type 0 where
  pub nodes : length j.booking.nodes ≡ 64
  pub shares : length j.booking.shares ≡ 64

-- ---- Spans of ticks

-- a span of ticks includes its first and excludes its last
abbrev pub Includes : ℕ → ℕ → ℕ → Type 0
Includes a b t = (a ≤ t) × (t < b)

-- two chunks share no tick of a node or of the link: a node's span runs from the job's start to the chunk's finish, the link's over the send
pub record Apart (x y : Span) : Type 0 where
  pub node : x.chunk.node ≡ y.chunk.node → (t : ℕ) → Includes x.from x.chunk.finish t → Includes y.from y.chunk.finish t → ⊥
  pub send : (t : ℕ) → Includes x.chunk.start x.chunk.sent t → Includes y.chunk.start y.chunk.sent t → ⊥

-- ---- Free times

-- a chunk moves the link's free time to its send's end and its node's to its finish
abbrev pub after : FreeTimes → Chunk → FreeTimes
after b x = record { link = x.sent; free = set b.free (x.node - 1) x.finish }

unfoldable pub afters : FreeTimes → List Chunk → FreeTimes
afters b [] = b
afters b (x ∷ xs) = afters (after b x) xs

-- the spans one after the other, each behind what those before it have left: its send not before the link's free time, nor its span before
-- its node's
unfoldable pub fit_all : FreeTimes → List Span → Bool
fit_all b [] = true
fit_all b (x ∷ xs) = leb b.link x.chunk.start && leb (free_at b.free x.chunk.node) x.from && fit_all (after b x.chunk) xs

-- ---- The deadline walk

-- the key of a job at place i, by a time of its, equal ones by number
abbrev pub key_of : (Job → ℕ) → ℕ → Job → Key
key_of t i j = record { time = t j; number = j.number; place = i }

-- keys of the jobs at places i, i + 1, …
unfoldable pub keys_by : (Job → ℕ) → ℕ → List Job → List Key
keys_by t i [] = []
keys_by t i (j ∷ js) = key_of t i j ∷ keys_by t (suc i) js

-- the jobs in the order of their keys
abbrev pub in_order : List Job → List Key → List Job
in_order js ks = map (λ (x : Key). get_or js x.place no_job) ks

abbrev pub by_time : (Job → ℕ) → List Job → List Job
by_time t js = in_order js (sort_keys (keys_by t 0 js))

abbrev pub deadline_of : Job → ℕ
deadline_of j = j.deadline

abbrev pub start_of : Job → ℕ
start_of j = j.booking.start

-- jobs by deadline, equal deadlines by job number
abbrev pub by_deadline : List Job → List Job
by_deadline = by_time deadline_of

-- jobs by start
abbrev pub by_start : List Job → List Job
by_start = by_time start_of

-- what is asked for a job: its own costs, and no start before the clock or the link's free time
abbrev pub request_of : WalkTerms → FreeTimes → Job → Request
request_of w b j = record { costs = own_costs w.costs j; nodes = w.nodes; from = max w.clock b.link; size = j.size; deadline = j.deadline }

-- a job with a booking
abbrev pub booked : Job → Booking → Job
booked j b = record { number = j.number; show = j.show; size = j.size; compute = j.compute; deadline = j.deadline; booking = b }

-- the next job of the walk, booked
abbrev pub step : WalkTerms → FreeTimes → Job → Job
step w b j = booked j (book_of (request_of w b j) b.free)

-- the free times once it is booked
abbrev pub free_times_after : WalkTerms → FreeTimes → Job → FreeTimes
free_times_after w b j = afters b (lines_of w.costs (step w b j))

-- each job in turn, behind those before it
unfoldable pub plan : WalkTerms → FreeTimes → List Job → List Job
plan w b [] = []
plan w b (j ∷ js) = step w b j ∷ plan w (free_times_after w b j) js

-- whether each is booked
unfoldable pub books_all : WalkTerms → FreeTimes → List Job → Bool
books_all w b [] = true
books_all w b (j ∷ js) = leb 1 (step w b j).booking.count && books_all w (free_times_after w b j) js

-- P of each job of the walk, b the free times that those before it have left
abbrev pub InTurn : (WalkTerms → FreeTimes → Job → Type 0) → WalkTerms → FreeTimes → List Job → Type 0
InTurn P w b [] = Unit
InTurn P w b (j ∷ js) = P w b j × InTurn P w (free_times_after w b j) js
