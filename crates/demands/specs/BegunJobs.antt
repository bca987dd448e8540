-- What a clock move begins is a front of the waiting jobs in order of start, and their spans and lines a front of those that are booked.
use Rattle.std.specs.Prelude.{◌≡◌, refl, ℕ}
use Rattle.std.proofs.Common.{ap, ap₂, sym, subst, ◌∙◌}
use mathlib.Core.List.Permᴰ
use mathlib.Core.List.{List, [], ◌∷◌, ◌++◌, map, append_assoc, Permᴰ}
use Rattle.lists.specs.Laws.{All, all_map, all_image, map_join}
use Rattle.limits.specs.declared.FarmCosts.{FarmCosts}
use Rattle.walk.specs.declared.Job.{Job}
use Rattle.walk.specs.declared.Chunk.{Chunk}
use Rattle.walk.specs.Chain.{spans_lines}
use Rattle.walk.specs.Order.{by_start_perm, by_start_grows}
use Rattle.soundness.specs.Sweep.{spans_all}
use Rattle.lists.specs.Keep.{keep_perm}
use Rattle.timetable.specs.ByStart.{starts_split}
use Rattle.planner.specs.Model.{Farm, Span, lines_of, spans_of, spans_of_all, by_start, waiting_of}
use Rattle.planner.specs.Clock.{keep, starts_after, lines_of_all, begun, waiting_on}
use Rattle.demands.specs.CallLists.{chunk_of}

-- the jobs that wait on, in order of start
abbrev pub later : Farm → ℕ → List Job
later f t = keep (starts_after t) (by_start (waiting_of f))

-- The waiting jobs in order of start are those that begin, then the others.
pub begun_later : (f : Farm) (t : ℕ) → by_start (waiting_of f) ≡ begun f t ++ later f t
begun_later f t = starts_split t (by_start (waiting_of f)) (by_start_grows (waiting_of f))

-- The jobs that wait on, in either order.
pub later_left : (f : Farm) (t : ℕ) → Permᴰ (later f t) (waiting_on f t)
later_left f t = keep_perm (starts_after t) (Permᴰ.symm (by_start_perm (waiting_of f)))

-- The waiting jobs are those that begin and those that wait on.
pub begun_left : (f : Farm) (t : ℕ) → Permᴰ (waiting_of f) (begun f t ++ waiting_on f t)
begun_left f t = Permᴰ.trans (subst (Permᴰ (waiting_of f)) (begun_later f t) (by_start_perm (waiting_of f))) (Permᴰ.append_left (begun f t) (later_left f t))

-- ---- Spans and lines of several jobs

-- The spans of two groups of jobs are those of the one, then those of the other.
pub spans_append : (c : FarmCosts) (xs ys : List Job) → spans_of_all c (xs ++ ys) ≡ spans_of_all c xs ++ spans_of_all c ys
unfolding spans_of_all
spans_append c [] ys = refl
spans_append c (j ∷ xs) ys = ap (λ (l : List Span). spans_of c j ++ l) (spans_append c xs ys) ∙ sym (append_assoc (spans_of c j) (spans_of_all c xs) (spans_of_all c ys))

-- The chunks of jobs' spans are their lines.
pub spans_chunks : (c : FarmCosts) (js : List Job) → map chunk_of (spans_of_all c js) ≡ lines_of_all c js
unfolding spans_of_all lines_of_all
spans_chunks c [] = refl
spans_chunks c (j ∷ js) = map_join chunk_of (spans_of c j) (spans_of_all c js) ∙ ap₂ ◌++◌ (spans_lines c j) (spans_chunks c js)

-- So what holds of spans holds of lines: the lines of two groups of jobs are those of the one, then those of the other,
pub lines_joined : (c : FarmCosts) (xs ys : List Job) → lines_of_all c (xs ++ ys) ≡ lines_of_all c xs ++ lines_of_all c ys
lines_joined c xs ys =
    sym (spans_chunks c (xs ++ ys)) ∙ ap (map chunk_of) (spans_append c xs ys) ∙ map_join chunk_of (spans_of_all c xs) (spans_of_all c ys) ∙ ap₂ ◌++◌ (spans_chunks c xs) (spans_chunks c ys)

-- and what holds of each job's lines holds of all.
pub lines_all : (P : Chunk → Type 0) (c : FarmCosts) (js : List Job) → All (λ (j : Job). All P (lines_of c j)) js → All P (lines_of_all c js)
lines_all P c js h =
    let each : All (λ (j : Job). All (λ (y : Span). P y.chunk) (spans_of c j)) js =
    all_map (λ j k. all_image (λ (y : Span). P y.chunk) (λ (x : Chunk). record { from = j.booking.start; chunk = x }) (lines_of c j) k) js h in
    subst (All P) (spans_chunks c js) (all_image P chunk_of (spans_of_all c js) (spans_all (λ (y : Span). P y.chunk) c js each))
