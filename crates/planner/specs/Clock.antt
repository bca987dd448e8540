-- A clock move and showing the timetable: what each answers, the farm that it hands back and what it leaves in the lent memory.
-- Everything here is a definition; nothing is assumed. What begins by a time, lines and held ticks over lists of jobs are those of the crate timetable.
pub use Rattle.timetable.specs.Model.{starts_by, starts_after, holds}
unfoldable pub use Rattle.lists.specs.Keep.{keep}
unfoldable pub use Rattle.timetable.specs.Model.{lines_of_all, raised}
use Rattle.std.specs.Prelude.{ℕ, List, [], ◌∷◌, ◌++◌, cond, leb, eqb, length, drop}
use Rattle.walk.specs.declared.Job.{Job}
use Rattle.walk.specs.declared.Chunk.{Chunk}
use Rattle.planner.specs.Model.{Farm}
use Rattle.planner.specs.Model.{greatest, between, afters, by_start, waiting_of, free_times_of}
use Rattle.planner.specs.Passes.{passes_of}
use Rattle.planner.specs.Changes.{with_queue, at_time}
use Rattle.planner.specs.Calls.{Clock, Shown, Said, granted, refused}

-- ---- What a move begins

-- a move to t begins every waiting job whose start is at most t, in order of start
abbrev pub begun : Farm → ℕ → List Job
begun f t = keep (starts_by t) (by_start (waiting_of f))

-- the others wait on, in the order that they have
abbrev pub waiting_on : Farm → ℕ → List Job
waiting_on f t = keep (starts_after t) (waiting_of f)

-- the lines to be issued
abbrev pub issued : Farm → ℕ → List Chunk
issued f t = lines_of_all f.costs (begun f t)

-- ---- A clock move

-- the farm moved to t: what begins takes its free times and adds to the held ticks, and the others wait on
abbrev pub moved_farm : Farm → ℕ → Farm
moved_farm f t = with_queue (at_time f t (afters (free_times_of f) (issued f t)) (raised f.held (issued f t))) f.used (waiting_on f t)

-- questions 11, 9 and 10 in that order, put to a move to t that is lent n records: the number of the first answered no, or 0
unfoldable pub move_asked : Farm → ℕ → ℕ → ℕ
move_asked f t n = cond (passes_of f) (cond (between f.clock t greatest) (cond (leb (length (issued f t)) n) 0 10) 9) 11

-- the time and the number of lines
unfoldable pub move_said : Farm → ℕ → ℕ → Said
move_said f t n = cond (eqb (move_asked f t n) 0) (granted Clock (t ∷ length (issued f t) ∷ [])) (refused (move_asked f t n))

-- the farm that it hands back
unfoldable pub move_farm : Farm → ℕ → ℕ → Farm
move_farm f t n = cond (eqb (move_asked f t n) 0) (moved_farm f t) f

-- the lent memory after it: the lines at its front, its former contents everywhere else
unfoldable pub move_memory : Farm → ℕ → List Chunk → List Chunk
move_memory f t m = cond (eqb (move_asked f t (length m)) 0) (issued f t ++ drop (length (issued f t)) m) m

-- the lines that it writes: none where it is refused
abbrev pub move_lines : Farm → ℕ → ℕ → List Chunk
move_lines f t n = cond (eqb (move_asked f t n) 0) (issued f t) []

-- ---- Showing the timetable

-- the lines of every waiting booking, in order of start
abbrev pub shown : Farm → List Chunk
shown f = lines_of_all f.costs (by_start (waiting_of f))

-- questions 11 and 10 in that order
unfoldable pub shown_asked : Farm → ℕ → ℕ
shown_asked f n = cond (passes_of f) (cond (leb (length (shown f)) n) 0 10) 11

-- their count
unfoldable pub shown_said : Farm → ℕ → Said
shown_said f n = cond (eqb (shown_asked f n) 0) (granted Shown (length (shown f) ∷ [])) (refused (shown_asked f n))

-- the lent memory after it
unfoldable pub shown_memory : Farm → List Chunk → List Chunk
shown_memory f m = cond (eqb (shown_asked f (length m)) 0) (shown f ++ drop (length (shown f)) m) m

-- the lines that it writes
abbrev pub shown_lines : Farm → ℕ → List Chunk
shown_lines f n = cond (eqb (shown_asked f n) 0) (shown f) []
