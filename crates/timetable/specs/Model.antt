-- What a clock move begins, issues and adds to held ticks, over lists of jobs. Everything here is a definition; nothing is assumed.
use Rattle.std.specs.Prelude.{ℕ, ◌+◌, ◌-◌, List, [], ◌∷◌, ◌++◌, Bool, not, leb, get_or, set}
use Rattle.limits.specs.declared.FarmCosts.{FarmCosts}
use Rattle.walk.specs.declared.Job.{Job}
use Rattle.walk.specs.declared.Chunk.{Chunk}
use Rattle.walk.specs.Model.{lines_of}

-- its start is at most t
abbrev pub starts_by : ℕ → Job → Bool
starts_by t j = leb j.booking.start t

-- its start is after t
abbrev pub starts_after : ℕ → Job → Bool
starts_after t j = not (starts_by t j)

-- the lines of several jobs, in chunk order
unfoldable pub lines_of_all : FarmCosts → List Job → List Chunk
lines_of_all c [] = []
lines_of_all c (j ∷ js) = lines_of c j ++ lines_of_all c js

-- a line as a row of its eight numbers, in the order of the papers: the end of computing is the last
abbrev pub chunk_row : Chunk → List ℕ
chunk_row x = x.job ∷ x.show ∷ x.node ∷ x.units ∷ x.start ∷ x.sent ∷ x.finish ∷ x.computed ∷ []

-- what an issued chunk adds to its show's held ticks: its finish minus the start of its own send, document 02 (vi)
abbrev pub holds : Chunk → ℕ
holds x = x.finish - x.start

-- each issued chunk raises its show's cell
unfoldable pub raised : List ℕ → List Chunk → List ℕ
raised hs [] = hs
raised hs (x ∷ xs) = raised (set hs (x.show - 1) (get_or hs (x.show - 1) 0 + holds x)) xs
