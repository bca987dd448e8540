-- Waiting jobs by their numbers: whether a number is one of theirs, the job that has it, and the jobs without that one. Everything here is a definition;
-- nothing is assumed.
use Rattle.std.specs.Prelude.{ℕ, List, [], ◌∷◌, Bool, true, false, cond, eqb}
use Rattle.walk.specs.declared.Job.{Job}
use Rattle.walk.specs.Model.{empty_job}

-- one of these jobs has the number
unfoldable pub has_number : ℕ → List Job → Bool
has_number n [] = false
has_number n (j ∷ js) = cond (eqb j.number n) true (has_number n js)

-- the job of a number (the empty job where there is none)
unfoldable pub of_number : ℕ → List Job → Job
of_number n [] = empty_job
of_number n (j ∷ js) = cond (eqb j.number n) j (of_number n js)

-- these jobs without the job of a number, in the order that they have
unfoldable pub without : ℕ → List Job → List Job
without n [] = []
without n (j ∷ js) = cond (eqb j.number n) js (j ∷ without n js)
