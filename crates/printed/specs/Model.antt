-- What a whole input prints: the answers of its lines. Everything here is a definition; nothing is assumed. What one line is answered is in the
-- crate lines.
use Rattle.std.specs.Prelude.{ℕ, List, [], ◌∷◌, ◌++◌, Bool, cond, not, eqb}
use Rattle.lists.specs.Keep.{keep, answers_to}
use Rattle.planner.specs.Model.{Farm}
use Rattle.planner.specs.Calls.{unopened}
use Rattle.text.specs.Model.{newline}
use Rattle.reading.specs.declared.Kind.TheVariants as kind
use Rattle.reading.specs.Model.{same, on_first, fields, first_of, kind_word}
use Rattle.lines.specs.Model.{answered_text, answered}

-- the lines of the input: each ends with a newline, which the last one may lack
unfoldable pub lines_in : List ℕ → List (List ℕ)
lines_in [] = []
lines_in (b ∷ bs) = cond (eqb b newline) ([] ∷ lines_in bs) (on_first b (lines_in bs))

-- their answers, one after the other
unfoldable pub answers : Farm → List (List ℕ) → List ℕ
answers f [] = []
answers f (l ∷ ls) = answered_text (answered f l) ++ answers (answered f l).farm ls

-- what is printed for a whole input, from an unopened farm
abbrev pub day_text : List ℕ → List ℕ
day_text bs = answers unopened (lines_in bs)

-- ---- Without the `quote` lines

-- each line with its answer
abbrev pub line_answers : Farm → List (List ℕ) → List (List ℕ × List ℕ)
line_answers f ls =
    answers_to (λ (g : Farm) (l : List ℕ). (answered g l).farm)
    (λ (g : Farm) (l : List ℕ). answered_text (answered g l)) f ls

-- such answers, one after the other
unfoldable pub texts : List (List ℕ × List ℕ) → List ℕ
texts [] = []
texts (a ∷ rest) = a.1 ++ texts rest

-- whether its first field is another than `quote`
abbrev pub no_quote_line : List ℕ → Bool
no_quote_line l = not (same (first_of (fields l)) (kind_word kind.Quote))

-- the lines without those that begin with `quote`, and what the others are answered among them
abbrev pub lines_without_quotes : List (List ℕ) → List (List ℕ)
lines_without_quotes ls = keep no_quote_line ls

abbrev pub other_line_answers : Farm → List (List ℕ) → List (List ℕ × List ℕ)
other_line_answers f ls = keep (λ (a : List ℕ × List ℕ). no_quote_line a.0) (line_answers f ls)
