-- Text as it is read and printed: tabs, newlines, the value of digits, and places for numbers. Everything here is a definition; nothing is assumed.
use Rattle.std.specs.Prelude.{ℕ, ◌+◌, ◌*◌, ◌-◌, List, [], ◌∷◌, ◌++◌, length, take, replicate}

abbrev pub tab : ℕ
tab = 9

abbrev pub newline : ℕ
newline = 10

-- the value of digits in base ten, behind digits of value v
unfoldable pub value_from : ℕ → List ℕ → ℕ
value_from v [] = v
value_from v (b ∷ bs) = value_from (v * 10 + (b - 48)) bs

abbrev pub value : List ℕ → ℕ
value bs = value_from 0 bs

-- the numbers of a line in n places: the first n, with zeros behind them
abbrev pub padded : ℕ → List ℕ → List ℕ
padded n vs = take n vs ++ replicate (n - length vs) 0
