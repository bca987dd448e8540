-- An answer and the line that it is, in the words of document 01: a word, then numbers, parted by tabs, and a newline.
-- Everything here is a definition; nothing is assumed.
use Rattle.std.specs.Prelude.{ℕ, zero, suc, ◌+◌, ◌/◌, ◌%◌, List, [], ◌∷◌, ◌++◌, cond, leb}
use Rattle.text.specs.Model.{tab, newline}
use Rattle.printing.specs.declared.Word.{Word}
use Rattle.printing.specs.declared.Word.TheVariants as word

-- ---- Numbers

-- the last k digits of n in base ten
unfoldable pub digits : ℕ → ℕ → List ℕ
digits zero n = []
digits (suc k) n = digits k (n / 10) ++ (48 + n % 10) ∷ []

-- how many of these powers of ten n reaches
unfoldable pub reached : ℕ → List ℕ → ℕ
reached n [] = 0
reached n (p ∷ ps) = cond (leb p n) (suc (reached n ps)) 0

-- ten, a hundred, … up to the greatest below 2⁶⁴
abbrev pub powers : List ℕ
powers =
    10 ∷ 100 ∷ 1_000 ∷ 10_000 ∷ 100_000 ∷ 1_000_000 ∷ 10_000_000 ∷ 100_000_000 ∷ 1_000_000_000 ∷ 10_000_000_000 ∷ 100_000_000_000 ∷ 1_000_000_000_000
    ∷ 10_000_000_000_000 ∷ 100_000_000_000_000 ∷ 1_000_000_000_000_000 ∷ 10_000_000_000_000_000 ∷ 100_000_000_000_000_000 ∷ 1_000_000_000_000_000_000
    ∷ 10_000_000_000_000_000_000 ∷ []

-- a number below 2⁶⁴ in base ten, without leading zeros
unfoldable pub decimal : ℕ → List ℕ
decimal n = digits (suc (reached n powers)) n

-- ---- Words

-- the bytes of each word: open, yes, chunk, clock, account, gone, quote and no
abbrev pub answer_word : Word → List ℕ
answer_word word.Open = 111 ∷ 112 ∷ 101 ∷ 110 ∷ []
answer_word word.Yes = 121 ∷ 101 ∷ 115 ∷ []
answer_word word.Chunk = 99 ∷ 104 ∷ 117 ∷ 110 ∷ 107 ∷ []
answer_word word.Clock = 99 ∷ 108 ∷ 111 ∷ 99 ∷ 107 ∷ []
answer_word word.Account = 97 ∷ 99 ∷ 99 ∷ 111 ∷ 117 ∷ 110 ∷ 116 ∷ []
answer_word word.Gone = 103 ∷ 111 ∷ 110 ∷ 101 ∷ []
answer_word word.Quote = 113 ∷ 117 ∷ 111 ∷ 116 ∷ 101 ∷ []
answer_word word.No = 110 ∷ 111 ∷ []

-- ---- A line

-- numbers, each behind a tab
unfoldable pub tabbed : List ℕ → List ℕ
tabbed [] = []
tabbed (n ∷ ns) = (tab ∷ decimal n) ++ tabbed ns

-- a word and its numbers, with the newline
unfoldable pub line_text : Word → List ℕ → List ℕ
line_text w ns = answer_word w ++ (tabbed ns ++ newline ∷ [])
