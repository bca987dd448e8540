-- A line of input and the record that it is, in the words of document 01: fields parted by tabs, the first a kind, the others numbers of 1 to 13
-- digits. A line is given without its newline. Everything here is a definition; nothing is assumed.
use Rattle.std.specs.Prelude.{ℕ, min, List, [], ◌∷◌, map, Bool, true, false, cond, ◌&&◌, leb, eqb, length}
use Rattle.text.specs.Model.{tab, value, padded}
use Rattle.reading.specs.declared.Row.{Row}
use Rattle.reading.specs.declared.Kind.{Kind}
use Rattle.reading.specs.declared.Kind.TheVariants as kind

-- ---- Bytes

-- the same bytes
unfoldable pub same : List ℕ → List ℕ → Bool
same [] [] = true
same [] (y ∷ ys) = false
same (x ∷ xs) [] = false
same (x ∷ xs) (y ∷ ys) = eqb x y && same xs ys

-- ---- Fields

-- a byte in front of the first field
abbrev pub on_first : ℕ → List (List ℕ) → List (List ℕ)
on_first b [] = (b ∷ []) ∷ []
on_first b (f ∷ fs) = (b ∷ f) ∷ fs

-- the fields of a line
unfoldable pub fields : List ℕ → List (List ℕ)
fields [] = [] ∷ []
fields (b ∷ bs) = cond (eqb b tab) ([] ∷ fields bs) (on_first b (fields bs))

abbrev pub first_of : List (List ℕ) → List ℕ
first_of [] = []
first_of (f ∷ fs) = f

abbrev pub others_of : List (List ℕ) → List (List ℕ)
others_of [] = []
others_of (f ∷ fs) = fs

-- ---- Numbers

-- every byte is one of 0 to 9
unfoldable pub all_digits : List ℕ → Bool
all_digits [] = true
all_digits (b ∷ bs) = leb 48 b && leb b 57 && all_digits bs

-- a number is 1 to 13 digits
abbrev pub is_number : List ℕ → Bool
is_number f = leb 1 (length f) && leb (length f) 13 && all_digits f

unfoldable pub all_numbers : List (List ℕ) → Bool
all_numbers [] = true
all_numbers (f ∷ fs) = is_number f && all_numbers fs

-- ---- Kinds

-- the word of each kind: farm, job, clock, account, withdraw and quote; a line that cannot be read has none
abbrev pub kind_word : Kind → List ℕ
kind_word kind.Farm = 102 ∷ 97 ∷ 114 ∷ 109 ∷ []
kind_word kind.Job = 106 ∷ 111 ∷ 98 ∷ []
kind_word kind.Clock = 99 ∷ 108 ∷ 111 ∷ 99 ∷ 107 ∷ []
kind_word kind.Account = 97 ∷ 99 ∷ 99 ∷ 111 ∷ 117 ∷ 110 ∷ 116 ∷ []
kind_word kind.Withdraw = 119 ∷ 105 ∷ 116 ∷ 104 ∷ 100 ∷ 114 ∷ 97 ∷ 119 ∷ []
kind_word kind.Quote = 113 ∷ 117 ∷ 111 ∷ 116 ∷ 101 ∷ []
kind_word kind.Unreadable = []

-- the kinds that a word names
abbrev pub kinds : List Kind
kinds = kind.Farm ∷ kind.Job ∷ kind.Clock ∷ kind.Account ∷ kind.Withdraw ∷ kind.Quote ∷ []

-- the one among these kinds whose word it is
unfoldable pub kind_among : List Kind → List ℕ → Kind
kind_among [] w = kind.Unreadable
kind_among (k ∷ ks) w = cond (same w (kind_word k)) k (kind_among ks w)

unfoldable pub kind_of : List ℕ → Kind
kind_of w = kind_among kinds w

-- show, size and deadline, then a compute cost if it is given
abbrev pub fits_offer : ℕ → Bool
fits_offer n = leb 3 n && leb n 4

-- how many numbers follow: nodes and five costs for a farm, then its allowances; what is offered for a job and for a quote; a time; a show; a job
abbrev pub fits : Kind → ℕ → Bool
fits kind.Farm n = leb 6 n
fits kind.Job n = fits_offer n
fits kind.Clock n = eqb n 1
fits kind.Account n = eqb n 1
fits kind.Withdraw n = eqb n 1
fits kind.Quote n = fits_offer n
fits kind.Unreadable n = false

-- ---- A line

abbrev pub line_kind : List ℕ → Kind
line_kind bs = kind_of (first_of (fields bs))

abbrev pub numbers_of : List ℕ → List ℕ
numbers_of bs = map value (others_of (fields bs))

-- it can be read
unfoldable pub readable : List ℕ → Bool
readable bs = fits (line_kind bs) (length (others_of (fields bs))) && all_numbers (others_of (fields bs))

-- a row of numbers: 39 are kept (nodes, five costs and 33 allowances, one more than any farm has)
abbrev pub row_with : Kind → List ℕ → Row
row_with k ns = record { kind = k; count = min 39 (length ns); numbers = padded 39 ns }

-- the record of a line: its kind and numbers; no numbers where it cannot be read
unfoldable pub row_of : List ℕ → Row
row_of bs = cond (readable bs) (row_with (line_kind bs) (numbers_of bs)) (row_with kind.Unreadable [])
