-- What the definitions of Model say, in theorems and examples.
use Rattle.std.specs.Prelude.{ℕ, zero, suc, ◌+◌, ◌*◌, ◌-◌, ◌^◌, ◌≤◌, ◌<◌, ◌≡◌, refl, List, [], ◌∷◌, ◌++◌, map, Bool, true, false, cond, ◌&&◌, leb, eqb, length, take, replicate}
use Rattle.std.proofs.Common.{ap, ◌∙◌, arith, leb-true, eqb-true, length-append, length-take}
use Rattle.std.proofs.Math.Nat.{pow-le-pow_right}
use Rattle.std.proofs.lemmas.List.{length-replicate}
use Rattle.lists.specs.Laws.{All, all_take, all_join}
use Rattle.search.specs.Model.{this, before}
use Rattle.text.specs.Model.{tab, value_from, value}
use Rattle.reading.specs.declared.Row.{Row}
use Rattle.reading.specs.declared.Kind.{Kind}
use Rattle.reading.specs.declared.Kind.TheVariants as kind
use Rattle.reading.specs.Model.{same, on_first, fields, all_digits, is_number, all_numbers, kind_word, kind_among, kind_of, fits, others_of, line_kind, numbers_of, readable, row_with, row_of}
use Rattle.reading.specs.Steps.{fields_cut, power_more}

-- ---- Fields lose nothing

-- fields, each with a tab in front
abbrev pub tailed : List (List ℕ) → List ℕ
tailed [] = []
tailed (f ∷ fs) = tab ∷ f ++ tailed fs

-- fields with tabs between them
abbrev pub joined : List (List ℕ) → List ℕ
joined [] = []
joined (f ∷ fs) = f ++ tailed fs

joined_first : (b : ℕ) (fs : List (List ℕ)) → joined (on_first b fs) ≡ b ∷ joined fs
joined_first b [] = refl
joined_first b (f ∷ fs) = refl

tailed_joined : (fs gs : List (List ℕ)) (f : List ℕ) → fs ≡ f ∷ gs → tailed fs ≡ tab ∷ joined fs
tailed_joined fs gs f e = rw e

joined_step : (t : Bool) (b : ℕ) (bs : List ℕ) → eqb b tab ≡ t → joined (fields bs) ≡ bs → joined (cond t ([] ∷ fields bs) (on_first b (fields bs))) ≡ b ∷ bs
joined_step true b bs e h = tailed_joined (fields bs) _ _ (fields_cut bs) ∙ rw (h, eqb-true b tab e)
joined_step false b bs e h = joined_first b (fields bs) ∙ ap (λ (l : List ℕ). b ∷ l) h

-- The fields of a line, joined with tabs, are the line.
pub joined_fields : (bs : List ℕ) → joined (fields bs) ≡ bs
unfolding fields
joined_fields [] = refl
joined_fields (b ∷ bs) = joined_step (eqb b tab) b bs refl (joined_fields bs)

-- no tab in it
abbrev pub Tabless : List ℕ → Type 0
Tabless f = before (this tab) f ≡ length f

tabless_first : (b : ℕ) (fs : List (List ℕ)) → eqb b tab ≡ false → All Tabless fs → All Tabless (on_first b fs)
unfolding before
tabless_first b [] e h = (rw e, tt)
tabless_first b (f ∷ fs) e h = (rw (e, h.0), h.1)

tabless_step : (t : Bool) (b : ℕ) (bs : List ℕ) → eqb b tab ≡ t → All Tabless (fields bs) → All Tabless (cond t ([] ∷ fields bs) (on_first b (fields bs)))
unfolding before
tabless_step true b bs e h = (refl, h)
tabless_step false b bs e h = tabless_first b (fields bs) e h

-- No field holds a tab.
pub fields_tabless : (bs : List ℕ) → All Tabless (fields bs)
unfolding fields before
fields_tabless [] = (refl, tt)
fields_tabless (b ∷ bs) = tabless_step (eqb b tab) b bs refl (fields_tabless bs)

front_step : (t : Bool) (b : ℕ) (f rest : List ℕ) (fs : List (List ℕ)) → cond t 0 (suc (before (this tab) f)) ≡ suc (length f)
    → (Tabless f → fields (f ++ rest) ≡ f ∷ fs) → cond t ([] ∷ fields (f ++ rest)) (on_first b (fields (f ++ rest))) ≡ (b ∷ f) ∷ fs
front_step true b f rest fs h k = absurd (omega arith)
front_step false b f rest fs h k = ap (on_first b) (k (omega arith))

fields_front : (f rest : List ℕ) (fs : List (List ℕ)) → Tabless f → fields rest ≡ [] ∷ fs → fields (f ++ rest) ≡ f ∷ fs
unfolding fields before
fields_front [] rest fs h k = k
fields_front (b ∷ f) rest fs h k = front_step (eqb b tab) b f rest fs h (λ l. fields_front f rest fs l k)

fields_tailed : (fs : List (List ℕ)) → All Tabless fs → fields (tailed fs) ≡ [] ∷ fs
unfolding fields
fields_tailed [] h = refl
fields_tailed (f ∷ fs) h = ap (λ (l : List (List ℕ)). [] ∷ l) (fields_front f (tailed fs) fs h.0 (fields_tailed fs h.1))

-- Fields without tabs, joined with tabs, are the fields of what results: one line has one reading.
pub fields_joined : (f : List ℕ) (fs : List (List ℕ)) → All Tabless (f ∷ fs) → fields (joined (f ∷ fs)) ≡ f ∷ fs
fields_joined f fs h = fields_front f (tailed fs) fs h.0 (fields_tailed fs h.1)

-- ---- A number's size

and_both : (a b : Bool) → a && b ≡ true → (a ≡ true) × (b ≡ true)
and_both true b e = (refl, e)
and_both false b e = absurd (let z : ◌≡◌ {A = ℕ} 0 1 = cc in omega arith)

value_power : (v i : ℕ) (f : List ℕ) → v < 10 ^ i → all_digits f ≡ true → value_from v f < 10 ^ (i + length f)
unfolding all_digits value_from
value_power v i [] h e = let z : i + 0 ≡ i = omega arith in rw z h
value_power v i (b ∷ f) h e =
    let p = and_both (leb 48 b && leb b 57) (all_digits f) e in
    let q : b ≤ 57 = leb-true b 57 (and_both (leb 48 b) (leb b 57) p.0).1 in
    let z : i + suc (length f) ≡ i + 1 + length f = omega arith in
    rw z (value_power (v * 10 + (b - 48)) (i + 1) f (power_more v b i h q) p.1)

-- A number is below 10^13.
pub value_below : (f : List ℕ) → is_number f ≡ true → value f < 10000000000000
value_below f e =
    let p = and_both (leb 1 (length f) && leb (length f) 13) (all_digits f) e in
    let q : length f ≤ 13 = leb-true (length f) 13 (and_both (leb 1 (length f)) _ p.0).1 in
    let t : 10 ^ length f ≤ 10000000000000 = pow-le-pow_right {n = 10} (omega arith) {i = length f} {j = 13} q in
    let v : value_from 0 f < 10 ^ (0 + length f) = value_power 0 0 f (omega arith) p.1 in
    let z : 0 + length f ≡ length f = omega arith in
    let w : value_from 0 f < 10 ^ length f = rw z at v in
    omega arith

-- ---- A row's figures

abbrev pub Small : ℕ → Type 0
Small n = n < 10000000000000

values_small : (fs : List (List ℕ)) → all_numbers fs ≡ true → All Small (map value fs)
unfolding all_numbers
values_small [] e = tt
values_small (f ∷ fs) e = let p = and_both (is_number f) (all_numbers fs) e in (value_below f p.0, values_small fs p.1)

zeros_small : (n : ℕ) → All Small (replicate n 0)
zeros_small zero = tt
zeros_small (suc n) = (omega arith, zeros_small n)

-- A row has 39 places, a count of at most 39, and numbers below 10^13, whatever the line.
pub record Kept (r : Row) : Type 0 where
  pub places : length r.numbers ≡ 39
  pub count : r.count ≤ 39
  pub small : All Small r.numbers

kept_with : (k : Kind) (ns : List ℕ) → All Small ns → Kept (row_with k ns)
kept_with k ns h = record {
  places = let z : length (replicate {A = ℕ} (39 - length ns) 0) ≡ 39 - length ns = length-replicate _ _ in omega (arith, length-append (take 39 ns) (replicate (39 - length ns) 0), length-take 39 ns);
  count = omega arith;
  small = all_join Small (take 39 ns) (replicate (39 - length ns) 0) (all_take Small 39 ns h) (zeros_small (39 - length ns));
}

kept_step : (t : Bool) (bs : List ℕ) → readable bs ≡ t → Kept (cond t (row_with (line_kind bs) (numbers_of bs)) (row_with kind.Unreadable []))
unfolding readable
kept_step true bs e =
    kept_with (line_kind bs) (numbers_of bs) (values_small (others_of (fields bs)) (and_both (fits (line_kind bs) (length (others_of (fields bs)))) (all_numbers (others_of (fields bs))) e).1)
kept_step false bs e = kept_with kind.Unreadable [] tt

pub row_kept : (bs : List ℕ) → Kept (row_of bs)
unfolding row_of
row_kept bs = kept_step (readable bs) bs refl

-- ---- A kind's word

-- Each kind is read from its own word, so no two kinds share one.
pub kind_word_lem : (k : Kind) → kind_of (kind_word k) ≡ k
unfolding kind_of kind_among same
kind_word_lem kind.Farm = refl
kind_word_lem kind.Job = refl
kind_word_lem kind.Clock = refl
kind_word_lem kind.Account = refl
kind_word_lem kind.Withdraw = refl
kind_word_lem kind.Quote = refl
kind_word_lem kind.Unreadable = refl

-- ---- Examples

-- `job 1 10 18`, with tabs: its kind and three numbers.
pub job_line : row_of (106 ∷ 111 ∷ 98 ∷ 9 ∷ 49 ∷ 9 ∷ 49 ∷ 48 ∷ 9 ∷ 49 ∷ 56 ∷ []) ≡ row_with kind.Job (1 ∷ 10 ∷ 18 ∷ [])
unfolding row_of readable kind_of kind_among same fields all_numbers all_digits value_from
job_line = refl

-- `clock 007`: zeros in front change nothing.
pub zeros_line : row_of (99 ∷ 108 ∷ 111 ∷ 99 ∷ 107 ∷ 9 ∷ 48 ∷ 48 ∷ 55 ∷ []) ≡ row_with kind.Clock (7 ∷ [])
unfolding row_of readable kind_of kind_among same fields all_numbers all_digits value_from
zeros_line = refl

-- `clock 9999999999999`: 13 digits are read.
pub digits_13 : row_of (99 ∷ 108 ∷ 111 ∷ 99 ∷ 107 ∷ 9 ∷ replicate 13 57) ≡ row_with kind.Clock (9999999999999 ∷ [])
unfolding row_of readable kind_of kind_among same fields all_numbers all_digits value_from
digits_13 = refl

-- `clock 00000000000007`: 14 digits are not, whatever their value.
pub digits_14 : row_of (99 ∷ 108 ∷ 111 ∷ 99 ∷ 107 ∷ 9 ∷ replicate 13 48 ++ 55 ∷ []) ≡ row_with kind.Unreadable []
unfolding row_of readable kind_of kind_among same fields all_numbers all_digits
digits_14 = refl

-- `job 1  18`: an empty field is no number.
pub empty_field : row_of (106 ∷ 111 ∷ 98 ∷ 9 ∷ 49 ∷ 9 ∷ 9 ∷ 49 ∷ 56 ∷ []) ≡ row_with kind.Unreadable []
unfolding row_of readable kind_of kind_among same fields all_numbers all_digits
empty_field = refl

-- `farm 1 1 1 1 1` and a tab at the end: the field behind it is empty.
pub last_tab : row_of (102 ∷ 97 ∷ 114 ∷ 109 ∷ 9 ∷ 49 ∷ 9 ∷ 49 ∷ 9 ∷ 49 ∷ 9 ∷ 49 ∷ 9 ∷ 49 ∷ 9 ∷ []) ≡ row_with kind.Unreadable []
unfolding row_of readable kind_of kind_among same fields all_numbers all_digits
last_tab = refl

-- `clock 7` and a carriage return: it is no digit.
pub carriage_return : row_of (99 ∷ 108 ∷ 111 ∷ 99 ∷ 107 ∷ 9 ∷ 55 ∷ 13 ∷ []) ≡ row_with kind.Unreadable []
unfolding row_of readable kind_of kind_among same fields all_numbers all_digits
carriage_return = refl

-- The empty line has no kind.
pub empty_line : row_of [] ≡ row_with kind.Unreadable []
unfolding row_of readable kind_of kind_among same fields all_numbers
empty_line = refl
