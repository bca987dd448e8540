-- A number in base ten: its value, how many digits it has, and that it has no leading zero. The example line of document 01.
use Rattle.std.specs.Prelude.{◌≡◌, refl, Bool, true, false, cond, List, [], ◌∷◌, ◌++◌, ℕ, zero, suc, ◌+◌, ◌-◌, ◌*◌, ◌/◌, ◌%◌, ◌^◌, ◌≤◌, ◌<◌, leb, max, length, get_or}
use Rattle.std.proofs.Common.{sym, ap, ◌∙◌, subst, add-one, pow-suc, div-add-mod', mod-lt, add-zero, rules, le-div_iff_mul-le, div-lt_iff_lt-mul, arith, leb-true, leb-false, length-append}
use Rattle.std.proofs.Math.ListN.{get_or-append}
use Rattle.std.proofs.lemmas.Fmt.{decimal-digits_value, length-decimal-le}
use Rattle.std.proofs.lemmas.Str.Parse.{IsNumeralModel, numerals_by_fold, digits_value_short}
use Rattle.std.proofs.Math.Nat.{one-le-pow}
use Rattle.std.proofs.Math.Decide.{dec_le}
use Rattle.std.specs.Fmt as std
use Rattle.lists.specs.Laws.{All, all_join}
use Rattle.text.specs.Model.{value_from, value}
use Rattle.printing.specs.declared.Word.TheVariants as word
use Rattle.printing.specs.Model.{digits, reached, powers, decimal, line_text, tabbed}

value_last : (a : ℕ) (ds : List ℕ) (d : ℕ) → value_from a (ds ++ d ∷ []) ≡ value_from a ds * 10 + (d - 48)
unfolding value_from
value_last a [] d = refl
value_last a (x ∷ ds) d = value_last (a * 10 + (x - 48)) ds d

-- As many digits as a number needs have its value.
digits_value : (k n : ℕ) → n < 10 ^ k → value_from 0 (digits k n) ≡ n
unfolding digits value_from
digits_value zero n h = omega arith
digits_value (suc k) n h =
    let h' : n < 10 ^ k * 10 = subst (λ (m : ℕ). n < m) (pow-suc 10 k) h in
    let e : value_from 0 (digits k (n / 10)) ≡ n / 10 = digits_value k (n / 10) ((div-lt_iff_lt-mul {k = 10} (omega arith)).1 h') in
    value_last 0 (digits k (n / 10)) (48 + n % 10) ∙ omega (arith, e, div-add-mod' n 10)

pub digits_length : (k n : ℕ) → length (digits k n) ≡ k
unfolding digits
digits_length zero n = refl
digits_length (suc k) n = length-append (digits k (n / 10)) ((48 + n % 10) ∷ []) ∙ omega (arith, digits_length k (n / 10))

all_digits_lem : (k n : ℕ) → All (λ (d : ℕ). (48 ≤ d) × (d ≤ 57)) (digits k n)
unfolding digits
all_digits_lem zero n = tt
all_digits_lem (suc k) n =
    let h : n % 10 < 10 = mod-lt n {m = 10} (omega arith) in
    all_join (λ (d : ℕ). (48 ≤ d) × (d ≤ 57)) (digits k (n / 10)) ((48 + n % 10) ∷ []) (all_digits_lem k (n / 10)) ((omega arith, omega arith), tt)

-- The first digit of a number that needs all of them is no zero.
digits_lead : (k n : ℕ) → 10 ^ k ≤ n → n < 10 ^ suc k → 49 ≤ get_or (digits (suc k) n) 0 0
unfolding digits
digits_lead zero n p h = omega (arith, div-add-mod' n 10, mod-lt n {m = 10} (omega arith))
digits_lead (suc k) n p h =
    let p' : 10 ^ k * 10 ≤ n = subst (λ (m : ℕ). m ≤ n) (pow-suc 10 k) p in
    let h' : n < 10 ^ suc k * 10 = subst (λ (m : ℕ). n < m) (pow-suc 10 (suc k)) h in
    let l : 49 ≤ get_or (digits (suc k) (n / 10)) 0 0 =
    digits_lead k (n / 10) ((le-div_iff_mul-le {k = 10} (omega arith)).1 p') ((div-lt_iff_lt-mul {k = 10} (omega arith)).1 h') in
    let e = get_or-append (digits (suc k) (n / 10)) ((48 + n % 10) ∷ []) 0 0 (omega (arith, digits_length (suc k) (n / 10))) in
    subst (λ (m : ℕ). 49 ≤ m) (sym e) l

-- k powers of ten from the i-th on
unfoldable tens : ℕ → ℕ → List ℕ
tens i zero = []
tens i (suc k) = 10 ^ i ∷ tens (suc i) k

powers_tens : powers ≡ tens 1 19
unfolding tens
powers_tens = refl

-- A number is below the first power that it does not reach.
reached_above : (n i k : ℕ) → n < 10 ^ (i + k) → n < 10 ^ (i + reached n (tens i k))
unfolding reached tens
reached_above n i zero h = h
reached_above n i (suc k) h = go (leb (10 ^ i) n) refl (reached_above n (suc i) k)
  where
    go : (b : Bool) → leb (10 ^ i) n ≡ b → (n < 10 ^ (suc i + k) → n < 10 ^ (suc i + reached n (tens (suc i) k)))
        → n < 10 ^ (i + cond b (suc (reached n (tens (suc i) k))) 0)
    go true e f =
        let l : i + suc k ≡ suc i + k = omega arith in
        let r : suc i + reached n (tens (suc i) k) ≡ i + suc (reached n (tens (suc i) k)) = omega arith in
        subst (λ (m : ℕ). n < 10 ^ m) r (f (subst (λ (m : ℕ). n < 10 ^ m) l h))
    go false e f = subst (λ (m : ℕ). n < 10 ^ m) (sym (add-zero i)) (leb-false (10 ^ i) n e)

-- It is no less than the last power that it reaches.
reached_below : (n i k : ℕ) → 10 ^ i ≤ n → 10 ^ (i + reached n (tens (suc i) k)) ≤ n
unfolding reached tens
reached_below n i zero h = subst (λ (m : ℕ). 10 ^ m ≤ n) (sym (add-zero i)) h
reached_below n i (suc k) h = go (leb (10 ^ suc i) n) refl (reached_below n (suc i) k)
  where
    go : (b : Bool) → leb (10 ^ suc i) n ≡ b → (10 ^ suc i ≤ n → 10 ^ (suc i + reached n (tens (suc (suc i)) k)) ≤ n)
        → 10 ^ (i + cond b (suc (reached n (tens (suc (suc i)) k))) 0) ≤ n
    go true e f =
        let r : suc i + reached n (tens (suc (suc i)) k) ≡ i + suc (reached n (tens (suc (suc i)) k)) = omega arith in
        subst (λ (m : ℕ). 10 ^ m ≤ n) r (f (leb-true (10 ^ suc i) n e))
    go false e f = subst (λ (m : ℕ). 10 ^ m ≤ n) (sym (add-zero i)) h

-- No more powers are reached than there are.
pub reached_most : (n : ℕ) (ps : List ℕ) → reached n ps ≤ length ps
unfolding reached
reached_most n [] = omega arith
reached_most n (p ∷ ps) = go (leb p n) (reached_most n ps)
  where
    go : (b : Bool) → reached n ps ≤ length ps → cond b (suc (reached n ps)) 0 ≤ suc (length ps)
    go true h = omega arith
    go false h = omega arith

-- The digits of a decimal are enough for its number, below 2⁶⁴.
decimal_holds : (n : ℕ) → n < 2 ^ 64 → n < 10 ^ suc (reached n powers)
decimal_holds n h =
    let r : n < 10 ^ (1 + reached n (tens 1 19)) = reached_above n 1 19 (omega arith) in
    let e : 1 + reached n (tens 1 19) ≡ suc (reached n powers) = ap (λ (ps : List ℕ). 1 + reached n ps) (sym powers_tens) ∙ omega arith in
    subst (λ (m : ℕ). n < 10 ^ m) e r

-- The decimal of a number below 2⁶⁴ has its value.
pub decimal_value : (n : ℕ) → n < 2 ^ 64 → value (decimal n) ≡ n
unfolding decimal
decimal_value n h = digits_value (suc (reached n powers)) n (decimal_holds n h)

-- A decimal has at least one digit.
pub decimal_some : (n : ℕ) → 1 ≤ length (decimal n)
unfolding decimal
decimal_some n = omega (arith, digits_length (suc (reached n powers)) n)

-- It has at most twenty.
pub decimal_most : (n : ℕ) → length (decimal n) ≤ 20
unfolding decimal
decimal_most n = omega (arith, digits_length (suc (reached n powers)) n, reached_most n powers)

-- Each byte of it is one of the digits 0 to 9.
pub decimal_digits : (n : ℕ) → All (λ (d : ℕ). (48 ≤ d) × (d ≤ 57)) (decimal n)
unfolding decimal
decimal_digits n = all_digits_lem (suc (reached n powers)) n

-- The decimal of 0 is one zero.
pub decimal_zero : decimal 0 ≡ 48 ∷ []
unfolding decimal digits reached
decimal_zero = refl

-- The decimal of any other number below 2⁶⁴ does not begin with a zero.
pub decimal_leads : (n : ℕ) → 1 ≤ n → n < 2 ^ 64 → 49 ≤ get_or (decimal n) 0 0
unfolding decimal
decimal_leads n p h =
    let r : 10 ^ (0 + reached n (tens 1 19)) ≤ n = reached_below n 0 19 p in
    let e : 0 + reached n (tens 1 19) ≡ reached n powers = ap (λ (ps : List ℕ). 0 + reached n ps) (sym powers_tens) ∙ omega arith in
    digits_lead (reached n powers) n (subst (λ (m : ℕ). 10 ^ m ≤ n) e r) (decimal_holds n h)

-- Texts of digits and their value, as the library knows them.
numerals : IsNumeralModel (All (λ (d : ℕ). (48 ≤ d) × (d ≤ 57))) value
unfolding value_from
numerals = numerals_by_fold _ (search rules) value_from (search rules)

-- The library writes a number below 2⁶⁴ as its decimal.
pub decimal_std : (n : ℕ) → n < 2 ^ 64 → std.decimal n ≡ decimal n
decimal_std n h =
    let v = decimal_value n h in
    rw v at (decimal-digits_value numerals (decimal n) (decimal_digits n) (decimal_some n) (one_zero n h) (rw v h))
  where
    one_zero : (n : ℕ) → n < 2 ^ 64 → get_or (decimal n) 0 0 ≡ 48 → length (decimal n) ≡ 1
    one_zero zero h e = ap length decimal_zero
    one_zero (suc n) h e = absurd (omega (arith, e, decimal_leads (suc n) (omega arith) h))

-- It has one digit more than the greatest power of ten that the number, or 1, reaches.
pub std_length : (n m k : ℕ) → n < 2 ^ 64 → m ≡ max n 1 → 10 ^ k ≤ m → m < 10 * 10 ^ k → length (std.decimal n) ≡ k + 1
std_length n m k h e low high = ap length (decimal_std n h) ∙ omega (arith, fewer, more)
  where
    more : length (decimal n) ≤ k + 1
    more = subst (λ (ds : List ℕ). length ds ≤ k + 1) (decimal_std n h)
        (length-decimal-le (k + 1) n (omega arith) (rw (add-one k, pow-suc 10 k) (omega (arith, e, high))) h)

    few : (j : ℕ) → length (decimal n) ≤ j → 10 ^ j ≤ m → ⊥
    few zero d l = omega (arith, decimal_some n)
    few (suc j) d l =
        let v : n < 10 ^ suc j = rw (decimal_value n h) at (digits_value_short numerals (decimal n) (suc j) (decimal_digits n) d) in
        omega (arith, e, v, l, pow-suc 10 j, one-le-pow j 10 (omega arith))

    fewer : k + 1 ≤ length (decimal n)
    fewer = elim (dec_le (length (decimal n)) k) [ no d ↦ omega arith | yes d ↦ absurd (few k d low) ]

-- The line of the word `yes` and the numbers 1, 0, 18 and 2, with a tab before each number and a newline at the end.
pub example_line : line_text word.Yes (1 ∷ 0 ∷ 18 ∷ 2 ∷ []) ≡ 121 ∷ 101 ∷ 115 ∷ 9 ∷ 49 ∷ 9 ∷ 48 ∷ 9 ∷ 49 ∷ 56 ∷ 9 ∷ 50 ∷ 10 ∷ []
unfolding line_text tabbed decimal digits reached
example_line = refl
