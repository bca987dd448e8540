-- A field as it is searched for, up to the next tab or newline. A line has no newline; where one is read that has, its field goes on to the next tab and
-- is no number and no kind's word, so the line is of another shape.
use Rattle.std.specs.Prelude.{Option, Some, None, ℕ, suc, ◌+◌, ◌-◌, ◌<◌, ◌≡◌, refl, List, [], ◌∷◌, Bool, true, false, cond, not, ◌&&◌, ◌||◌, leb, eqb, length, get_or, take, drop}
use Rattle.std.proofs.Common.{sym, ap, ◌∙◌, arith, ne_eqb, eqb-true, get_or-drop}
use Rattle.std.proofs.Math.Bool.{and-false}
use Rattle.std.proofs.lemmas.Bool.{lt-leb, eqb-false, not-true, not-false}
use Rattle.search.specs.Model.{this, either, before, next_place}
use Rattle.text.specs.Model.{tab, newline}
use Rattle.reading.specs.declared.Kind.{Kind}
use Rattle.reading.specs.declared.Kind.TheVariants as kind
use Rattle.reading.specs.Model.{same, all_digits, kind_word, kinds, kind_among, kind_of, readable, row_with, row_of}
use Rattle.reading.specs.Steps.{fields_cut, behind, behind_next, none_false, some_true, gathered, gathered_end}

-- a field as it is searched for: where it ends, and whether that is not at a newline
pub record Field : Type 0 where
  pub end : ℕ
  pub whole : Bool

-- the field from a place on
abbrev pub field_from : List ℕ → ℕ → Field
field_from xs from = record { end = next_place (either tab newline) xs from; whole = not (eqb (get_or xs (next_place (either tab newline) xs from) 0) newline) }

-- what is answered of it: where it ends; none at a newline
abbrev pub end_of : Field → Option ℕ
end_of r = cond r.whole (Some r.end) None

pub end_known : (r : Field) (e : ℕ) → Some e ≡ end_of r → (r.whole ≡ true) × (r.end ≡ e)
end_known r e h = let t = some_true r.whole r.end e h in (t.0, sym t.1)

pub end_none : (r : Field) → None ≡ end_of r → r.whole ≡ false
end_none r h = none_false r.whole r.end h

-- the byte where a field from the start ends; 0 at the line's end
abbrev stop_of : List ℕ → ℕ
stop_of xs = get_or xs (before (either tab newline) xs) 0

-- ---- A field without a newline

tab_step : (t n : Bool) (x : ℕ) (xs : List ℕ) → eqb x newline ≡ n → (eqb (stop_of xs) newline ≡ false → before (either tab newline) xs ≡ before (this tab) xs)
    → eqb (get_or (x ∷ xs) (cond (t || n) 0 (suc (before (either tab newline) xs))) 0) newline ≡ false
    → cond (t || n) 0 (suc (before (either tab newline) xs)) ≡ cond t 0 (suc (before (this tab) xs))
tab_step true n x xs e h k = refl
tab_step false true x xs e h k = absurd (let z : ◌≡◌ {A = ℕ} 0 1 = cc in omega arith)
tab_step false false x xs e h k = ap suc (h k)

-- A field that does not end at a newline ends at the next tab, or with the line.
before_tab : (xs : List ℕ) → eqb (stop_of xs) newline ≡ false → before (either tab newline) xs ≡ before (this tab) xs
unfolding before
before_tab [] e = refl
before_tab (x ∷ xs) e = tab_step (eqb x tab) (eqb x newline) x xs refl (before_tab xs) e

-- A whole field is the one that `fields` gives.
pub field_whole : (xs : List ℕ) (from : ℕ) (r : Field) → r ≡ field_from xs from → r.whole ≡ true → r.end ≡ next_place (this tab) xs from
field_whole xs from r h e =
    let w : (field_from xs from).whole ≡ true = rw h at e in
    ap (λ (x : Field). x.end) h ∙ ap (λ (n : ℕ). from + n) (before_tab (drop from xs) (rw get_or-drop (not-true _ w)))

-- So is one that is answered with its end.
pub field_known : (xs : List ℕ) (from e : ℕ) → Some e ≡ end_of (field_from xs from) → e ≡ next_place (this tab) xs from
field_known xs from e h = let k = end_known (field_from xs from) e h in sym k.1 ∙ field_whole xs from (field_from xs from) refl k.0

-- ---- A field with a newline

-- it holds one
abbrev Broken : List ℕ → Type 0
Broken xs = before (this newline) xs < length xs

broken_step : (t n : Bool) (x : ℕ) (xs : List ℕ) → eqb x tab ≡ t → eqb x newline ≡ n → (eqb (stop_of xs) newline ≡ true → Broken (take (before (this tab) xs) xs))
    → eqb (get_or (x ∷ xs) (cond (t || n) 0 (suc (before (either tab newline) xs))) 0) newline ≡ true
    → Broken (take (cond t 0 (suc (before (this tab) xs))) (x ∷ xs))
unfolding before
broken_step true n x xs d e h k = absurd (omega (arith, eqb-true x tab d, eqb-true x newline k))
broken_step false true x xs d e h k = rw e (omega arith)
broken_step false false x xs d e h k = let i : Broken (take (before (this tab) xs) xs) = h k in rw e (omega arith)

-- A field that ends at a newline goes on behind it, up to the next tab.
before_newline : (xs : List ℕ) → eqb (stop_of xs) newline ≡ true → Broken (take (before (this tab) xs) xs)
unfolding before
before_newline [] e = absurd (let z : ◌≡◌ {A = ℕ} 0 1 = cc in omega arith)
before_newline (x ∷ xs) e = broken_step (eqb x tab) (eqb x newline) x xs refl refl (before_newline xs) e

digits_step : (n : Bool) (b : ℕ) (f : List ℕ) → eqb b newline ≡ n → cond n 0 (suc (before (this newline) f)) < suc (length f) → (Broken f → all_digits f ≡ false)
    → leb 48 b && leb b 57 && all_digits f ≡ false
digits_step true b f e h k = rw (lt-leb 48 b (omega (arith, eqb-true b newline e)))
digits_step false b f e h k = rw (k (omega arith), and-false)

-- It is no number,
broken_digits : (f : List ℕ) → Broken f → all_digits f ≡ false
unfolding before all_digits
broken_digits [] h = absurd (omega arith)
broken_digits (b ∷ f) h = digits_step (eqb b newline) b f refl h (broken_digits f)

same_step : (n m : Bool) (x y : ℕ) (xs ys : List ℕ) → eqb x newline ≡ n → eqb y newline ≡ m
    → cond n 0 (suc (before (this newline) xs)) < suc (length xs) → cond m 0 (suc (before (this newline) ys)) ≡ suc (length ys)
    → (Broken xs → before (this newline) ys ≡ length ys → same xs ys ≡ false) → eqb x y && same xs ys ≡ false
same_step n true x y xs ys d e h k i = absurd (omega arith)
same_step true false x y xs ys d e h k i = rw (ne_eqb x y (λ z. eqb-false y newline e (sym z ∙ eqb-true x newline d)))
same_step false false x y xs ys d e h k i = rw (i (omega arith) (omega arith), and-false)

-- and no word without a newline.
broken_same : (xs ys : List ℕ) → Broken xs → before (this newline) ys ≡ length ys → same xs ys ≡ false
unfolding before same
broken_same [] ys h k = absurd (omega arith)
broken_same (x ∷ xs) [] h k = refl
broken_same (x ∷ xs) (y ∷ ys) h k = same_step (eqb x newline) (eqb y newline) x y xs ys refl refl h k (broken_same xs ys)

word_whole : (k : Kind) → before (this newline) (kind_word k) ≡ length (kind_word k)
unfolding before
word_whole kind.Farm = refl
word_whole kind.Job = refl
word_whole kind.Clock = refl
word_whole kind.Account = refl
word_whole kind.Withdraw = refl
word_whole kind.Quote = refl
word_whole kind.Unreadable = refl

broken_kind : (ks : List Kind) (w : List ℕ) → Broken w → kind_among ks w ≡ kind.Unreadable
unfolding kind_among
broken_kind [] w h = refl
broken_kind (k ∷ ks) w h = rw (broken_same w (kind_word k) h (word_whole k)) (broken_kind ks w h)

field_broken : (xs : List ℕ) (from : ℕ) (r : Field) → r ≡ field_from xs from → r.whole ≡ false → Broken (take (before (this tab) (drop from xs)) (drop from xs))
field_broken xs from r h e = let w : (field_from xs from).whole ≡ false = rw h at e in before_newline (drop from xs) (rw get_or-drop (not-false _ w))

-- ---- A line

-- A line whose first field ends at a newline cannot be read.
pub row_broken : (xs : List ℕ) (r : Field) → r ≡ field_from xs 0 → r.whole ≡ false → row_of xs ≡ row_with kind.Unreadable []
unfolding row_of readable kind_of
row_broken xs r h e = rw (fields_cut xs, broken_kind kinds (take (before (this tab) xs) xs) (field_broken xs 0 r h e))

-- A field that ends at a newline is the first that is no number.
pub gathered_broken : (c : ℕ) (out xs : List ℕ) (i : ℕ) (r : Field) → i < length xs → r ≡ field_from xs (i + 1) → r.whole ≡ false
    → gathered c out (behind (drop i xs)) ≡ record { known = false; count = c; numbers = out }
gathered_broken c out xs i r h w e =
    let n = before (this tab) (drop (i + 1) xs) in
    let z : i + 1 + n - (i + 1) ≡ n = omega arith in
    gathered_end c out (behind (drop i xs)) _ _ (behind_next xs i (i + 1 + n) h refl) (rw (z, broken_digits (take n (drop (i + 1) xs)) (field_broken xs (i + 1) r w e), and-false))
