-- What the parts of `read` work out, and what each turn of their loops keeps.
use Rattle.std.specs.Prelude.{Option, Some, None, ℕ, zero, suc, min, ◌+◌, ◌*◌, ◌-◌, ◌^◌, ◌≤◌, ◌<◌, ◌≡◌, refl, Bool, false, cond, ◌&&◌, leb, eqb, get_or, take, drop, set, replicate}
use Rattle.std.proofs.Math.Path.{sym, ap}
use Rattle.std.proofs.Common.{◌∙◌, add-one, pow-suc, arith, le-leb, drop-drop}
use mathlib.Core.List.{List, [], ◌∷◌, map}
use Rattle.std.proofs.Math.Bool.{true, and-false}
use Rattle.std.proofs.Math.Nat.{pow-le-pow_right}
use Rattle.std.proofs.Math.ListN.{length, length-map}
use Rattle.std.proofs.lemmas.List.Edits.{sets}
use Rattle.std.proofs.Math.Seq.{drop-cons, drop-length, take-nil}
use Rattle.search.specs.Model.{this, before}
use Rattle.std.specs.Char.{is_ascii_digit}
use Rattle.std.specs.Cmp.Lexicographic.{pointwise}
use Rattle.text.specs.Model.{tab, value_from, value, padded}
use Rattle.reading.specs.declared.Numbers.{Numbers}
use Rattle.reading.specs.declared.Kind.{Kind}
use Rattle.reading.specs.declared.Kind.TheVariants as kind
use Rattle.reading.specs.Model.{same, kind_word, kinds, kind_among, on_first, fields, others_of, all_digits, is_number, all_numbers, kind_of, fits, line_kind, readable, row_with, row_of}

-- ---- The same bytes

-- It is what `==` of two slices answers.
pub same_is : (xs ys : List ℕ) → same xs ys ≡ pointwise eqb xs ys
unfolding same
same_is [] [] = refl
same_is [] (y ∷ ys) = refl
same_is (x ∷ xs) [] = refl
same_is (x ∷ xs) (y ∷ ys) = rw (same_is xs ys)

-- the kind that a word names, by that `==`
abbrev pub named : List Kind → List ℕ → Kind
named [] w = kind.Unreadable
named (k ∷ ks) w = cond (pointwise eqb w (kind_word k)) k (named ks w)

among_is : (ks : List Kind) (w : List ℕ) → kind_among ks w ≡ named ks w
unfolding kind_among
among_is [] w = refl
among_is (k ∷ ks) w = rw (same_is w (kind_word k), among_is ks w)

pub kind_is : (w : List ℕ) → kind_of w ≡ named kinds w
unfolding kind_of
kind_is w = among_is kinds w

-- ---- A number

-- a field read as a number; none where it is not one
abbrev pub number_in : List ℕ → Option ℕ
number_in f = cond (is_number f) (Some (value f)) None

-- the same of digits behind others of value v
abbrev pub number_from : ℕ → List ℕ → Option ℕ
number_from v f = cond (all_digits f) (Some (value_from v f)) None

pub number_start : (f : List ℕ) → 1 ≤ length f → length f ≤ 13 → number_from 0 f ≡ number_in f
number_start f h k = rw (le-leb 1 (length f) h, le-leb (length f) 13 k)

module _ (v : ℕ) (f : List ℕ) (i : ℕ) (h : i < length f) where
  number_cons : number_from v (drop i f)
      ≡ cond (leb 48 (get_or f i 0) && leb (get_or f i 0) 57 && all_digits (drop (i + 1) f)) (Some (value_from (v * 10 + (get_or f i 0 - 48)) (drop (i + 1) f))) None
  unfolding all_digits value_from
  number_cons = rw (add-one, drop-cons f i 0 h)

  pub number_other : false ≡ is_ascii_digit (get_or f i 0) → number_from v (drop i f) ≡ None
  number_other o = number_cons ∙ rw (← o)

  pub number_more : (b : ℕ) → b ≡ get_or f i 0 → 48 ≤ b → b ≤ 57 → number_from v (drop i f) ≡ number_from (v * 10 + (b - 48)) (drop (i + 1) f)
  number_more b e l m = number_cons ∙ rw (← e, le-leb 48 b l, le-leb b 57 m)

pub number_none : (v : ℕ) (f : List ℕ) (i : ℕ) → i ≡ length f → number_from v (drop i f) ≡ Some v
unfolding all_digits value_from
number_none v f i e = let p : drop i f ≡ [] = rw e (drop-length f) in rw p

-- Before the 13th digit a value is below 10^12.
pub power_small : (i : ℕ) → i < 13 → 10 ^ i ≤ 1000000000000
power_small i h = pow-le-pow_right {n = 10} (omega arith) {i = i} {j = 12} (omega arith)

-- One digit more.
pub power_more : (v d i : ℕ) → v < 10 ^ i → d ≤ 57 → v * 10 + (d - 48) < 10 ^ (i + 1)
power_more v d i h k = rw (add-one, pow-suc) (omega arith)

-- ---- Fields

-- the fields behind a tab, with the tab or the end in front
abbrev pub behind : List ℕ → List (List ℕ)
behind [] = []
behind (b ∷ bs) = fields bs

cut_step : (t : Bool) (b : ℕ) (bs : List ℕ) → fields bs ≡ take (before (this tab) bs) bs ∷ behind (drop (before (this tab) bs) bs)
    → cond t ([] ∷ fields bs) (on_first b (fields bs)) ≡ take (cond t 0 (suc (before (this tab) bs))) (b ∷ bs) ∷ behind (drop (cond t 0 (suc (before (this tab) bs))) (b ∷ bs))
cut_step true b bs h = refl
cut_step false b bs h = ap (on_first b) h

-- The first field goes up to the first tab.
pub fields_cut : (xs : List ℕ) → fields xs ≡ take (before (this tab) xs) xs ∷ behind (drop (before (this tab) xs) xs)
unfolding fields before
fields_cut [] = refl
fields_cut (b ∷ bs) = cut_step (eqb b tab) b bs (fields_cut bs)

-- The next field behind the tab at i goes up to the next tab, at t.
pub behind_next : (xs : List ℕ) (i t : ℕ) → i < length xs → t ≡ i + 1 + before (this tab) (drop (i + 1) xs)
    → behind (drop i xs) ≡ take (t - (i + 1)) (drop (i + 1) xs) ∷ behind (drop t xs)
behind_next xs i t h e =
    let w : t - (i + 1) ≡ before (this tab) (drop (i + 1) xs) = omega arith in
    rw (w, e, ← drop-drop (before (this tab) (drop (i + 1) xs)) (i + 1) xs, drop-cons xs i 0 h, ← add-one i) (fields_cut (drop (i + 1) xs))

pub behind_none : (xs : List ℕ) (i : ℕ) → i ≡ length xs → behind (drop i xs) ≡ []
behind_none xs i e = rw (e, drop-length xs)

-- ---- The numbers of a line

-- What a test with one answer says of it.
pub none_false : {X : Type 0} (t : Bool) (x : X) → None ≡ cond t (Some x) None → t ≡ false
none_false true x e = cc
none_false false x e = refl

pub some_true : {X : Type 0} (t : Bool) (x y : X) → Some y ≡ cond t (Some x) None → (t ≡ true) × (y ≡ x)
some_true true x y e = (refl, cc)
some_true false x y e = cc

-- fields read as numbers up to the first that is none: whether all are numbers, how many come before it, and these
pub record Gathered : Type 0 where
  pub known : Bool
  pub count : ℕ
  pub numbers : List ℕ

-- the numbers of fields, stored from place c on, up to the first that is none
unfoldable pub gathered : ℕ → List ℕ → List (List ℕ) → Gathered
gathered c out [] = record { known = true; count = c; numbers = out }
gathered c out (f ∷ fs) = cond (is_number f) (gathered (suc c) (set out c (value f)) fs) (record { known = false; count = c; numbers = out })

-- what is answered of them: none where a field is no number
abbrev pub answer_of : Gathered → Option Numbers
answer_of g = cond g.known (Some (record { count = g.count; numbers = g.numbers })) None

module _ (c : ℕ) (out : List ℕ) (fs : List (List ℕ)) (f : List ℕ) (gs : List (List ℕ)) (e : fs ≡ f ∷ gs) where
  pub gathered_more : (v : ℕ) (next : List ℕ) → Some v ≡ number_in f → next ≡ set out c v → gathered c out fs ≡ gathered (c + 1) next gs
  unfolding gathered
  gathered_more v next d s = let t = some_true (is_number f) (value f) v d in rw (add-one, s, e, t.0, t.1)

  pub gathered_end : is_number f ≡ false → gathered c out fs ≡ record { known = false; count = c; numbers = out }
  unfolding gathered
  gathered_end t = rw (e, t)

  pub gathered_stop : None ≡ number_in f → gathered c out fs ≡ record { known = false; count = c; numbers = out }
  gathered_stop d = gathered_end (none_false (is_number f) (value f) d)

pub gathered_none : (c : ℕ) (out : List ℕ) (fs : List (List ℕ)) → fs ≡ [] → gathered c out fs ≡ record { known = true; count = c; numbers = out }
unfolding gathered
gathered_none c out fs e = rw e

-- What is gathered, as a whole.
known_step : (t : Bool) (c : ℕ) (out : List ℕ) (f : List ℕ) (fs : List (List ℕ)) → (gathered (suc c) (set out c (value f)) fs).known ≡ all_numbers fs
    → (cond t (gathered (suc c) (set out c (value f)) fs) (record { known = false; count = c; numbers = out })).known ≡ t && all_numbers fs
known_step true c out f fs h = h
known_step false c out f fs h = refl

pub gathered_known : (c : ℕ) (out : List ℕ) (fs : List (List ℕ)) → (gathered c out fs).known ≡ all_numbers fs
unfolding gathered all_numbers
gathered_known c out [] = refl
gathered_known c out (f ∷ fs) = known_step (is_number f) c out f fs (gathered_known (suc c) (set out c (value f)) fs)

all_step : (t : Bool) (c : ℕ) (out : List ℕ) (f : List ℕ) (fs : List (List ℕ)) (r : Gathered) → (all_numbers fs ≡ true → gathered (suc c) (set out c (value f)) fs ≡ r) → t && all_numbers fs ≡ true
    → cond t (gathered (suc c) (set out c (value f)) fs) (record { known = false; count = c; numbers = out }) ≡ r
all_step true c out f fs r h e = h e
all_step false c out f fs r h e = absurd (let z : ◌≡◌ {A = ℕ} 0 1 = cc in omega arith)

pub gathered_all : (c : ℕ) (out : List ℕ) (fs : List (List ℕ)) → all_numbers fs ≡ true
    → gathered c out fs ≡ record { known = true; count = c + length fs; numbers = sets out c (map value fs) }
unfolding gathered all_numbers
gathered_all c out [] e = let n : c + 0 ≡ c = omega arith in rw n
gathered_all c out (f ∷ fs) e =
    let n : c + suc (length fs) ≡ suc c + length fs = omega arith in
    all_step (is_number f) c out f fs _ (λ k. rw n (gathered_all (suc c) (set out c (value f)) fs k)) e

-- ---- A row

sets_nil : (i : ℕ) (vs : List ℕ) → sets [] i vs ≡ []
sets_nil i [] = refl
sets_nil i (v ∷ vs) = sets_nil (suc i) vs

sets_cons : (x : ℕ) (l : List ℕ) (i : ℕ) (vs : List ℕ) → sets (x ∷ l) (suc i) vs ≡ x ∷ sets l i vs
sets_cons x l i [] = refl
sets_cons x l i (v ∷ vs) = sets_cons x (set l i v) (suc i) vs

-- Stored over zeros, the first n are kept.
pub sets_zeros : (n : ℕ) (vs : List ℕ) → sets (replicate n 0) 0 vs ≡ padded n vs
sets_zeros n [] = let z : n - 0 ≡ n = omega arith in rw (take-nil n, z)
sets_zeros zero (v ∷ vs) = let z : 0 - suc (length vs) ≡ 0 = omega arith in rw z (sets_nil 1 vs)
sets_zeros (suc n) (v ∷ vs) =
    let z : suc n - suc (length vs) ≡ n - length vs = omega arith in
    rw z (sets_cons v (replicate n 0) 0 vs ∙ ap (λ (l : List ℕ). v ∷ l) (sets_zeros n vs))

module _ (xs : List ℕ) (e : ℕ) (cut : e ≡ 0 + before (this tab) xs) where
  at_tab : before (this tab) xs ≡ e
  at_tab = omega arith

  others_are : others_of (fields xs) ≡ behind (drop e xs)
  others_are = rw (fields_cut xs, at_tab)

  known_is : all_numbers (behind (drop e xs)) ≡ (gathered 0 (replicate 39 0) (behind (drop e xs))).known
  known_is = sym (gathered_known 0 (replicate 39 0) (behind (drop e xs)))

  -- A field is no number.
  pub row_unknown : None ≡ answer_of (gathered 0 (replicate 39 0) (behind (drop e xs))) → row_of xs ≡ row_with kind.Unreadable []
  unfolding row_of readable
  row_unknown g =
      let u : all_numbers (behind (drop e xs)) ≡ false = known_is ∙ none_false _ _ g in
      rw (others_are, u, and-false)

  module _ (k : Kind) (x : Numbers) (word : k ≡ kind_of (take e xs)) (all : Some x ≡ answer_of (gathered 0 (replicate 39 0) (behind (drop e xs)))) where
    first_is : line_kind xs ≡ k
    first_is = rw (fields_cut xs, at_tab) (sym word)

    all_are : (all_numbers (behind (drop e xs)) ≡ true)
        × (x ≡ record { count = 0 + length (behind (drop e xs)); numbers = sets (replicate 39 0) 0 (map value (behind (drop e xs))) })
    all_are =
        let s = some_true _ _ x all in
        let u = known_is ∙ s.0 in
        let g = gathered_all 0 (replicate 39 0) (behind (drop e xs)) u in
        (u, s.1 ∙ ap (λ (y : Gathered). record { count = y.count; numbers = y.numbers }) g)

    count_is : length (behind (drop e xs)) ≡ x.count
    count_is = let n : x.count ≡ 0 + length (behind (drop e xs)) = ap (λ (y : Numbers). y.count) all_are.1 in omega arith

    -- There are too few or too many.
    pub row_unfit : fits k x.count ≡ false → row_of xs ≡ row_with kind.Unreadable []
    unfolding row_of readable
    row_unfit f = rw (first_is, others_are, count_is, f)

    -- The line is read.
    pub row_read : fits k x.count ≡ true → row_of xs ≡ record { kind = k; count = min 39 x.count; numbers = x.numbers }
    unfolding row_of readable
    row_read f =
        let vs = map value (behind (drop e xs)) in
        let n : length vs ≡ x.count = length-map (behind (drop e xs)) value ∙ count_is in
        let s : x.numbers ≡ padded 39 vs = ap (λ (y : Numbers). y.numbers) all_are.1 ∙ sets_zeros 39 vs in
        rw (first_is, others_are, count_is, f, all_are.0, s, n)
