-- Lines that begin with `quote`, readable or not: left out of a day, they leave the answer of every other line as it was.
use Rattle.std.specs.Prelude.{◌≡◌, refl, List, [], ◌∷◌, ◌++◌, Bool, true, false, cond, not, ◌&&◌, ℕ, leb, eqb, length}
use Rattle.std.proofs.Common.{ap, ap₂, sym, ◌∙◌, eqb-true}
use Rattle.std.proofs.lemmas.Bool.{false≢true}
use Rattle.lists.specs.Keep.{answers_to, answers_keep}
use Rattle.planner.specs.Model.{Farm}
use Rattle.reading.specs.declared.Kind.{Kind}
use Rattle.reading.specs.declared.Kind.TheVariants as kind
use Rattle.planner.specs.Call.{quote}
use Rattle.reading.specs.Model.{same, fields, first_of, kind_word, kind_among, kind_of, line_kind, readable, numbers_of}
use Rattle.lines.specs.Model.{offer_in, no_call, asked, longest, line_asks, Answered, answered_text, unread, called, answered_as, answered_with, answered}
use Rattle.printed.specs.Model.{answers, line_answers, texts, no_quote_line, lines_without_quotes, other_line_answers}

-- What lines are answered is their answers, one after the other.
pub answers_texts : (f : Farm) (ls : List (List ℕ)) → answers f ls ≡ texts (line_answers f ls)
unfolding answers texts answers_to
answers_texts f [] = refl
answers_texts f (l ∷ ls) = ap (λ (t : List ℕ). answered_text (answered f l) ++ t) (answers_texts (answered f l).farm ls)

-- The same bytes are the same.
same_is : (xs ys : List ℕ) → same xs ys ≡ true → xs ≡ ys
unfolding same
same_is [] [] e = refl
same_is [] (y ∷ ys) e = absurd (false≢true e)
same_is (x ∷ xs) [] e = absurd (false≢true e)
same_is (x ∷ xs) (y ∷ ys) e = go (eqb x y) refl e (same_is xs ys)
  where
    go : (b : Bool) → eqb x y ≡ b → (b && same xs ys) ≡ true → (same xs ys ≡ true → xs ≡ ys) → x ∷ xs ≡ y ∷ ys
    go true h k r = ap₂ ◌∷◌ (eqb-true x y h) (r k)
    go false h k r = absurd (false≢true k)

-- A line whose first field is `quote` is of that kind.
quote_kind : (l : List ℕ) → no_quote_line l ≡ false → line_kind l ≡ kind.Quote
unfolding kind_of kind_among same
quote_kind l e = go (same (first_of (fields l)) (kind_word kind.Quote)) refl e
  where
    go : (b : Bool) → same (first_of (fields l)) (kind_word kind.Quote) ≡ b → not b ≡ false → line_kind l ≡ kind.Quote
    go true h k = ap kind_of (same_is (first_of (fields l)) (kind_word kind.Quote) h)
    go false h k = absurd (false≢true (sym k))

-- It leaves the farm as it is.
pub quote_farm : (f : Farm) (l : List ℕ) → no_quote_line l ≡ false → (answered f l).farm ≡ f
unfolding answered answered_as line_asks
quote_farm f l e =
    ap (λ (k : Kind). (answered_with f (cond (leb (length l) longest) (cond (readable l) (asked k) no_call) no_call) ns).farm) (quote_kind l e)
    ∙ go (leb (length l) longest) (readable l)
  where
    ns : List ℕ
    ns = numbers_of l

    turn : (o : Bool) → (cond {A = Answered} o (called f (quote (offer_in (length ns) ns))) (unread f)).farm ≡ f
    turn true = refl
    turn false = refl

    go : (a b : Bool) → (answered_with f (cond a (cond b (asked kind.Quote) no_call) no_call) ns).farm ≡ f
    go true true = turn f.opened
    go true false = refl
    go false b = refl

-- Without them every other line is answered what it is answered among them.
pub answers_without : (f : Farm) (ls : List (List ℕ)) → line_answers f (lines_without_quotes ls) ≡ other_line_answers f ls
answers_without f ls =
    answers_keep no_quote_line (λ (g : Farm) (l : List ℕ). (answered g l).farm)
    (λ (g : Farm) (l : List ℕ). answered_text (answered g l)) quote_farm f ls
