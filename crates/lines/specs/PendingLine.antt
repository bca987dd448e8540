-- A line that has not ended: what is kept of it, and the bytes in which src/kept.rt keeps it.
use Rattle.std.specs.Prelude.{◌≡◌, refl, List, [], ◌∷◌, ◌++◌, Bool, true, false, cond, ℕ, ◌+◌, ◌-◌, ◌≤◌, ◌<◌, leb, ltb, length, take}
use Rattle.std.proofs.Common.{ap, sym, ◌∙◌, append-nil, append_assoc, arith, le-leb, leb-true, ltb-true, lt-ltb, length-append, length-take, length-take-le}
use Rattle.std.proofs.lemmas.Bool.{lt-leb}
use Rattle.planner.specs.Model.{Farm}
use Rattle.reading.specs.declared.Kind.TheVariants as kind
use Rattle.reading.specs.Model.{row_with, row_of}
use Rattle.lines.specs.declared.Rest.{Rest}
use Rattle.lines.specs.Model.{longest, Pending, part, long, kept, ended}
use Rattle.lines.specs.Feeding.{kept_all}
use Rattle.lines.specs.Rows.{pending_of, row_in, by_row, line_row, no_row}

-- ---- What is kept of a line

pub kept_long : (xs : List ℕ) → kept_all long xs ≡ long
unfolding kept_all
kept_long [] = refl
kept_long (b ∷ xs) = kept_long xs

pub kept_fits : (l xs : List ℕ) → length l + length xs ≤ longest → kept_all (part l) xs ≡ part (l ++ xs)
unfolding kept_all
kept_fits l [] h = ap part (sym (append-nil l))
kept_fits l (b ∷ xs) h =
    rw (lt-ltb (length l) longest (omega arith)) (kept_fits (l ++ b ∷ []) xs (omega (arith, length-append l (b ∷ []))) ∙ ap part (append_assoc l (b ∷ []) xs))

pub kept_over : (l xs : List ℕ) → length l ≤ longest → longest < length l + length xs → kept_all (part l) xs ≡ long
unfolding kept_all
kept_over l [] h k = absurd (omega arith)
kept_over l (b ∷ xs) h k = go (ltb (length l) longest) refl (kept_over (l ++ b ∷ []) xs)
  where
    go : (t : Bool) → ltb (length l) longest ≡ t → (length (l ++ b ∷ []) ≤ longest → longest < length (l ++ b ∷ []) + length xs → kept_all (part (l ++ b ∷ [])) xs ≡ long)
        → kept_all (cond t (part (l ++ b ∷ [])) long) xs ≡ long
    go true e r = r (omega (arith, length-append l (b ∷ []), ltb-true (length l) longest e)) (omega (arith, length-append l (b ∷ [])))
    go false e r = kept_long xs

-- it is not too long, or is known to be
abbrev Known : Pending → Type 0
Known (part l) = length l ≤ longest
Known long = Unit {0}

kept_known : (p : Pending) (b : ℕ) → Known p → Known (kept p b)
kept_known long b h = tt
kept_known (part l) b h = go (ltb (length l) longest) refl
  where
    go : (t : Bool) → ltb (length l) longest ≡ t → Known (cond t (part (l ++ b ∷ [])) long)
    go true e = omega (arith, length-append l (b ∷ []), ltb-true (length l) longest e)
    go false e = tt

known_all : (p : Pending) (xs : List ℕ) → Known p → Known (kept_all p xs)
unfolding kept_all
known_all p [] h = h
known_all p (b ∷ xs) h = known_all (kept p b) xs (kept_known p b h)

known_row : (f : Farm) (p : Pending) → Known p → ended f p ≡ by_row f (row_in p)
known_row f (part l) h = line_row f l h
known_row f long h = sym (no_row f)

-- ---- The bytes that hold it

rest_known : (r : Rest) → Known (pending_of r)
rest_known r = go (leb r.fill longest) refl
  where
    go : (t : Bool) → leb r.fill longest ≡ t → Known (cond t (part (take r.fill r.bytes)) long)
    go true e = omega (arith, leb-true r.fill longest e, length-take r.fill r.bytes)
    go false e = tt

-- With the bytes that follow, it is answered as its row is.
pub kept_row : (f : Farm) (r : Rest) (xs : List ℕ) → ended f (kept_all (pending_of r) xs) ≡ by_row f (row_in (kept_all (pending_of r) xs))
kept_row f r xs = known_row f (kept_all (pending_of r) xs) (known_all (pending_of r) xs (rest_known r))

-- a line that is too long stays so
pub rest_long : (r : Rest) (xs : List ℕ) → longest < r.fill → pending_of r ≡ kept_all (pending_of r) xs
rest_long r xs h = rw (lt-leb r.fill longest h) (sym (kept_long xs))

module _ (r : Rest) (xs : List ℕ) (h : r.fill ≤ longest) (l : length r.bytes ≡ longest) where
  filled : length (take r.fill r.bytes) ≡ r.fill
  filled = length-take-le r.fill r.bytes (omega arith)

  -- a line becomes too long
  pub rest_over : (b : List ℕ) → longest - r.fill < length xs → pending_of (record { fill = 1025; bytes = b }) ≡ kept_all (pending_of r) xs
  rest_over b k = rw (le-leb r.fill longest h) (sym (kept_over (take r.fill r.bytes) xs (omega (arith, filled)) (omega (arith, filled))))

  -- its bytes stand behind those that are there
  pub rest_fits : (b : List ℕ) → r.fill + length xs ≤ longest → take (r.fill + length xs) b ≡ take r.fill r.bytes ++ xs
      → pending_of (record { fill = r.fill + length xs; bytes = b }) ≡ kept_all (pending_of r) xs
  rest_fits b k e =
      rw (le-leb r.fill longest h, le-leb (r.fill + length xs) longest k, e)
      (sym (kept_fits (take r.fill r.bytes) xs (omega (arith, filled))))

-- ---- A line of which nothing came before

module _ (r : Rest) (xs : List ℕ) (h : r.fill ≡ 0) where
  -- it is read as it stands
  pub row_whole : length xs ≤ longest → row_in (kept_all (pending_of r) xs) ≡ row_of xs
  row_whole k = rw (h, kept_fits [] xs (omega arith))

  -- it is too long
  pub row_over : longest < length xs → row_in (kept_all (pending_of r) xs) ≡ row_with kind.Unreadable []
  row_over k = rw (h, kept_over [] xs (omega arith) (omega arith))
