-- The chunk lines of a clock move, for src/answer.rt.
use Rattle.std.specs.Prelude.{◌≡◌, refl, List, [], ◌∷◌, ◌++◌, map, ℕ, ◌+◌, ◌*◌, ◌≤◌, ◌<◌, length, get_or, take}
use Rattle.std.proofs.Common.{ap, sym, ◌∙◌, append-nil, append_assoc, add-one, arith, take_at, take-suc}
use Rattle.std.proofs.lemmas.List.{length-map}
use Rattle.walk.specs.declared.Chunk.{Chunk}
use Rattle.timetable.specs.Model.{chunk_row}
use Rattle.text.specs.Writing.{WroteWithin, wrote_same, wrote_join}
use Rattle.printing.specs.declared.Word.TheVariants as word
use Rattle.printing.specs.Model.{line_text}
use Rattle.lines.specs.Model.{chunk_text, chunk_texts}

-- ---- The chunk lines of a clock move

-- the largest answer: 1,024 chunk lines and a clock line, of at most 176 bytes each
abbrev pub largest : ℕ
largest = 180_400

-- the lines of records that are rows of numbers
unfoldable pub row_texts : List (List ℕ) → List ℕ
row_texts [] = []
row_texts (x ∷ xs) = line_text word.Chunk x ++ row_texts xs

row_snoc : (xs : List (List ℕ)) (x : List ℕ) → row_texts (xs ++ x ∷ []) ≡ row_texts xs ++ line_text word.Chunk x
unfolding row_texts
row_snoc [] x = append-nil (line_text word.Chunk x)
row_snoc (y ∷ xs) x = ap (λ (l : List ℕ). line_text word.Chunk y ++ l) (row_snoc xs x) ∙ sym (append_assoc (line_text word.Chunk y) (row_texts xs) (line_text word.Chunk x))

-- One line more is written.
pub row_next : (xs : List (List ℕ)) (i : ℕ) {at : ℕ} {e x y : List ℕ} {r s : ℕ} → i < length xs → r ≤ length e
    → WroteWithin (i * 176) (row_texts (take i xs)) at e x r → WroteWithin 176 (line_text word.Chunk (get_or xs i [])) r x y s → WroteWithin ((i + 1) * 176) (row_texts (take (i + 1) xs)) at e y s
row_next xs i h k a b =
    let more : row_texts (take i xs) ++ line_text word.Chunk (get_or xs i []) ≡ row_texts (take (i + 1) xs) =
    sym (rw (add-one i, take-suc xs i [] h) (row_snoc (take i xs) (get_or xs i []))) in
    record { wrote = wrote_same more (wrote_join a.wrote k b.wrote); within = omega (arith, a.within, b.within) }

-- They are the chunk lines of the records.
row_texts_lem : (xs : List Chunk) → row_texts (map chunk_row xs) ≡ chunk_texts xs
unfolding row_texts chunk_texts
row_texts_lem [] = refl
row_texts_lem (x ∷ xs) = ap (λ (l : List ℕ). chunk_text x ++ l) (row_texts_lem xs)

-- So are those of records at the front of the lent memory.
pub front_texts : (xs : List Chunk) (rest rows : List (List ℕ)) (n : ℕ) → rows ≡ map chunk_row xs ++ rest → length xs ≡ n → row_texts (take n rows) ≡ chunk_texts xs
front_texts xs rest rows n e l =
    ap (λ (r : List (List ℕ)). row_texts (take n r)) e ∙ ap row_texts (take_at (map chunk_row xs) rest n (length-map xs chunk_row ∙ l)) ∙ row_texts_lem xs
