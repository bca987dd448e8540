-- Rows of w cells, one after the other in a list: a row written, rows taken over from another list, a row moved, and
-- the others. Over any type and any width.
use Rattle.std.specs.Prelude.{◌≡◌, refl, List, [], ◌∷◌, ◌++◌, ℕ, zero, suc, ◌+◌, ◌*◌, ◌-◌, ◌≤◌, ◌<◌, length, get_or, take, drop, set}
use Rattle.std.proofs.Common.{sym, ap, subst, ◌∙◌, mul-le-mul_right, arith, add-one, length-drop, take-take, drop-drop, drop_at, length-take-le, get_or-drop, get_or-take}
use Rattle.std.proofs.Math.Decide.{dec_lt}
use Rattle.std.proofs.Math.Seq.{paste, paste-zero, paste-suc, length_paste_head, take-nil}
use Rattle.std.proofs.lemmas.List.Edits.{drop-paste, take-paste, length-paste}
use Rattle.std.proofs.lemmas.List.{take-append-le}

-- row i
abbrev pub row_at : {A : Type 0} → ℕ → ℕ → List A → List A
row_at w i xs = take w (drop (i * w) xs)

-- the first n cells of row i written from a list
abbrev pub row_put : {A : Type 0} → ℕ → ℕ → ℕ → List A → List A → List A
row_put w i n s own = paste own (i * w) s n

-- all rows but row i are as they were
abbrev pub Elsewhere : {A : Type 0} → ℕ → ℕ → List A → List A → Type 0
Elsewhere w i old new = (j : ℕ) → (j ≡ i → ⊥) → row_at w j new ≡ row_at w j old

-- the rows from n on are as they were
abbrev pub Behind : {A : Type 0} → ℕ → ℕ → List A → List A → Type 0
Behind w n old new = (j : ℕ) → n ≤ j → row_at w j new ≡ row_at w j old

pub take_drop : {A : Type 0} (p m : ℕ) (xs : List A) → take m (drop p xs) ≡ drop p (take (p + m) xs)
take_drop {A} zero m xs = let e : m ≡ 0 + m = omega arith in ap (λ (k : ℕ). take k xs) e
take_drop {A} (suc p) m [] = take-nil m ∙ sym (ap (drop (suc p)) (take-nil (suc p + m)))
take_drop {A} (suc p) m (x ∷ xs) = let e : suc (p + m) ≡ suc p + m = omega arith in take_drop p m xs ∙ ap (λ (k : ℕ). drop (suc p) (take k (x ∷ xs))) e

module _ {A : Type 0} (w i n : ℕ) (s own : List A) (fits : i * w + w ≤ length own) (few : n ≤ w) (long : n ≤ length s) where
  pub put_size : length (row_put w i n s own) ≡ length own
  put_size = length-paste own (i * w) s n (omega arith) long

  -- The row begins with what was written.
  pub put_front : take n (row_at w i (row_put w i n s own)) ≡ take n s
  put_front =
      take-take n w (drop (i * w) (row_put w i n s own)) few
      ∙ take_drop (i * w) n (row_put w i n s own)
      ∙ ap (drop (i * w)) (take-paste own (i * w) s n (omega arith) long)
      ∙ drop_at (take (i * w) own) (take n s) (i * w) (length-take-le (i * w) own (omega arith))

  put_before : (j : ℕ) → j < i → row_at w j (row_put w i n s own) ≡ row_at w j own
  put_before j h =
      let up : suc j * w ≤ i * w = mul-le-mul_right w h in
      let a : length (take (i * w) own) ≡ i * w = length-take-le (i * w) own (omega arith) in
      let e : length (take (i * w) own ++ take n s) ≡ i * w + n = length_paste_head own (i * w) s n (omega arith) long in
      let t : take (j * w + w) (row_put w i n s own) ≡ take (j * w + w) own =
      take-append-le (j * w + w) (take (i * w) own ++ take n s) (drop (i * w + n) own) (omega arith)
      ∙ take-append-le (j * w + w) (take (i * w) own) (take n s) (omega arith)
      ∙ take-take (j * w + w) (i * w) own (omega arith) in
      take_drop (j * w) w (row_put w i n s own) ∙ ap (drop (j * w)) t ∙ sym (take_drop (j * w) w own)

  put_behind : (j : ℕ) → i < j → row_at w j (row_put w i n s own) ≡ row_at w j own
  put_behind j h =
      let up : suc i * w ≤ j * w = mul-le-mul_right w h in
      let q : ℕ = j * w - (i * w + n) in
      let e : i * w + n + q ≡ j * w = omega arith in
      let t : drop (i * w + n + q) (row_put w i n s own) ≡ drop (i * w + n + q) own =
      sym (drop-drop q (i * w + n) (row_put w i n s own))
      ∙ ap (drop q) (drop-paste own (i * w) s n (omega arith) long)
      ∙ drop-drop q (i * w + n) own in
      ap (take w) (ap (λ (x : ℕ). drop x (row_put w i n s own)) (sym e) ∙ t ∙ ap (λ (x : ℕ). drop x own) e)

  -- All other rows are as they were.
  pub put_elsewhere : Elsewhere w i own (row_put w i n s own)
  put_elsewhere j d = elim (dec_lt j i) [ yes h ↦ put_before j h | no h ↦ put_behind j (omega arith) ]

-- One more cell.
pub put_next : {A : Type 0} (w i k : ℕ) (s own : List A) (z : A) → i * w + k < length own → k < length s → set (row_put w i k s own) (i * w + k) (get_or s k z) ≡ row_put w i (k + 1) s own
put_next w i k s own z h l = paste-suc own (i * w) s k z h l ∙ ap (paste own (i * w) s) (sym (add-one k))

pub put_none : {A : Type 0} (w i : ℕ) (s own : List A) → own ≡ row_put w i 0 s own
put_none w i s own = paste-zero own (i * w) s

-- ---- Rows taken over from another list

-- the first n cells of row i are those of another array's row i
abbrev pub row_from : {A : Type 0} → ℕ → ℕ → ℕ → List A → List A → List A
row_from w i n own from = row_put w i n (drop (i * w) from) own

-- One more cell.
pub from_next : {A : Type 0} (w i k : ℕ) (own from : List A) (z : A) → i * w + k < length own → i * w + k < length from
    → set (row_from w i k own from) (i * w + k) (get_or from (i * w + k) z) ≡ row_from w i (k + 1) own from
from_next {A} w i k own from z h l =
    ap (λ (v : A). set (row_from w i k own from) (i * w + k) v) (sym (get_or-drop (i * w) from k z))
    ∙ put_next w i k (drop (i * w) from) own z h (omega (arith, length-drop (i * w) from))

-- rows up to n begin like another array's rows, each as far as it is in use; the rows from n on are as they were
pub record Alike {A : Type 0} (w : ℕ) (held : ℕ → ℕ) (n : ℕ) (old from new : List A) : Type 0 where
  pub size : length new ≡ length old
  pub front : (i : ℕ) → i < n → take (held i) (row_at w i new) ≡ take (held i) (row_at w i from)
  pub behind : Behind w n old new

pub alike_none : {A : Type 0} (w : ℕ) (held : ℕ → ℕ) (old from : List A) → Alike w held 0 old from old
alike_none w held old from = record { size = refl; front = λ i h. absurd (omega arith); behind = λ j h. refl }

-- One row further.
pub alike_next : {A : Type 0} (w : ℕ) (held : ℕ → ℕ) (i : ℕ) (old from own new : List A) → i * w + w ≤ length old → i * w + w ≤ length from → held i ≤ w → Alike w held i old from own
    → new ≡ row_from w i (held i) own from → Alike w held (i + 1) old from new
alike_next {A} w held i old from own new h l few x e =
    let long : held i ≤ length (drop (i * w) from) = omega (arith, length-drop (i * w) from) in
    let fits : i * w + w ≤ length own = omega (arith, x.size) in
    let size : length (row_from w i (held i) own from) ≡ length own = put_size w i (held i) (drop (i * w) from) own fits few long in
    let same : take (held i) (row_at w i (row_from w i (held i) own from)) ≡ take (held i) (row_at w i from) =
    put_front w i (held i) (drop (i * w) from) own fits few long ∙ sym (take-take (held i) w (drop (i * w) from) few) in
    let other : Elsewhere w i own (row_from w i (held i) own from) = put_elsewhere w i (held i) (drop (i * w) from) own fits few long in
    subst (Alike w held (i + 1) old from) (sym e)
    (record {
      size = size ∙ x.size;
      front = λ j k. elim (dec_lt j i) [
        | yes d ↦ ap (take (held j)) (other j (λ q. omega arith)) ∙ x.front j d
        | no d ↦ let q : i ≡ j = omega arith in subst (λ (m : ℕ). take (held m) (row_at w m (row_from w i (held i) own from)) ≡ take (held m) (row_at w m from)) q same
      ];
      behind = λ j k. other j (λ q. omega arith) ∙ x.behind j (omega arith);
    })

-- ---- A row moved within its list

-- the first n cells of row i are those of row j
abbrev pub row_moved : {A : Type 0} → ℕ → ℕ → ℕ → ℕ → List A → List A
row_moved w i j n own = row_put w i n (drop (j * w) own) own

-- A cell is its row's.
pub cell_in : {A : Type 0} (w j k : ℕ) (own : List A) (z : A) → k < w → get_or own (j * w + k) z ≡ get_or (row_at w j own) k z
cell_in w j k own z h = sym (get_or-take w (drop (j * w) own) k z h ∙ get_or-drop (j * w) own k z)

module _ {A : Type 0} (w i j : ℕ) (own : List A) (apart : j ≡ i → ⊥) (fits : i * w + w ≤ length own) (full : j * w + w ≤ length own) where
  left : length (drop (j * w) own) ≡ length own - j * w
  left = length-drop (j * w) own

  -- One more cell: the row that is read is as it was.
  pub moved_next : (k : ℕ) (z : A) → k < w → set (row_moved w i j k own) (i * w + k) (get_or (row_moved w i j k own) (j * w + k) z) ≡ row_moved w i j (k + 1) own
  moved_next k z h =
      let read : get_or (row_moved w i j k own) (j * w + k) z ≡ get_or (drop (j * w) own) k z =
      cell_in w j k (row_moved w i j k own) z h
      ∙ ap (λ (r : List A). get_or r k z) (put_elsewhere w i k (drop (j * w) own) own fits (omega arith) (omega (arith, left)) j apart)
      ∙ get_or-take w (drop (j * w) own) k z h in
      ap (λ (v : A). set (row_moved w i j k own) (i * w + k) v) read ∙ put_next w i k (drop (j * w) own) own z (omega arith) (omega (arith, left))

  module _ (n : ℕ) (few : n ≤ w) where
    pub moved_size : length (row_moved w i j n own) ≡ length own
    moved_size = put_size w i n (drop (j * w) own) own fits few (omega (arith, left))

    pub moved_front : take n (row_at w i (row_moved w i j n own)) ≡ take n (row_at w j own)
    moved_front = put_front w i n (drop (j * w) own) own fits few (omega (arith, left)) ∙ sym (take-take n w (drop (j * w) own) few)

    pub moved_elsewhere : Elsewhere w i own (row_moved w i j n own)
    moved_elsewhere = put_elsewhere w i n (drop (j * w) own) own fits few (omega (arith, left))
