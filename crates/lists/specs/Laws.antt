-- Lists: pairs of elements, membership, and that different elements are no more than the places they stand in.
use Rattle.std.specs.Prelude.{◌≡◌, length, get_or, take, drop}
use Rattle.std.proofs.Math.Path.{refl, ap, sym}
use Rattle.std.proofs.Common.{subst, subst₂, ◌∙◌, add-one, arith, drop_of_length-le, drop-cons, get_or-take, length-take-le}
use mathlib.Core.List.Memᴰ
use mathlib.Core.List.{List, [], ◌∷◌, ◌++◌, map, Memᴰ, Permᴰ}
use Rattle.std.proofs.Math.Logic.{⊎_elim}
use Prim.Native.Nat.{ℕ, zero, suc, ◌+◌, ◌≤◌, ◌<◌}

-- P of every element
abbrev pub All : {A : Type 0} → (A → Type 0) → List A → Type 0
All P [] = Unit
All P (x ∷ xs) = P x × All P xs

-- R of each element and every later one
abbrev pub Pairs : {A : Type 0} → (A → A → Type 0) → List A → Type 0
Pairs R [] = Unit
Pairs R (x ∷ xs) = All (R x) xs × Pairs R xs

-- all different
abbrev pub Differ : List ℕ → Type 0
Differ = Pairs (λ (a b : ℕ). a ≡ b → ⊥)

pub all_map : {A : Type 0} {P Q : A → Type 0} → ((x : A) → P x → Q x) → (xs : List A) → All P xs → All Q xs
all_map f [] h = tt
all_map f (x ∷ xs) h = (f x h.0, all_map f xs h.1)

-- P of all is P at each place
pub all_nth : {A : Type 0} (d : A) (P : A → Type 0) (xs : List A) (i : ℕ) → All P xs → i < length xs → P (get_or xs i d)
all_nth d P [] i h l = absurd (omega arith)
all_nth d P (x ∷ xs) zero h l = h.0
all_nth d P (x ∷ xs) (suc i) h l = all_nth d P xs i h.1 (omega arith)

-- P of all of a front is P at each place of it
pub all_front : {A : Type 0} (d : A) (P : A → Type 0) (xs : List A) (n i : ℕ) → i < n → n ≤ length xs → All P (take n xs) → P (get_or xs i d)
all_front d P [] n i h l a = absurd (omega arith)
all_front d P (x ∷ xs) zero i h l a = absurd (omega arith)
all_front d P (x ∷ xs) (suc n) zero h l a = a.0
all_front d P (x ∷ xs) (suc n) (suc i) h l a = all_front d P xs n i (omega arith) (omega arith) a.1

-- A front of n, from place i on: the next, and none at the end.
pub front_next : {A : Type 0} (d : A) (xs : List A) (n i : ℕ) → i < n → n ≤ length xs → drop i (take n xs) ≡ get_or xs i d ∷ drop (i + 1) (take n xs)
front_next d xs n i h l = rw (add-one i, drop-cons (take n xs) i d (omega (arith, length-take-le n xs l)), get_or-take n xs i d h)

pub front_none : {A : Type 0} (xs : List A) (n i : ℕ) → n ≤ length xs → n ≤ i → drop i (take n xs) ≡ []
front_none xs n i l h = drop_of_length-le (take n xs) {i = i} (omega (arith, length-take-le n xs l))

-- P of two at once
pub all_both : {A : Type 0} {P Q R : A → Type 0} → ((x : A) → P x → Q x → R x) → (xs : List A) → All P xs → All Q xs → All R xs
all_both f [] h k = tt
all_both f (x ∷ xs) h k = (f x h.0 k.0, all_both f xs h.1 k.1)

-- P of all is P of each member
pub all_mem : {A : Type 0} {P : A → Type 0} {x : A} {xs : List A} → Memᴰ x xs → All P xs → ((y : A) → x ≡ y → P y → P x) → P x
all_mem (Memᴰ.head {x = y} e) h f = f y e h.0
all_mem (Memᴰ.tail m) h f = all_mem m h.1 f

-- What holds of all holds of a member.
pub at_member : {A : Type 0} (P : A → Type 0) {x : A} {xs : List A} → Memᴰ x xs → All P xs → P x
at_member P m h = all_mem {P = P} m h (λ y e p. subst P (sym e) p)

pub all_of : {A : Type 0} {P : A → Type 0} (xs : List A) → ((x : A) → Memᴰ x xs → P x) → All P xs
all_of [] f = tt
all_of (x ∷ xs) f = (f x (Memᴰ.head refl), all_of xs (λ y m. f y (Memᴰ.tail m)))

-- P of every image
pub all_image : {A B : Type 0} (P : B → Type 0) (f : A → B) (xs : List A) → All (λ (x : A). P (f x)) xs → All P (map f xs)
all_image P f [] h = tt
all_image P f (x ∷ xs) h = (h.0, all_image P f xs h.1)

pub image_all : {A B : Type 0} (P : B → Type 0) (f : A → B) (xs : List A) → All P (map f xs) → All (λ (x : A). P (f x)) xs
image_all P f [] h = tt
image_all P f (x ∷ xs) h = (h.0, image_all P f xs h.1)

-- P of all of a front, and of both parts
pub all_take : {A : Type 0} (P : A → Type 0) (n : ℕ) (xs : List A) → All P xs → All P (take n xs)
all_take P zero [] h = tt
all_take P zero (x ∷ xs) h = tt
all_take P (suc n) [] h = tt
all_take P (suc n) (x ∷ xs) h = (h.0, all_take P n xs h.1)

pub all_append : {A : Type 0} (P : A → Type 0) (xs ys : List A) → All P (xs ++ ys) → All P xs × All P ys
all_append P [] ys h = (tt, h)
all_append P (x ∷ xs) ys h = let r = all_append P xs ys h.1 in ((h.0, r.0), r.1)

pub all_join : {A : Type 0} (P : A → Type 0) (xs ys : List A) → All P xs → All P ys → All P (xs ++ ys)
all_join P [] ys h k = k
all_join P (x ∷ xs) ys h k = (h.0, all_join P xs ys h.1 k)

-- R of each pair of a front
pub pairs_take : {A : Type 0} (R : A → A → Type 0) (n : ℕ) (xs : List A) → Pairs R xs → Pairs R (take n xs)
pairs_take R zero [] h = tt
pairs_take R zero (x ∷ xs) h = tt
pairs_take R (suc n) [] h = tt
pairs_take R (suc n) (x ∷ xs) h = (all_take (R x) n xs h.0, pairs_take R n xs h.1)

-- R of each element of a front and each behind it
pub pairs_across : {A : Type 0} (R : A → A → Type 0) (xs ys : List A) → Pairs R (xs ++ ys) → All (λ (x : A). All (R x) ys) xs
pairs_across R [] ys h = tt
pairs_across R (x ∷ xs) ys h = ((all_append (R x) xs ys h.0).1, pairs_across R xs ys h.1)

-- R of each pair of two lists put together
pub pairs_parts : {A : Type 0} (R : A → A → Type 0) (xs ys : List A) → Pairs R (xs ++ ys) → Pairs R xs × Pairs R ys
pairs_parts R [] ys h = (tt, h)
pairs_parts R (x ∷ xs) ys h = let r = pairs_parts R xs ys h.1 in (((all_append (R x) xs ys h.0).0, r.0), r.1)

pub pairs_join : {A : Type 0} (R : A → A → Type 0) (xs ys : List A) → Pairs R xs → Pairs R ys → All (λ (x : A). All (R x) ys) xs → Pairs R (xs ++ ys)
pairs_join R [] ys h k a = k
pairs_join R (x ∷ xs) ys h k a = (all_join (R x) xs ys h.0 a.0, pairs_join R xs ys h.1 k a.1)

-- two relations of each pair, with what holds of each element
pub pairs_both : {A : Type 0} {P : A → Type 0} {R S T : A → A → Type 0} → ((x y : A) → P x → P y → R x y → S x y → T x y) → (xs : List A) → All P xs → Pairs R xs → Pairs S xs → Pairs T xs
pairs_both f [] p h k = tt
pairs_both {A} {P} {R} {S} {T} f (x ∷ xs) p h k =
    let both : All (λ (y : A). R x y × S x y) xs = all_both (λ y a b. (a, b)) xs h.0 k.0 in
    (all_both (λ y q a. f x y p.0 q a.0 a.1) xs p.1 both, pairs_both f xs p.1 h.1 k.1)

-- R of each pair
pub pairs_map : {A : Type 0} {R S : A → A → Type 0} → ((x y : A) → R x y → S x y) → (xs : List A) → Pairs R xs → Pairs S xs
pairs_map f [] h = tt
pairs_map f (x ∷ xs) h = (all_map (f x) xs h.0, pairs_map f xs h.1)

pub pairs_image : {A B : Type 0} (R : B → B → Type 0) (f : A → B) (xs : List A) → Pairs (λ (x y : A). R (f x) (f y)) xs → Pairs R (map f xs)
pairs_image R f [] h = tt
pairs_image R f (x ∷ xs) h = (all_image (R (f x)) f xs h.0, pairs_image R f xs h.1)

-- An element's image is a member of the images.
pub mem_image : {A B : Type 0} (f : A → B) {x : A} {xs : List A} → Memᴰ x xs → Memᴰ (f x) (map f xs)
mem_image f (Memᴰ.head e) = Memᴰ.head (ap f e)
mem_image f (Memᴰ.tail m) = Memᴰ.tail (mem_image f m)

-- A member of the first list is one of both put together.
pub mem_left : {A : Type 0} {x : A} {xs : List A} (ys : List A) → Memᴰ x xs → Memᴰ x (xs ++ ys)
mem_left ys (Memᴰ.head e) = Memᴰ.head e
mem_left ys (Memᴰ.tail m) = Memᴰ.tail (mem_left ys m)

-- So is a member of the second.
pub mem_right : {A : Type 0} {x : A} (xs : List A) {ys : List A} → Memᴰ x ys → Memᴰ x (xs ++ ys)
mem_right [] m = m
mem_right (y ∷ xs) m = Memᴰ.tail (mem_right xs m)

-- The images of two lists put together are the images of both.
pub map_join : {A B : Type 0} (f : A → B) (xs ys : List A) → map f (xs ++ ys) ≡ map f xs ++ map f ys
map_join f [] ys = refl
map_join f (x ∷ xs) ys = ap (λ l. f x ∷ l) (map_join f xs ys)

module _ {A : Type 0} where
  -- a list without one of its places
  without : {x : A} {ys : List A} → Memᴰ x ys → List A
  without (Memᴰ.head {xs = ys} e) = ys
  without (Memᴰ.tail {x = y} m) = y ∷ without m

  without_length : {x : A} {ys : List A} (m : Memᴰ x ys) → suc (length (without m)) ≡ length ys
  unfolding without
  without_length (Memᴰ.head e) = refl
  without_length (Memᴰ.tail m) = ap suc (without_length m)

  without_mem : {x y : A} {ys : List A} (m : Memᴰ x ys) → (x ≡ y → ⊥) → Memᴰ y ys → Memᴰ y (without m)
  unfolding without
  without_mem (Memᴰ.head e) d n = ⊎_elim (λ q. absurd (d (e ∙ sym q))) (λ k. k) (Memᴰ.cases_cons n)
  without_mem (Memᴰ.tail m) d n = ⊎_elim (λ q. Memᴰ.head q) (λ k. Memᴰ.tail (without_mem m d k)) (Memᴰ.cases_cons n)

  -- Different elements of a list are no more than it is long.
  pub pigeon : (xs ys : List A) → Pairs (λ (a b : A). a ≡ b → ⊥) xs → All (λ (x : A). Memᴰ x ys) xs → length xs ≤ length ys
  pigeon [] ys d h = omega arith
  pigeon (x ∷ xs) ys d h =
      omega (arith, without_length h.0, pigeon xs (without h.0) d.1 (all_both (λ y p q. without_mem h.0 p q) xs d.0 h.1))

-- ---- What a permutation keeps

pub perm_length : {A : Type 0} {xs ys : List A} → Permᴰ xs ys → length xs ≡ length ys
perm_length Permᴰ.nil = refl
perm_length (Permᴰ.cons e d) = ap suc (perm_length d)
perm_length (Permᴰ.swap e f) = refl
perm_length (Permᴰ.trans d₁ d₂) = perm_length d₁ ∙ perm_length d₂

pub perm_all : {A : Type 0} (P : A → Type 0) {xs ys : List A} → Permᴰ xs ys → All P xs → All P ys
perm_all P Permᴰ.nil h = tt
perm_all P (Permᴰ.cons e d) h = (subst P e h.0, perm_all P d h.1)
perm_all P (Permᴰ.swap e f) h = (subst P f h.1.0, (subst P e h.0, h.1.1))
perm_all P (Permᴰ.trans d₁ d₂) h = perm_all P d₂ (perm_all P d₁ h)

pub perm_mem : {A : Type 0} {a : A} {xs ys : List A} → Permᴰ xs ys → Memᴰ a xs → Memᴰ a ys
perm_mem Permᴰ.nil m = m
perm_mem (Permᴰ.cons e d) m = ⊎_elim (λ p. Memᴰ.head (p ∙ e)) (λ n. Memᴰ.tail (perm_mem d n)) (Memᴰ.cases_cons m)
perm_mem (Permᴰ.swap e f) m =
    ⊎_elim (λ p. Memᴰ.tail (Memᴰ.head (p ∙ e))) (λ n. ⊎_elim (λ q. Memᴰ.head (q ∙ f)) (λ o. Memᴰ.tail (Memᴰ.tail o)) (Memᴰ.cases_cons n)) (Memᴰ.cases_cons m)
perm_mem (Permᴰ.trans d₁ d₂) m = perm_mem d₂ (perm_mem d₁ m)

-- A symmetric relation of all pairs holds in every order.
pub perm_pairs : {A : Type 0} (R : A → A → Type 0) → ((a b : A) → R a b → R b a) → {xs ys : List A} → Permᴰ xs ys → Pairs R xs → Pairs R ys
perm_pairs R f Permᴰ.nil h = tt
perm_pairs R f (Permᴰ.cons {b = b} {l₁ = l₁} {l₂ = l₂} e d) h = (subst (λ x. All (R x) l₂) e (perm_all _ d h.0), perm_pairs R f d h.1)
perm_pairs R f (Permᴰ.swap {a = a} {b = b} {l = l} e g) h = (
  (subst₂ R g e (f a b h.0.0), subst (λ x. All (R x) l) g h.1.0),
  (subst (λ x. All (R x) l) e h.0.1, h.1.1),
)
perm_pairs R f (Permᴰ.trans d₁ d₂) h = perm_pairs R f d₂ (perm_pairs R f d₁ h)
