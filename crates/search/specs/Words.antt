-- Why the test of a word finds its first wanted byte. A word is searched for a byte c as x, which is 0 in the bytes that are c. Less 1 in each byte, the lowest 0 of x becomes 255 and
-- borrows from the byte above; below it no byte borrows. So its top bit is set there and was not in x, and in no byte below are both so.
use Rattle.std.specs.Prelude.{◌≡◌, ℕ, zero, suc, ◌+◌, ◌-◌, ◌*◌, ◌/◌, ◌%◌, ◌^◌, ◌<◌, ◌≤◌, Bool, true, false, cond, ◌||◌, List, [], ◌∷◌, ◌++◌, length, ◌==◌, ◌≢◌, bit_and, bit_or, bit_xor}
use Rattle.std.proofs.Math.Path.{refl}
use Rattle.std.proofs.Common.{ap, ◌∙◌, add-zero, zero-add, suc-add, mul-one, pow-suc, mod-eq_of_lt, div-lt_iff_lt-mul, le-div_iff_mul-le, eqb-true, lit<}
use Rattle.std.proofs.Math.Nat.{add-mul-mod_self_left, add-mul-div_left, div-eq_of_lt, mul-add-mod_self_right, div-add-mod', mod-add-div, mod-lt}
use native.Mathlib.Omega.{arith}
use Rattle.std.proofs.lemmas.Bool.{eqb-false}
use Rattle.std.proofs.lemmas.Nat.{and_block, or_block, xor_block, and_comm, and_le_l, and_le_r}
use Rattle.std.specs.Int.Bits.{and_zero_r, and_shifted, xor_self, xor_lt, xor_add_and, shifted_half, shifted_even}
use Rattle.std.specs.Int.Count.{count_trailing_zeros}
use Rattle.search.specs.Model.{this, either, before}

-- the n lowest bytes of a word, the lowest first
unfoldable pub bytes_of : ℕ → ℕ → List ℕ
bytes_of zero w = []
bytes_of (suc n) w = w % 256 ∷ bytes_of n (w / 256)

-- t has the top bit of the first wanted byte and no bit below it; it is 0 where there is none. What stands above the first is not said.
abbrev pub Marks : (ℕ → Bool) → List ℕ → ℕ → Type 0
Marks p [] t = t ≡ 0
Marks p (b ∷ bs) t = (u : ℕ) × (t ≡ u * 256 + cond (p b) 128 0) × (p b ≡ false → Marks p bs u)

-- of eight bytes: t is 0 exactly where none is wanted, and its lowest bit stands in the first that is
pub record Exact (p : ℕ → Bool) (bs : List ℕ) (t : ℕ) : Type 0 where
  pub none : t ≡ 0 → before p bs ≡ 8
  pub some : (t ≢ 0) → before p bs < 8
  pub first : (t ≢ 0) → count_trailing_zeros 64 t / 8 ≡ before p bs

-- ---- A word of bytes

-- A byte below others is the first.
pub bytes_cons : (n b w : ℕ) → b < 256 → bytes_of (suc n) (b + 256 * w) ≡ b ∷ bytes_of n w
unfolding bytes_of
bytes_cons n b w h =
    let r : (b + 256 * w) % 256 ≡ b = add-mul-mod_self_left b 256 w ∙ mod-eq_of_lt h in
    let q : (b + 256 * w) / 256 ≡ w = add-mul-div_left b w (lit< tt) ∙ rw (div-eq_of_lt h) (zero-add w) in
    rw (r, q)

pub bytes_length : (n w : ℕ) → length (bytes_of n w) ≡ n
unfolding bytes_of
bytes_length zero w = refl
bytes_length (suc n) w = ap suc (bytes_length n (w / 256))

-- Two words beside one another, the first below, have the bytes of both.
pub bytes_append : (n m low high : ℕ) → low < 256 ^ n → bytes_of (n + m) (low + 256 ^ n * high) ≡ bytes_of n low ++ bytes_of m high
unfolding bytes_of
bytes_append zero m low high h =
    let z : low + 256 ^ 0 * high ≡ high = omega arith in
    let w : 0 + m ≡ m = omega arith in
    rw (z, w)
bytes_append (suc n) m low high h =
    let s : low % 256 + 256 * (low / 256) ≡ low = mod-add-div low 256 in
    let l : low / 256 < 256 ^ n = (div-lt_iff_lt-mul (lit< tt)).1 (rw (pow-suc) at h) in
    let e : low + 256 ^ suc n * high ≡ low % 256 + 256 * (low / 256 + 256 ^ n * high) = rw pow-suc (omega arith) in
    rw (e, suc-add) (bytes_cons (n + m) (low % 256) (low / 256 + 256 ^ n * high) (mod-lt low (lit< tt)) ∙ ap (λ (l : List ℕ). low % 256 ∷ l) (bytes_append n m (low / 256) high l))

-- ---- The lowest bit says where

trailing_shift : (j k t : ℕ) → count_trailing_zeros (j + k) (t * 2 ^ j) ≡ j + count_trailing_zeros k t
unfolding count_trailing_zeros
trailing_shift zero k t = simp (zero-add, mul-one)
trailing_shift (suc j) k t = rw (suc-add, shifted_even, shifted_half, suc-add) (ap suc (trailing_shift j k t))

trailing_top : (k u : ℕ) → count_trailing_zeros (8 + k) (u * 256 + 128) ≡ 7
unfolding count_trailing_zeros
trailing_top k u =
    let e : u * 256 + 128 ≡ (u * 2 + 1) * 2 ^ 7 = omega arith in
    let w : 8 + k ≡ 7 + suc k = omega arith in
    rw (e, w) (trailing_shift 7 (suc k) (u * 2 + 1) ∙ rw (mul-add-mod_self_right u 2 1))

trailing_next : (k u : ℕ) → count_trailing_zeros (8 + k) (u * 256 + 0) ≡ 8 + count_trailing_zeros k u
trailing_next k u = rw add-zero (trailing_shift 8 k u)

-- of n bytes, the count of bits
unfoldable bits : ℕ → ℕ
bits zero = 0
bits (suc n) = 8 + bits n

-- in the eighth that m counts: 8 m and at most 7 more
abbrev Eighth : ℕ → ℕ → Type 0
Eighth m t = (8 * m ≤ t) × (t ≤ 8 * m + 7)

eighth : (m t : ℕ) → Eighth m t → t / 8 ≡ m
eighth m t (h, k) =
    let l : t / 8 < m + 1 = (div-lt_iff_lt-mul (lit< tt)).1 (omega arith) in
    let g : m ≤ t / 8 = (le-div_iff_mul-le (lit< tt)).1 (omega arith) in
    omega arith

first_step : (w : Bool) (k u m : ℕ) → (w ≡ false → Eighth m (count_trailing_zeros k u)) → Eighth (cond w 0 (suc m)) (count_trailing_zeros (8 + k) (u * 256 + cond w 128 0))
first_step true k u m h = (omega arith, omega (arith, trailing_top k u))
first_step false k u m h = let i = h refl in (omega (arith, trailing_next k u), omega (arith, trailing_next k u))

first_mark : (p : ℕ → Bool) (bs : List ℕ) (t : ℕ) → Marks p bs t → Eighth (before p bs) (count_trailing_zeros (bits (length bs)) t)
unfolding before count_trailing_zeros bits
first_mark p [] t h = (omega arith, omega arith)
first_mark p (b ∷ bs) t (u, e, h) = rw e (first_step (p b) (bits (length bs)) u (before p bs) (λ w. first_mark p bs u (h w)))

some_step : (w : Bool) (u m n t : ℕ) → t ≡ u * 256 + cond w 128 0 → (w ≡ false → (u ≢ 0) → m < n) → (t ≢ 0) → cond w 0 (suc m) < suc n
some_step true u m n t e h k = omega arith
some_step false u m n t e h k = let i : m < n = h refl (λ z. k (omega arith)) in omega arith

some_mark : (p : ℕ → Bool) (bs : List ℕ) (t : ℕ) → Marks p bs t → (t ≢ 0) → before p bs < length bs
unfolding before
some_mark p [] t h k = absurd (k h)
some_mark p (b ∷ bs) t (u, e, h) k = some_step (p b) u (before p bs) (length bs) t e (λ w n. some_mark p bs u (h w) n) k

none_step : (w : Bool) (u m n t : ℕ) → t ≡ u * 256 + cond w 128 0 → (w ≡ false → u ≡ 0 → m ≡ n) → t ≡ 0 → cond w 0 (suc m) ≡ suc n
none_step true u m n t e h k = absurd (omega arith)
none_step false u m n t e h k = ap suc (h refl (omega arith))

no_mark : (p : ℕ → Bool) (bs : List ℕ) (t : ℕ) → Marks p bs t → t ≡ 0 → before p bs ≡ length bs
unfolding before
no_mark p [] t h k = refl
no_mark p (b ∷ bs) t (u, e, h) k = none_step (p b) u (before p bs) (length bs) t e (λ w n. no_mark p bs u (h w) n) k

-- The marks of eight bytes are exact.
marks_exact : (p : ℕ → Bool) (bs : List ℕ) (t : ℕ) → length bs ≡ 8 → Marks p bs t → Exact p bs t
unfolding bits
marks_exact p bs t e h = record {
  none = λ z. no_mark p bs t h z ∙ e;
  some = λ n. rw e at (some_mark p bs t h n);
  first = λ n. eighth (before p bs) (count_trailing_zeros 64 t) (rw e at (first_mark p bs t h));
}

-- ---- Marks of two bytes

or_low : (w z : Bool) (u v : ℕ) → bit_or (u * 256 + cond w 128 0) (v * 256 + cond z 128 0) ≡ bit_or u v * 256 + cond (w || z) 128 0
or_low true true u v = or_block 8 u v 128 128 (lit< tt) (lit< tt)
or_low true false u v = or_block 8 u v 128 0 (lit< tt) (lit< tt)
or_low false true u v = or_block 8 u v 0 128 (lit< tt) (lit< tt)
or_low false false u v = or_block 8 u v 0 0 (lit< tt) (lit< tt)

or_false : (w z : Bool) → w || z ≡ false → (w ≡ false) × (z ≡ false)
or_false true z e = absurd (let n : ◌≡◌ {A = ℕ} 0 1 = cc in omega arith)
or_false false z e = (refl, e)

or_marks : (p q : ℕ → Bool) (bs : List ℕ) (s t : ℕ) → Marks p bs s → Marks q bs t → Marks (λ x. p x || q x) bs (bit_or s t)
or_marks p q [] s t h k = rw (h, k)
or_marks p q (b ∷ bs) s t (u, d, h) (v, e, k) =
    (bit_or u v, rw (d, e) (or_low (p b) (q b) u v), λ n. let f = or_false (p b) (q b) n in or_marks p q bs u v (h f.0) (k f.1))

-- Those of either byte, together, are exact for both.
pub either_exact : (a b w s t : ℕ) → Marks (this a) (bytes_of 8 w) s → Marks (this b) (bytes_of 8 w) t → Exact (either a b) (bytes_of 8 w) (bit_or s t)
either_exact a b w s t h k = marks_exact (either a b) (bytes_of 8 w) (bit_or s t) (bytes_length 8 w) (or_marks (this a) (this b) (bytes_of 8 w) s t h k)

-- ---- The test of a word

-- of n bytes: all 1, all 128, all 255; and one more than the greatest word
unfoldable ones : ℕ → ℕ
ones zero = 0
ones (suc n) = ones n * 256 + 1

unfoldable tops : ℕ → ℕ
tops zero = 0
tops (suc n) = tops n * 256 + 128

unfoldable full : ℕ → ℕ
full zero = 0
full (suc n) = full n * 256 + 255

unfoldable size : ℕ → ℕ
size zero = 1
size (suc n) = size n * 256

-- a byte of the word: the test's lowest byte, and the test of the bytes above
test_cons : (y l x z f t : ℕ) → l < 256 → z < 256 → x ≤ f
    → bit_and (bit_and (y * 256 + l) (f * 256 + 255 - (x * 256 + z))) (t * 256 + 128) ≡ bit_and (bit_and y (f - x)) t * 256 + bit_and (bit_and l (255 - z)) 128
test_cons y l x z f t h k m =
    let e : f * 256 + 255 - (x * 256 + z) ≡ (f - x) * 256 + (255 - z) = omega arith in
    let n : 255 - z < 2 ^ 8 = omega arith in
    let o : bit_and l (255 - z) < 2 ^ 8 = omega (arith, and_le_l l (255 - z)) in
    rw (e, and_block 8 y (f - x) l (255 - z) h n) (and_block 8 (bit_and y (f - x)) t (bit_and l (255 - z)) 128 o (lit< tt))

-- it is 0 where the byte is not 0
test_low : (l z : ℕ) → l + 1 ≡ z → z < 256 → bit_and (bit_and l (255 - z)) 128 ≡ 0
test_low l z e h = and_comm (bit_and l (255 - z)) 128 ∙ and_shifted 1 7 (bit_and l (255 - z)) (omega (arith, and_le_l l (255 - z), and_le_r l (255 - z)))

xor_differs : (b c : ℕ) → (b ≢ c) → 1 ≤ bit_xor b c
xor_differs b c n = let g : (bit_xor b c ≢ 0) = λ e. n (omega (arith, xor_add_and b c, and_le_l b c, and_le_r b c)) in omega arith

xor_same : (b c : ℕ) → b ≡ c → bit_xor b c ≡ 0
xor_same b c e = rw e (xor_self c)

-- where the byte is c the lowest byte borrows and is marked; where it is not, nothing is borrowed
test_byte : (w : Bool) (b c y l x o q s : ℕ) → (b == c) ≡ w → bit_xor b c < 256 → l < 256 → y * 256 + l + (o * 256 + 1) ≡ x * 256 + bit_xor b c + q * (s * 256)
    → (bit_and (bit_and l (255 - bit_xor b c)) 128 ≡ cond w 128 0) × (w ≡ false → y + o ≡ x + q * s)
test_byte true b c y l x o q s e k h d =
    let z : bit_xor b c ≡ 0 = xor_same b c (eqb-true b c e) in
    let m : l ≡ 255 = omega arith in
    (rw (z, m), λ f. absurd (let n : ◌≡◌ {A = ℕ} 0 1 = cc in omega arith))
test_byte false b c y l x o q s e k h d =
    let z : 1 ≤ bit_xor b c = xor_differs b c (eqb-false b c e) in
    (test_low l (bit_xor b c) (omega arith) k, λ f. omega arith)

above_full : (n w : ℕ) → w ≤ full (suc n) → w / 256 ≤ full n
unfolding full
above_full n w h = omega (arith, div-add-mod' w 256)

module _ (c : ℕ) (small : c < 256) where
  -- the word w of n bytes, 0 in those that are c
  abbrev differing : ℕ → ℕ → ℕ
  differing n w = bit_xor w (c * ones n)

  differing_cons : (n u b : ℕ) → b < 256 → differing (suc n) (u * 256 + b) ≡ differing n u * 256 + bit_xor b c
  unfolding ones
  differing_cons n u b h =
      let e : c * (ones n * 256 + 1) ≡ c * ones n * 256 + c = omega arith in
      rw e (xor_block 8 u (c * ones n) b c h small)

  differing_full : (n w : ℕ) → w ≤ full n → differing n w ≤ full n
  unfolding ones full
  differing_full zero w h = let z : w ≡ 0 = omega arith in rw z (omega arith)
  differing_full (suc n) w h =
      let s : w / 256 * 256 + w % 256 ≡ w = div-add-mod' w 256 in
      let l : w % 256 < 256 = mod-lt w (lit< tt) in
      let i : differing n (w / 256) ≤ full n = differing_full n (w / 256) (above_full n w h) in
      let d : differing (suc n) w ≡ differing n (w / 256) * 256 + bit_xor (w % 256) c = rw s at (differing_cons n (w / 256) (w % 256) l) in
      omega (arith, d, xor_lt 8 (w % 256) c l small)

  test_next : (n u b y l q : ℕ) → b < 256 → u ≤ full n → l < 256 → y * 256 + l + ones (suc n) ≡ differing (suc n) (u * 256 + b) + q * size (suc n)
      → (bit_and (bit_and (y * 256 + l) (full (suc n) - differing (suc n) (u * 256 + b))) (tops (suc n)) ≡ bit_and (bit_and y (full n - differing n u)) (tops n) * 256 + cond (b == c) 128 0)
      × ((b == c) ≡ false → y + ones n ≡ differing n u + q * size n)
  unfolding ones size full tops
  test_next n u b y l q k h m e =
      let d : differing (suc n) (u * 256 + b) ≡ differing n u * 256 + bit_xor b c = differing_cons n u b k in
      let z : bit_xor b c < 256 = xor_lt 8 b c k small in
      let t = test_byte (b == c) b c y l (differing n u) (ones n) q (size n) refl z m (rw d at e) in
      (rw d (test_cons y l (differing n u) (bit_xor b c) (full n) (tops n) m z (differing_full n u h) ∙ rw t.0), t.1)

  test_marks : (n w : ℕ) → w ≤ full n → (y q : ℕ) → y + ones n ≡ differing n w + q * size n
      → Marks (this c) (bytes_of n w) (bit_and (bit_and y (full n - differing n w)) (tops n))
  unfolding tops bytes_of
  test_marks zero w h y q e = and_zero_r (bit_and y (full zero - differing zero w))
  test_marks (suc n) w h y q e =
      let s : y / 256 * 256 + y % 256 ≡ y = div-add-mod' y 256 in
      let r : w / 256 * 256 + w % 256 ≡ w = div-add-mod' w 256 in
      let t = test_next n (w / 256) (w % 256) (y / 256) (y % 256) q (mod-lt w (lit< tt)) (above_full n w h) (mod-lt y (lit< tt)) (rw (s, r) e) in
      (bit_and (bit_and (y / 256) (full n - differing n (w / 256))) (tops n), rw (s, r) at t.0, λ k. test_marks n (w / 256) (above_full n w h) (y / 256) q (t.1 k))

-- What the subtract, the complement and the mask make of a word are the marks of its bytes.
pub word_marks : (w c v y : ℕ) → w < 2 ^ 64 → c < 256 → v ≡ c → (y + 0x0101_0101_0101_0101) % 2 ^ 64 ≡ bit_xor w (v * 0x0101_0101_0101_0101)
    → Marks (this c) (bytes_of 8 w) (bit_and (bit_and y (2 ^ 64 - 1 - bit_xor w (v * 0x0101_0101_0101_0101))) 0x8080_8080_8080_8080)
unfolding ones size full tops
word_marks w c v y h small a r =
    let m = y + 0x0101_0101_0101_0101 in
    let d : m ≡ bit_xor w (c * 0x0101_0101_0101_0101) + m / 2 ^ 64 * 2 ^ 64 = omega (arith, div-add-mod' m (2 ^ 64), rw a at r) in
    rw a (test_marks c small 8 w (omega arith) y (m / 2 ^ 64) d)

-- What `wrapping_sub` makes of x, with k added again, is x.
pub wrapped : (x k : ℕ) → x < 2 ^ 64 → k ≤ 2 ^ 64 → ((x + (2 ^ 64 - k)) % 2 ^ 64 + k) % 2 ^ 64 ≡ x
wrapped x k h l = omega arith
