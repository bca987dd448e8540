-- An array that is written anew from its front, while what stands behind it is still the old.
use Rattle.std.specs.Prelude.{◌≡◌, List, [], ◌∷◌, ◌++◌, ℕ, ◌+◌, ◌-◌, ◌≤◌, ◌<◌, length, get_or, take, drop, set}
use Rattle.std.proofs.Common.{ap, ap₂, sym, ◌∙◌, append-nil, append_assoc, add-one, arith, length-set, take-append-drop, take-suc, take-suc-set, drop-set-lt, drop-drop, length-take-le, get_or-drop}

-- One element further, what is behind is still the old.
pub rest_more : {A : Type 0} (out old : List A) (i : ℕ) (x : A) → drop i out ≡ drop i old → drop (i + 1) (set out i x) ≡ drop (i + 1) old
rest_more out old i x d = rw (drop-set-lt (i + 1) out i x (omega arith), ← drop-drop 1 i out, ← drop-drop 1 i old, d)

-- So is each element behind.
pub behind_same : {A : Type 0} (d : A) (out old : List A) (k i : ℕ) → k ≤ i → drop k out ≡ drop k old → get_or out i d ≡ get_or old i d
behind_same {A} d out old k i h e =
    let s : k + (i - k) ≡ i = omega arith in
    ap (λ (x : ℕ). get_or out x d) (sym s) ∙ sym (get_or-drop k out (i - k) d) ∙ ap (λ (l : List A). get_or l (i - k) d) e ∙ get_or-drop k old (i - k) d ∙ ap (λ (x : ℕ). get_or old x d) s

-- of an array of n: kept elements at the front of out, the old array behind them, and what is still to come
pub record Kept {A : Type 0} (n : ℕ) (whole old out : List A) (kept : ℕ) (rest : List A) : Type 0 where
  pub size : length out ≡ n
  pub front : whole ≡ take kept out ++ rest
  pub behind : drop kept out ≡ drop kept old

-- One more is kept where it stands, or is put there.
pub kept_same : {A : Type 0} (d : A) (n : ℕ) (whole old out : List A) (k : ℕ) (rest : List A) → k < n → Kept n whole old out k (get_or out k d ∷ rest) → Kept n whole old out (k + 1) rest
kept_same {A} d n whole old out k rest h y =
    let s = y.size in
    let t : take (k + 1) out ≡ take k out ++ get_or out k d ∷ [] = rw (add-one k) (take-suc out k d (omega arith)) in
    record {
      size = s;
      front = y.front ∙ sym (ap (λ (l : List A). l ++ rest) t ∙ append_assoc (take k out) _ rest);
      behind = rw (← drop-drop 1 k out, ← drop-drop 1 k old, y.behind);
    }

pub kept_more : {A : Type 0} (n : ℕ) (whole old out : List A) (k : ℕ) (x : A) (rest : List A) → k < n → Kept n whole old out k (x ∷ rest) → Kept n whole old (set out k x) (k + 1) rest
kept_more {A} n whole old out k x rest h y =
    let s = y.size in
    let t : take (k + 1) (set out k x) ≡ take k out ++ x ∷ [] = rw (add-one k) (take-suc-set out k x (omega arith)) in
    record {
      size = length-set out k x ∙ s;
      front = y.front ∙ sym (ap (λ (l : List A). l ++ rest) t ∙ append_assoc (take k out) _ rest);
      behind = rest_more out old k x y.behind;
    }

-- At the end what is kept is the front.
pub kept_front : {A : Type 0} (n : ℕ) (whole old out : List A) (k : ℕ) → Kept n whole old out k [] → take k out ≡ whole
kept_front n whole old out k x = sym (x.front ∙ append-nil (take k out))

-- The array is what is kept with the old elements behind it.
pub kept_all_lem : {A : Type 0} (n : ℕ) (whole old out : List A) (k : ℕ) → k ≤ n → Kept n whole old out k [] → (k ≡ length whole) × (out ≡ whole ++ drop k old)
kept_all_lem n whole old out k h x =
    let s = x.size in
    let e : take k out ≡ whole = kept_front n whole old out k x in
    (sym (sym (ap length e) ∙ length-take-le k out (omega arith)), sym (take-append-drop k out) ∙ ap₂ ◌++◌ e x.behind)
