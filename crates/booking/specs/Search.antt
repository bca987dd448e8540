-- What the search finds: the first count of nodes, in the order of their free times, that suffices.
use Rattle.std.specs.Prelude.{◌≡◌, refl, List, [], ◌∷◌, Bool, true, false, cond, ◌⊎◌, ℕ, zero, suc, ◌+◌, ◌-◌, ◌≤◌, ◌<◌, leb, length, get_or}
use Rattle.std.proofs.Common.{ap, subst, ◌∙◌, inl, inr, arith, add-zero, zero-add, leb-true, leb-false}
use Rattle.shares.specs.Model.{capacity}
use Rattle.keys.specs.declared.Key.{Key}
use Rattle.keys.specs.Model.{no_key}
use Rattle.booking.specs.declared.Request.{Request}
use Rattle.booking.specs.declared.Found.{Found}
use Rattle.booking.specs.Model.{start_at, search}

-- the key at a place of a list
abbrev pub key_at : List Key → ℕ → Key
key_at ks i = get_or ks i no_key

-- at the start when i + 1 nodes are free, that many hold the size by the deadline
abbrev pub Enough : Request → ℕ → Key → Type 0
Enough q i x = q.size ≤ capacity q.costs (suc i) (q.deadline - start_at q x)

-- k + 1 is the first count of nodes that suffices
pub record IsFirst (q : Request) (ks : List Key) (k : ℕ) (f : Found) : Type 0 where
  pub count : f.count ≡ suc k
  pub start : f.start ≡ start_at q (key_at ks k)
  pub within : k < length ks
  pub enough : Enough q k (key_at ks k)
  pub before : (i : ℕ) → i < k → Enough q i (key_at ks i) → ⊥

-- no count suffices
pub record IsNone (q : Request) (ks : List Key) (f : Found) : Type 0 where
  pub none : f ≡ record { count = 0; start = 0 }
  pub short : (i : ℕ) → i < length ks → Enough q i (key_at ks i) → ⊥

-- the same, j nodes having been passed
Told : Request → ℕ → List Key → Found → Type 0
Told q j ks f =
    ((f ≡ record { count = 0; start = 0 }) × ((i : ℕ) → i < length ks → Enough q (j + i) (key_at ks i) → ⊥))
    ⊎ ((k : ℕ) × (f ≡ record { count = suc (j + k); start = start_at q (key_at ks k) }) × (k < length ks) × Enough q (j + k) (key_at ks k) × ((i : ℕ) → i < k → Enough q (j + i) (key_at ks i) → ⊥))

shift : (j i : ℕ) → j + suc i ≡ suc j + i
shift j i = omega arith

-- none of the first k + 1 suffices
short_more : (q : Request) (j k : ℕ) (x : Key) (xs : List Key) → (Enough q j x → ⊥) → ((i : ℕ) → i < k → Enough q (suc j + i) (key_at xs i) → ⊥)
    → (i : ℕ) → i < suc k → Enough q (j + i) (key_at (x ∷ xs) i) → ⊥
short_more q j k x xs n f zero h e = n (subst (λ (m : ℕ). Enough q m x) (add-zero j) e)
short_more q j k x xs n f (suc i) h e = f i (omega arith) (subst (λ (m : ℕ). Enough q m (key_at xs i)) (shift j i) e)

told : (q : Request) (j : ℕ) (ks : List Key) → Told q j ks (search q j ks)
unfolding search Told
told q j [] = inl (refl, λ i h. absurd (omega arith))
told q j (x ∷ xs) = go (leb q.size (capacity q.costs (suc j) (q.deadline - start_at q x))) refl (told q (suc j) xs)
  where
    go : (b : Bool) → leb q.size (capacity q.costs (suc j) (q.deadline - start_at q x)) ≡ b → Told q (suc j) xs (search q (suc j) xs)
        → Told q j (x ∷ xs) (cond b (record { count = suc j; start = start_at q x }) (search q (suc j) xs))
    go true e t = inr (0, rw add-zero, omega arith, rw (add-zero j) (leb-true _ _ e), λ i h. absurd (omega arith))
    go false e (inl t) = inl (t.0, short_more q j (length xs) x xs (λ h. omega (arith, leb-false q.size (capacity q.costs (suc j) (q.deadline - start_at q x)) e)) t.1)
    go false e (inr t) =
        inr (
          suc t.0,
          rw (shift j t.0) t.1,
          omega (arith, t.2),
          rw (shift j t.0) t.3,
          short_more q j t.0 x xs (λ h. omega (arith, leb-false q.size (capacity q.costs (suc j) (q.deadline - start_at q x)) e)) t.4,
        )

-- The search finds the first count of nodes that suffices, or none does.
pub search_is : (q : Request) (ks : List Key) → IsNone q ks (search q 0 ks) ⊎ ((k : ℕ) × IsFirst q ks k (search q 0 ks))
unfolding Told
search_is q ks = go (search q 0 ks) (told q 0 ks)
  where
    go : (f : Found) → Told q 0 ks f → IsNone q ks f ⊎ ((k : ℕ) × IsFirst q ks k f)
    go f (inl t) = inl (record { none = t.0; short = λ i h e. t.1 i h (rw (zero-add i) e) })
    go f (inr t) =
        inr (
          t.0,
          record {
            count = ap (λ (x : Found). x.count) t.1 ∙ ap suc (zero-add t.0);
            start = ap (λ (x : Found). x.start) t.1;
            within = t.2;
            enough = rw zero-add at t.3;
            before = λ i h e. t.4 i h (rw (zero-add i) e);
          },
        )
