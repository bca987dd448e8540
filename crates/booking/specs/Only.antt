-- The booking that is the best of all choices is the only one.
use Rattle.std.specs.Prelude.{◌≡◌, refl, ◌⊎◌, ℕ, length}
use Rattle.std.proofs.Common.{ap, ap₂, sym, subst, ◌∙◌, inl, inr, ⊎_elim, le_antisymm, arith}
use mathlib.Core.List.Memᴰ
use mathlib.Core.List.{List, [], ◌∷◌, Memᴰ}
use Rattle.std.proofs.Math.Decide.{dec_lt}
use Rattle.lists.specs.Laws.{All, Pairs, all_both, all_mem}
use Rattle.shares.specs.Model.{finish}
use Rattle.shares.specs.Lists.{no_larger_both}
use Rattle.booking.specs.declared.Request.{Request}
use Rattle.booking.specs.declared.Booking.{Booking}
use Rattle.booking.specs.Model.{booking_of}
use Rattle.booking.specs.Best.{Known, Before, BestChoice, chosen, units, Best}

-- ---- Nodes in order, of which none that is left out stands before one that is taken

either : (a b : ℕ) → (a ≡ b) ⊎ (a ≡ b → ⊥)
either a b =
    elim (dec_lt a b) [
      | yes h ↦ inr (λ e. omega arith)
      | no h ↦ elim (dec_lt b a) [ yes k ↦ inr (λ e. omega arith) | no k ↦ inl (omega arith) ]
    ]

member : (k : ℕ) (xs : List ℕ) → Memᴰ k xs ⊎ (Memᴰ k xs → ⊥)
member k [] = inr (λ m. Memᴰ.not-nil m)
member k (x ∷ xs) =
    ⊎_elim (λ e. inl (Memᴰ.head e))
    (λ n. ⊎_elim (λ m. inl (Memᴰ.tail m)) (λ o. inr (λ p. ⊎_elim n o (Memᴰ.cases_cons p))) (member k xs))
    (either k x)

module _ (free : List ℕ) where
  -- Of two nodes not each stands before the other.
  not_both : (a b : ℕ) → Before free a b → Before free b a → ⊥
  not_both a b (inl h) (inl k) = omega arith
  not_both a b (inl h) (inr k) = omega (arith, k.0)
  not_both a b (inr h) (inl k) = omega (arith, h.0)
  not_both a b (inr h) (inr k) = omega (arith, h.1, k.1)

  -- The head of a list stands before every other node that could be in it.
  leads : (P : ℕ → Type 0) (k : ℕ) (ks : List ℕ) (l : ℕ) → All (Before free k) ks → P l
      → ((m : ℕ) → P m → (Memᴰ m (k ∷ ks) → ⊥) → All (λ (i : ℕ). Before free i m) (k ∷ ks))
      → (l ≡ k → ⊥) → Before free k l
  leads P k ks l order p first d =
      ⊎_elim (λ m. all_mem m order (λ y e b. subst (Before free k) (sym e) b))
      (λ n. (first l p (λ m. ⊎_elim d n (Memᴰ.cases_cons m))).0)
      (member l ks)

  -- Two such lists of as many nodes are the same.
  same_nodes : (P : ℕ → Type 0) (ks ls : List ℕ) → length ks ≡ length ls → Pairs (Before free) ks → Pairs (Before free) ls → All P ks → All P ls
      → ((m : ℕ) → P m → (Memᴰ m ks → ⊥) → All (λ (i : ℕ). Before free i m) ks)
      → ((m : ℕ) → P m → (Memᴰ m ls → ⊥) → All (λ (i : ℕ). Before free i m) ls)
      → ks ≡ ls
  same_nodes P [] [] n o u p r f g = refl
  same_nodes P [] (l ∷ ls) n o u p r f g = absurd (omega arith)
  same_nodes P (k ∷ ks) [] n o u p r f g = absurd (omega arith)
  same_nodes P (k ∷ ks) (l ∷ ls) n o u p r f g = ap₂ ◌∷◌ heads (same_nodes Q ks ls (omega arith) o.1 u.1 kept kept' rest rest')
    where
      heads : k ≡ l
      heads =
          ⊎_elim (λ e. e)
          (λ d. absurd (not_both k l (leads P k ks l o.0 r.0 f (λ e. d (sym e))) (leads P l ls k u.0 p.0 g d)))
          (either k l)

      Q : ℕ → Type 0
      Q m = P m × (m ≡ k → ⊥)

      other : (m : ℕ) → Before free k m → m ≡ k → ⊥
      other m b e = not_both k m b (subst (λ (x : ℕ). Before free x k) (sym e) (subst (Before free k) e b))

      kept : All Q ks
      kept = all_both (λ m b h. (h, other m b)) ks o.0 p.1

      kept' : All Q ls
      kept' = all_both (λ m b h. (h, other m (subst (λ (x : ℕ). Before free x m) (sym heads) b))) ls u.0 r.1

      rest : (m : ℕ) → Q m → (Memᴰ m ks → ⊥) → All (λ (i : ℕ). Before free i m) ks
      rest m q out = (f m q.0 (λ h. ⊎_elim q.1 out (Memᴰ.cases_cons h))).1

      rest' : (m : ℕ) → Q m → (Memᴰ m ls → ⊥) → All (λ (i : ℕ). Before free i m) ls
      rest' m q out = (g m q.0 (λ h. ⊎_elim (λ e. q.1 (e ∙ sym heads)) out (Memᴰ.cases_cons h))).1

-- ---- The best of all choices

-- Two best choices are the same.
pub only_choice : (q : Request) (free : List ℕ) (s t : ℕ) (ks xs ls ys : List ℕ) → BestChoice q free s ks xs → BestChoice q free t ls ys
    → (s ≡ t) × (ks ≡ ls) × (xs ≡ ys)
only_choice q free s t ks xs ls ys b d = (start, nodes, shares)
  where
    start : s ≡ t
    start = le_antisymm (b.earliest t ls ys d.choice) (d.earliest s ks xs b.choice)

    d' : BestChoice q free s ls ys
    d' = subst (λ (u : ℕ). BestChoice q free u ls ys) (sym start) d

    long : length xs ≡ length ys
    long = le_antisymm (b.fewest t ls ys d.choice) (d.fewest s ks xs b.choice)

    ends : finish q.costs s xs ≡ finish q.costs s ys
    ends = le_antisymm (b.soonest ls ys d'.choice (sym long)) (d'.soonest ks xs b.choice long)

    shares : xs ≡ ys
    shares = no_larger_both xs ys (d'.largest ks xs b.choice long ends) (b.largest ls ys d'.choice (sym long) (sym ends))

    nodes : ks ≡ ls
    nodes = same_nodes free (Known q) ks ls (b.choice.paired ∙ long ∙ sym d.choice.paired) b.order d.order b.choice.known d.choice.known b.first d.first

-- **The booking is the only one with these properties.**
pub only : (q : Request) (free : List ℕ) (b d : Booking) → Best q free b → Best q free d → b ≡ d
only q free b d p r =
    let e = only_choice q free b.start d.start (chosen b) (units b) (chosen d) (units d) p.best r.best in
    p.blank ∙ ap (λ (s : ℕ). booking_of s (chosen b) (units b)) e.0 ∙ ap₂ (booking_of d.start) e.1 e.2 ∙ sym r.blank
