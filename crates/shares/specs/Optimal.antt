-- The greedy list holds the capacity, and no other shares hold more: shown against all share lists.
use Rattle.std.specs.Prelude.{◌≡◌, ℕ, zero, suc, ◌+◌, ◌-◌, ◌*◌, ◌≤◌, List, [], ◌∷◌, length}
use Rattle.std.proofs.Math.Path.{refl, ap, subst}
use Rattle.std.proofs.Math.Logic.{inl, inr}
use Rattle.std.proofs.Common.{add-sub_of_le}
use Rattle.std.proofs.Math.Decide.{dec_lt}
use native.Mathlib.Omega.{arith}
use Rattle.shares.specs.declared.Costs.{Costs}
use Rattle.shares.specs.Model.{send_end, finish, sum, first, left, capacity, cut, greedy}
use Rattle.shares.specs.Lists.{Positive, NoLarger}
use Rattle.shares.specs.Capacity.{first_most, first_fits, slack, none_fits}

module _ (c : Costs) (sends : 1 ≤ c.send) where
  -- a first share of a, where f is the largest: the rest of the window lost is (f - a)·m at most
  kept : (v a f : ℕ) → a ≤ f → v - (c.linksetup + a * c.send) ≤ v - (c.linksetup + f * c.send) + (f - a) * c.send
  kept v a f h = go (f - a) (add-sub_of_le h)
    where
      go : (e : ℕ) → a + e ≡ f → v - (c.linksetup + a * c.send) ≤ v - (c.linksetup + f * c.send) + e * c.send
      go e q = rw (← q) (omega arith)

  -- **No other shares hold more**: a list of at most n shares whose sends begin at t and that ends by w adds up to at most the capacity of n nodes from t to w.
  pub optimal : (n t w : ℕ) (xs : List ℕ) → length xs ≤ n → finish c t xs ≤ w → sum xs ≤ capacity c n (w - t)
  unfolding finish sum capacity left
  optimal n t w [] l e = omega arith
  optimal zero t w (a ∷ xs) l e = absurd (omega arith)
  optimal (suc n) t w (a ∷ xs) l e =
      let most : a ≤ first c (w - t) = first_most c sends (w - t) a (omega arith) in
      let rest : sum xs ≤ capacity c n (w - send_end c t a) = optimal n (send_end c t a) w xs (omega arith) (omega arith) in
      let f = first c (w - t) in
      let gap : w - send_end c t a ≤ w - t - (c.linksetup + f * c.send) + (f - a) * c.send = omega (arith, kept (w - t) a f most) in
      omega (arith, slack c sends n _ _ (f - a) gap)

  -- The greedy list ends within the window.
  pub greedy_ends : (n t w : ℕ) → finish c t (greedy c n w) ≤ t + w
  unfolding greedy finish cut left
  greedy_ends zero t w = omega arith
  greedy_ends (suc n) t w = go (first c w) refl (greedy_ends n)
    where
      go : (a : ℕ) → first c w ≡ a → ((t w : ℕ) → finish c t (greedy c n w) ≤ t + w)
          → finish c t (cut a (greedy c n (left c w a))) ≤ t + w
      go zero e ih = omega arith
      go (suc a) e ih =
          let fits : c.linksetup + c.nodesetup + suc a * (c.send + c.compute) ≤ w = rw e at (first_fits c sends w (omega arith)) in
          omega (arith, ih (send_end c t (suc a)) (left c w (suc a)))

  -- The greedy list adds up to the capacity.
  pub greedy_sum : (n w : ℕ) → sum (greedy c n w) ≡ capacity c n w
  unfolding greedy sum capacity cut left
  greedy_sum zero w = refl
  greedy_sum (suc n) w = go (first c w) refl (greedy_sum n)
    where
      go : (a : ℕ) → first c w ≡ a → ((w : ℕ) → sum (greedy c n w) ≡ capacity c n w)
          → sum (cut a (greedy c n (left c w a))) ≡ a + capacity c n (left c w a)
      go zero e ih = omega (arith, none_fits c sends n w (left c w 0) e (omega arith))
      go (suc a) e ih = ap (λ (x : ℕ). suc a + x) (ih (left c w (suc a)))

  -- Each share that the greedy list has left to offer is the largest that ends in time: any other list of at most n shares, each at least 1,
  -- that ends within the window has a smaller share at the first place where the two differ.
  pub greedy_largest : (n t w : ℕ) (xs : List ℕ) → length xs ≤ n → Positive xs → finish c t xs ≤ t + w → NoLarger xs (greedy c n w)
  unfolding greedy finish cut left
  greedy_largest n t w [] l p e = tt
  greedy_largest zero t w (a ∷ xs) l p e = absurd (omega arith)
  greedy_largest (suc n) t w (a ∷ xs) l p e = go (first c w) (first_most c sends w a (omega arith)) (greedy_largest n (send_end c t a) (left c w a) xs (omega arith) p.1)
    where
      go : (f : ℕ) → a ≤ f → (finish c (send_end c t a) xs ≤ send_end c t a + left c w a → NoLarger xs (greedy c n (left c w a)))
          → NoLarger (a ∷ xs) (cut f (greedy c n (left c w f)))
      go zero h ih = absurd (omega (arith, p.0))
      go (suc f) h ih = elim (dec_lt a (suc f)) [ yes k ↦ inl k | no k ↦ inr (same (omega arith)) ]
        where
          same : a ≡ suc f → (a ≡ suc f) × NoLarger xs (greedy c n (left c w (suc f)))
          same q = (q, subst (λ (x : ℕ). NoLarger xs (greedy c n (left c w x))) q (ih (omega arith)))

cut_length : (a n : ℕ) (xs : List ℕ) → length xs ≤ n → length (cut a xs) ≤ suc n
unfolding cut
cut_length zero n xs h = omega arith
cut_length (suc a) n xs h = omega arith

cut_positive : (a : ℕ) (xs : List ℕ) → Positive xs → Positive (cut a xs)
unfolding cut
cut_positive zero xs h = tt
cut_positive (suc a) xs h = (omega arith, h)

-- The greedy list has at most n shares.
pub greedy_length : (c : Costs) (n w : ℕ) → length (greedy c n w) ≤ n
unfolding greedy
greedy_length c zero w = omega arith
greedy_length c (suc n) w = cut_length (first c w) n _ (greedy_length c n (left c w (first c w)))

-- Each of its shares is at least 1.
pub greedy_positive : (c : Costs) (n w : ℕ) → Positive (greedy c n w)
unfolding greedy
greedy_positive c zero w = tt
greedy_positive c (suc n) w = cut_positive (first c w) _ (greedy_positive c n (left c w (first c w)))
