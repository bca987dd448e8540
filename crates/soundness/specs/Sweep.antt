-- Jobs whose spans share no tick come one after the other in the order of their starts, so that one sweep in that order tells.
use Rattle.std.specs.Prelude.{◌≡◌, refl, ℕ, ◌≤◌, length}
use Rattle.std.proofs.Common.{sym, subst}
use mathlib.Core.List.Permᴰ
use mathlib.Core.List.{List, [], ◌∷◌, ◌++◌, append_assoc, Permᴰ}
use Rattle.std.proofs.Math.Decide.{dec_le}
use native.Mathlib.Omega.{arith}
use Rattle.lists.specs.Laws.{All, Pairs, all_map, all_both, all_append, all_join, pairs_parts, pairs_join, pairs_both, pairs_across}
use Rattle.limits.specs.declared.FarmCosts.{FarmCosts}
use Rattle.booking.specs.Best.{free_at, chosen, units}
use Rattle.walk.specs.declared.Job.{Job}
use Rattle.walk.specs.declared.FreeTimes.{FreeTimes}
use Rattle.walk.specs.declared.Chunk.{Chunk}
use Rattle.walk.specs.declared.ChunkTerms.{ChunkTerms}
use Rattle.walk.specs.Model.{Span, chunk_terms, chunk_on, chunks_from, lines_of, spans_of, spans_of_all, Includes, Apart, placed}
use Rattle.walk.specs.Chain.{Fits, Proper, Follows}

-- ---- The spans of several jobs

-- What holds of all spans holds of each job's.
pub spans_each : (P : Span → Type 0) (c : FarmCosts) (js : List Job) → All P (spans_of_all c js) → All (λ (j : Job). All P (spans_of c j)) js
unfolding spans_of_all
spans_each P c [] h = tt
spans_each P c (j ∷ js) h = let r = all_append P (spans_of c j) (spans_of_all c js) h in (r.0, spans_each P c js r.1)

-- What holds of each job's spans holds of all.
pub spans_all : (P : Span → Type 0) (c : FarmCosts) (js : List Job) → All (λ (j : Job). All P (spans_of c j)) js → All P (spans_of_all c js)
unfolding spans_of_all
spans_all P c [] h = tt
spans_all P c (j ∷ js) h = all_join P (spans_of c j) (spans_of_all c js) h.0 (spans_all P c js h.1)

append_swap : {A : Type 0} (xs ys zs : List A) → Permᴰ (xs ++ (ys ++ zs)) (ys ++ (xs ++ zs))
append_swap xs ys zs =
    subst (λ l. Permᴰ l (ys ++ (xs ++ zs))) (append_assoc xs ys zs) (subst (Permᴰ ((xs ++ ys) ++ zs)) (append_assoc ys xs zs) (Permᴰ.append_right zs (Permᴰ.append_comm xs ys)))

-- The same jobs in another order have the same spans in another order.
pub spans_perm : (c : FarmCosts) {xs ys : List Job} → Permᴰ xs ys → Permᴰ (spans_of_all c xs) (spans_of_all c ys)
unfolding spans_of_all
spans_perm c Permᴰ.nil = Permᴰ.nil
spans_perm c (Permᴰ.cons {a = a} {b = b} {l₁ = l₁} {l₂ = l₂} e d) =
    subst (λ (x : Job). Permᴰ (spans_of c a ++ spans_of_all c l₁) (spans_of c x ++ spans_of_all c l₂)) e (Permᴰ.append_left (spans_of c a) (spans_perm c d))
spans_perm c (Permᴰ.swap {a = a} {b = b} {a' = a'} {b' = b'} {l = l} e g) =
    subst (λ (x : Job). Permᴰ (spans_of c a ++ (spans_of c b ++ spans_of_all c l)) (spans_of c x ++ (spans_of c b' ++ spans_of_all c l))) g
    (subst (λ (y : Job). Permᴰ (spans_of c a ++ (spans_of c b ++ spans_of_all c l)) (spans_of c b ++ (spans_of c y ++ spans_of_all c l))) e
    (append_swap (spans_of c a) (spans_of c b) (spans_of_all c l)))
spans_perm c (Permᴰ.trans d₁ d₂) = Permᴰ.trans (spans_perm c d₁) (spans_perm c d₂)

-- To share no tick goes both ways.
pub apart_sym : (x y : Span) → Apart x y → Apart y x
apart_sym x y a = record { node = λ e t h k. a.node (sym e) t k h; send = λ t h k. a.send t k h }

-- ---- One job's spans

-- Each of them begins there.
pub placed_from : (f : ℕ) (xs : List Chunk) → All (λ (x : Span). x.from ≡ f) (placed f xs)
placed_from f [] = tt
placed_from f (x ∷ xs) = (refl, placed_from f xs)

module _ (w : ChunkTerms) (f : ℕ) where
  -- no send begins before the first
  spans_late : (t : ℕ) (ks xs : List ℕ) → All (λ (x : Span). t ≤ x.chunk.start) (placed f (chunks_from w t ks xs))
  unfolding chunks_from
  spans_late t [] [] = tt
  spans_late t [] (a ∷ xs) = tt
  spans_late t (k ∷ ks) [] = tt
  spans_late t (k ∷ ks) (a ∷ xs) = (omega arith, all_map (λ x h. omega arith) (placed f (chunks_from w (chunk_on w t k a).sent ks xs)) (spans_late (chunk_on w t k a).sent ks xs))

  -- each send begins after the earlier ones
  spans_tile : (t : ℕ) (ks xs : List ℕ) → Pairs (λ (x y : Span). x.chunk.sent ≤ y.chunk.start) (placed f (chunks_from w t ks xs))
  unfolding chunks_from
  spans_tile t [] [] = tt
  spans_tile t [] (a ∷ xs) = tt
  spans_tile t (k ∷ ks) [] = tt
  spans_tile t (k ∷ ks) (a ∷ xs) = (spans_late (chunk_on w t k a).sent ks xs, spans_tile (chunk_on w t k a).sent ks xs)

  -- A tick not before the first send and in none of them is after them all.
  spans_clear : (z t : ℕ) (ks xs : List ℕ) → t ≤ z → All (λ (x : Span). Includes x.chunk.start x.chunk.sent z → ⊥) (placed f (chunks_from w t ks xs))
      → All (λ (x : Span). x.chunk.sent ≤ z) (placed f (chunks_from w t ks xs))
  unfolding chunks_from
  spans_clear z t [] [] h n = tt
  spans_clear z t [] (a ∷ xs) h n = tt
  spans_clear z t (k ∷ ks) [] h n = tt
  spans_clear z t (k ∷ ks) (a ∷ xs) h n =
      let out : (chunk_on w t k a).sent ≤ z = elim (dec_le (chunk_on w t k a).sent z) [ yes d ↦ d | no d ↦ absurd (n.0 (h, omega arith)) ] in
      (out, spans_clear z (chunk_on w t k a).sent ks xs out n.1)

  -- where there is a first span, its send begins at t
  pub spans_first : (b : FreeTimes) (t : ℕ) (ks xs : List ℕ) → length ks ≡ length xs → 1 ≤ length ks → All (Fits b) (placed f (chunks_from w t ks xs)) → b.link ≤ t
  unfolding chunks_from
  spans_first b t [] xs e h n = absurd (omega arith)
  spans_first b t (k ∷ ks) [] e h n = absurd (omega arith)
  spans_first b t (k ∷ ks) (a ∷ xs) e h n = n.0.0

  -- each node is free by f
  pub spans_free : (b : FreeTimes) (t : ℕ) (ks xs : List ℕ) → length ks ≡ length xs → All (Fits b) (placed f (chunks_from w t ks xs)) → All (λ (k : ℕ). free_at b.free k ≤ f) ks
  unfolding chunks_from
  spans_free b t [] xs e n = tt
  spans_free b t (k ∷ ks) [] e n = absurd (omega arith)
  spans_free b t (k ∷ ks) (a ∷ xs) e n = (n.0.1, spans_free b (chunk_on w t k a).sent ks xs (omega arith) n.1)

  pub spans_fit : (b : FreeTimes) (t : ℕ) (ks xs : List ℕ) → b.link ≤ t → All (λ (k : ℕ). free_at b.free k ≤ f) ks → All (Fits b) (placed f (chunks_from w t ks xs))
  unfolding chunks_from
  spans_fit b t [] [] h n = tt
  spans_fit b t [] (a ∷ xs) h n = tt
  spans_fit b t (k ∷ ks) [] h n = tt
  spans_fit b t (k ∷ ks) (a ∷ xs) h n = ((h, n.0), spans_fit b (chunk_on w t k a).sent ks xs (omega arith) n.1)

-- ---- From the pairs to the sweep

-- a span's node is free at the next one's start, where the two are apart and begin in this order
node_after : (x y : Span) → Proper 64 y → x.from ≤ y.from → Apart x y → x.chunk.node ≡ y.chunk.node → x.chunk.finish ≤ y.from
node_after x y p h a e =
    elim (dec_le x.chunk.finish y.from) [ yes d ↦ d | no d ↦ absurd (a.node e y.from (h, omega arith) (omega arith, omega (arith, p.begins, p.sends, p.ends))) ]

-- The spans of one job that are apart come one after the other.
job_follows : (c : FarmCosts) (j : Job) → All (Proper 64) (spans_of c j) → Pairs Apart (spans_of c j) → Pairs Follows (spans_of c j)
job_follows c j p a =
    let s = j.booking.start in
    let tile = spans_tile (chunk_terms c j) s s (chosen j.booking) (units j.booking) in
    let each : All (λ (x : Span). (x.from ≡ s) × Proper 64 x) (spans_of c j) = all_both (λ x e q. (e, q)) (spans_of c j) (placed_from s (lines_of c j)) p in
    pairs_both (λ x y h k b l. record { send = l; node = node_after x y k.1 (omega arith) b }) (spans_of c j) each a tile

-- spans of which the first, where there is one, begins its send at z
abbrev Begins : ℕ → List Span → Type 0
Begins z [] = Unit
Begins z (y ∷ ys) = y.chunk.start ≡ z

job_begins : (w : ChunkTerms) (f t : ℕ) (ks xs : List ℕ) → Begins t (placed f (chunks_from w t ks xs))
unfolding chunks_from
job_begins w f t [] [] = tt
job_begins w f t [] (a ∷ xs) = tt
job_begins w f t (k ∷ ks) [] = tt
job_begins w f t (k ∷ ks) (a ∷ xs) = refl

-- The sends of a job that starts no later than z, and whose spans are apart from some that begin with a send at z, have ended by z.
ends_before : (w : ChunkTerms) (f z t : ℕ) (ks xs : List ℕ) (ys : List Span) → t ≤ z → Begins z ys → All (λ (y : Span). z ≤ y.chunk.start) ys → All (Proper 64) ys
    → All (λ (x : Span). All (Apart x) ys) (placed f (chunks_from w t ks xs))
    → All (λ (x : Span). All (λ (y : Span). x.chunk.sent ≤ y.chunk.start) ys) (placed f (chunks_from w t ks xs))
ends_before w f z t ks xs [] h e l p a = all_map (λ x n. tt) (placed f (chunks_from w t ks xs)) a
ends_before w f z t ks xs (y ∷ ys) h e l p a =
    let clear : All (λ (x : Span). Includes x.chunk.start x.chunk.sent z → ⊥) (placed f (chunks_from w t ks xs)) =
    all_map (λ x n i. n.0.send z i (omega arith, omega (arith, p.0.sends))) (placed f (chunks_from w t ks xs)) a in
    all_map (λ x m. (omega arith, all_map (λ v n. omega arith) ys l.1)) (placed f (chunks_from w t ks xs)) (spans_clear w f z t ks xs h clear)

-- The spans of a job that starts no earlier, apart from those of the first, come after them.
later_job : (c : FarmCosts) (i j : Job) → i.booking.start ≤ j.booking.start → All (Proper 64) (spans_of c j) → All (λ (x : Span). All (Apart x) (spans_of c j)) (spans_of c i)
    → All (λ (x : Span). All (Follows x) (spans_of c j)) (spans_of c i)
later_job c i j h p a =
    let s = i.booking.start in
    let t = j.booking.start in
    let late = spans_late (chunk_terms c j) t t (chosen j.booking) (units j.booking) in
    let first = job_begins (chunk_terms c j) t t (chosen j.booking) (units j.booking) in
    let sends = ends_before (chunk_terms c i) s t s (chosen i.booking) (units i.booking) (spans_of c j) h first late p a in
    let xs : All (λ (x : Span). (x.from ≡ s) × All (Apart x) (spans_of c j)) (spans_of c i) = all_both (λ x e q. (e, q)) (spans_of c i) (placed_from s (lines_of c i)) a in
    let ys : All (λ (y : Span). (y.from ≡ t) × Proper 64 y) (spans_of c j) = all_both (λ y e q. (e, q)) (spans_of c j) (placed_from t (lines_of c j)) p in
    all_both (λ x k l. one x k.0 ys k.1 l) (spans_of c i) xs sends
  where
    one : (x : Span) → x.from ≡ i.booking.start → All (λ (y : Span). (y.from ≡ j.booking.start) × Proper 64 y) (spans_of c j) → All (Apart x) (spans_of c j)
        → All (λ (y : Span). x.chunk.sent ≤ y.chunk.start) (spans_of c j) → All (Follows x) (spans_of c j)
    one x e ys b l =
        let both : All (λ (y : Span). Apart x y × (x.chunk.sent ≤ y.chunk.start)) (spans_of c j) = all_both (λ y q r. (q, r)) (spans_of c j) b l in
        all_both (λ y k r. record { send = r.1; node = node_after x y k.1 (omega arith) r.0 }) (spans_of c j) ys both

later_jobs : (c : FarmCosts) (i : Job) (js : List Job) → All (λ (j : Job). i.booking.start ≤ j.booking.start) js → All (λ (j : Job). All (Proper 64) (spans_of c j)) js
    → All (λ (x : Span). All (Apart x) (spans_of_all c js)) (spans_of c i) → All (λ (x : Span). All (Follows x) (spans_of_all c js)) (spans_of c i)
unfolding spans_of_all
later_jobs c i [] h p a = all_map (λ x n. tt) (spans_of c i) a
later_jobs c i (j ∷ js) h p a =
    let near = later_job c i j h.0 p.0 (all_map (λ x n. (all_append (Apart x) (spans_of c j) (spans_of_all c js) n).0) (spans_of c i) a) in
    let far = later_jobs c i js h.1 p.1 (all_map (λ x n. (all_append (Apart x) (spans_of c j) (spans_of_all c js) n).1) (spans_of c i) a) in
    all_both (λ x m n. all_join (Follows x) (spans_of c j) (spans_of_all c js) m n) (spans_of c i) near far

-- The spans of jobs in order of start, where they are apart, come one after the other.
pub apart_follows : (c : FarmCosts) (js : List Job) → All (λ (j : Job). All (Proper 64) (spans_of c j)) js → Pairs (λ (a b : Job). a.booking.start ≤ b.booking.start) js
    → Pairs Apart (spans_of_all c js) → Pairs Follows (spans_of_all c js)
unfolding spans_of_all
apart_follows c [] p h a = tt
apart_follows c (j ∷ js) p h a =
    let r = pairs_parts Apart (spans_of c j) (spans_of_all c js) a in
    pairs_join Follows (spans_of c j) (spans_of_all c js) (job_follows c j p.0 r.0) (apart_follows c js p.1 h.1 r.1)
    (later_jobs c j js h.0 p.1 (pairs_across Apart (spans_of c j) (spans_of_all c js) a))
