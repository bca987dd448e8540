-- Held ticks raised by a job's chunks, one by one.
use Rattle.std.specs.Prelude.{◌≡◌, refl, List, [], ◌∷◌, ◌++◌, ℕ, zero, suc, ◌+◌, ◌*◌, ◌-◌, ◌≤◌, length, get_or, set}
use Rattle.std.proofs.Common.{ap, sym, ◌∙◌, arith, length-set}
use Rattle.limits.specs.Model.{most_held}
use Rattle.limits.specs.declared.FarmCosts.{FarmCosts}
use Rattle.walk.specs.declared.Job.{Job}
use Rattle.walk.specs.declared.Chunk.{Chunk}
use Rattle.walk.specs.declared.ChunkTerms.{ChunkTerms}
use Rattle.walk.specs.Model.{greatest, chunk_on, chunks_from, lines_of, latest}
use Rattle.walk.specs.Returning.{back_last}
use Rattle.walk.specs.Chunks.{Sendable, chunks_next, finish_next}
use Rattle.timetable.specs.Model.{holds, raised}
use Rattle.timetable.specs.LinesSteps.{job_lines}

-- a cell with more in it
abbrev pub add_to : List ℕ → ℕ → ℕ → List ℕ
add_to hs k a = set hs k (get_or hs k 0 + a)

pub raised_append : (hs : List ℕ) (xs ys : List Chunk) → raised hs (xs ++ ys) ≡ raised (raised hs xs) ys
unfolding raised
raised_append hs [] ys = refl
raised_append hs (x ∷ xs) ys = raised_append (add_to hs (x.show - 1) (holds x)) xs ys

pub raised_length : (hs : List ℕ) (xs : List Chunk) → length (raised hs xs) ≡ length hs
unfolding raised
raised_length hs [] = refl
raised_length hs (x ∷ xs) = raised_length (add_to hs (x.show - 1) (holds x)) xs ∙ length-set hs _ _

-- A cell grows by at most what is added.
add_most : (hs : List ℕ) (p k a : ℕ) → get_or (add_to hs p a) k 0 ≤ get_or hs k 0 + a
add_most [] p k a = omega arith
add_most (x ∷ hs) zero zero a = omega arith
add_most (x ∷ hs) zero (suc k) a = omega arith
add_most (x ∷ hs) (suc p) zero a = omega arith
add_most (x ∷ hs) (suc p) (suc k) a = add_most hs p k a

-- Chunks add at most the greatest tick each.
raise_most : (hs : List ℕ) (t k : ℕ) (xs : List Chunk) → latest t xs ≤ greatest
    → get_or (raised hs xs) k 0 ≤ get_or hs k 0 + length xs * greatest
unfolding raised latest
raise_most hs t k [] e = omega arith
raise_most hs t k (x ∷ xs) e =
    let now = add_to hs (x.show - 1) (holds x) in
    let rest : get_or (raised now xs) k 0 ≤ get_or now k 0 + length xs * greatest = raise_most now t k xs (omega arith) in
    let one : get_or now k 0 ≤ get_or hs k 0 + holds x = add_most hs (x.show - 1) k (holds x) in
    omega arith

pub job_most : (c : FarmCosts) (hs : List ℕ) (j : Job) (k : ℕ) → Sendable c j → get_or (raised hs (lines_of c j)) k 0 ≤ get_or hs k 0 + most_held
job_most c hs j k x = omega (arith, x.few, job_lines c j x, raise_most hs j.booking.start k (lines_of c j) x.ends)

-- where the loop over a job's chunks stands, the send before the ones left having ended at t: they raise the cells to what
-- all of them make of the first ones, and what has been added to the show's cell, at place p, is bounded
pub record Raising (w : ChunkTerms) (p : ℕ) (first : List ℕ) (all : List Chunk) (cells : List ℕ) (t : ℕ) (ks xs : List ℕ) : Type 0 where
  pub same : raised first all ≡ raised cells (chunks_from w t ks xs)
  pub ends : latest t (chunks_from w t ks xs) ≤ greatest
  pub most : get_or cells p 0 + length ks * greatest ≤ get_or first p 0 + most_held

-- The next chunk raises its show's cell.
pub raising_next : (w : ChunkTerms) (p : ℕ) → p ≡ w.show - 1 → (first : List ℕ) (all : List Chunk) (cells : List ℕ) (t : ℕ) (x : Chunk) (k a : ℕ) (ks xs ks' xs' : List ℕ) → x ≡ chunk_on w t k a → (ks ≡ k ∷ ks') × (xs ≡ a ∷ xs')
    → Raising w p first all cells t ks xs → (x.finish ≤ greatest) × (x.computed ≤ x.finish) × Raising w p first all (add_to cells p (holds x)) x.sent ks' xs'
unfolding raised
raising_next w p e first all cells t x k a ks xs ks' xs' is steps r =
    let late = finish_next w t x k a ks xs ks' xs' is steps in
    let one : x.finish ≤ greatest = omega (arith, late, r.ends) in
    let last : x.computed ≤ x.finish = rw is (omega (arith, back_last w.costs w.compute t a)) in
    let show : x.show - 1 ≡ p = ap (λ (y : Chunk). y.show - 1) is ∙ sym e in (
      one,
      last,
      record {
        same = r.same ∙ ap (raised cells) (chunks_next w t x k a ks xs ks' xs' is steps) ∙ ap (λ (q : ℕ). raised (add_to cells q (holds x)) (chunks_from w x.sent ks' xs')) show;
        ends = omega (arith, late, r.ends);
        most = omega (arith, add_most cells p p (holds x), r.most, ap length steps.0);
      },
    )
