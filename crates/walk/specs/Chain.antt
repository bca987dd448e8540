-- Spans in a row, each behind what those before it have left; and the spans of one job.
use Rattle.std.specs.Prelude.{◌≡◌, refl, List, [], ◌∷◌, ◌++◌, map, ◌↔◌, true, ◌&&◌, ℕ, ◌-◌, ◌≤◌, ◌<◌, leb, length, set}
use Rattle.std.proofs.Common.{ap, subst, ◌∙◌, mul-le-mul_right, arith, leb-true, le-leb, length-set, get_or-set_same, get_or-set_other}
use Rattle.std.proofs.Math.Decide.{ℕ_discrete}
use Rattle.lists.specs.Laws.{All, Pairs, all_map, all_both, all_image, pairs_map}
use Rattle.limits.specs.Tests.{and_both}
use Rattle.shares.specs.declared.Costs.{Costs}
use Rattle.limits.specs.declared.FarmCosts.{FarmCosts}
use Rattle.shares.specs.Model.{send_end}
use Rattle.shares.specs.Lists.{Positive}
use Rattle.booking.specs.Best.{free_at, chosen, units}
use Rattle.walk.specs.declared.Job.{Job}
use Rattle.walk.specs.declared.FreeTimes.{FreeTimes}
use Rattle.walk.specs.declared.Chunk.{Chunk}
use Rattle.walk.specs.declared.ChunkTerms.{ChunkTerms}
use Rattle.walk.specs.Model.{costs_for, Span, chunk_terms, chunk_on, chunks_from, lines_of, latest, finish_of, placed, spans_of, Between, Apart, after, afters, fit_all}

-- ---- Spans in a row

-- a span behind what the free times b leave: its send not before the link's, its start not before its node's
abbrev pub Fits : FreeTimes → Span → Type 0
Fits b x = (b.link ≤ x.chunk.start) × (free_at b.free x.chunk.node ≤ x.from)

-- each span behind what those before it have left
abbrev pub Chain : FreeTimes → List Span → Type 0
Chain b [] = Unit
Chain b (x ∷ xs) = Fits b x × Chain (after b x.chunk) xs

-- The test of the spans one after the other tells that they are a chain.
pub fit_all_chain : (b : FreeTimes) (xs : List Span) → (fit_all b xs ≡ true) ↔ Chain b xs
unfolding fit_all
fit_all_chain b [] = (λ e. tt, λ h. refl)
fit_all_chain b (x ∷ xs) =
    let rest = fit_all_chain (after b x.chunk) xs in (
      λ e. let p = and_both (leb b.link x.chunk.start && leb (free_at b.free x.chunk.node) x.from) (fit_all (after b x.chunk) xs) e in
          let q = and_both (leb b.link x.chunk.start) (leb (free_at b.free x.chunk.node) x.from) p.0 in
          ((leb-true _ _ q.0, leb-true _ _ q.1), rest.0 p.1),
      λ h. rw (le-leb b.link x.chunk.start h.0.0, le-leb (free_at b.free x.chunk.node) x.from h.0.1) (rest.1 h.1),
    )

-- A chain of two parts is a chain of the first, and of the second behind it.
pub chain_append : (b : FreeTimes) (xs ys : List Span) → Chain b (xs ++ ys) ↔ (Chain b xs × Chain (afters b (map (λ (x : Span). x.chunk) xs)) ys)
unfolding afters
chain_append b [] ys = (λ h. (tt, h), λ h. h.1)
chain_append b (x ∷ xs) ys =
    let rest = chain_append (after b x.chunk) xs ys in
    (λ h. let r = rest.0 h.1 in ((h.0, r.0), r.1), λ h. (h.0.0, rest.1 (h.0.1, h.1)))

-- a span of one of the nodes 1, …, n: from the job's start to the send's, over the send, to the finish
pub record Proper (n : ℕ) (x : Span) : Type 0 where
  pub node : Between 1 x.chunk.node n
  pub begins : x.from ≤ x.chunk.start
  pub sends : x.chunk.start < x.chunk.sent
  pub ends : x.chunk.sent ≤ x.chunk.finish

-- y comes after x: its send after x's send, and on the same node its span after x's span
pub record Follows (x y : Span) : Type 0 where
  pub send : x.chunk.sent ≤ y.chunk.start
  pub node : x.chunk.node ≡ y.chunk.node → x.chunk.finish ≤ y.from

-- What a node is set to is its free time.
pub free_same : (free : List ℕ) (k v : ℕ) → 1 ≤ k → k ≤ length free → free_at (set free (k - 1) v) k ≡ v
free_same free k v h l = get_or-set_same free (k - 1) v 0 (omega arith)

-- The other nodes keep their free times.
pub free_other : (free : List ℕ) (k m v : ℕ) → 1 ≤ k → 1 ≤ m → (k ≡ m → ⊥) → free_at (set free (k - 1) v) m ≡ free_at free m
free_other free k m v h l d = get_or-set_other free (k - 1) (m - 1) v 0 (λ e. d (omega arith))

-- The free times keep their number.
pub after_length : (b : FreeTimes) (x : Chunk) → length (after b x).free ≡ length b.free
after_length b x = length-set b.free (x.node - 1) x.finish

-- So they do behind several chunks.
pub afters_length : (b : FreeTimes) (xs : List Chunk) → length (afters b xs).free ≡ length b.free
unfolding afters
afters_length b [] = refl
afters_length b (x ∷ xs) = afters_length (after b x) xs ∙ after_length b x

-- What fits behind a span that fits, fits without it, and comes after it.
fits_before : (b : FreeTimes) (x y : Span) → length b.free ≡ 64 → Proper 64 x → Proper 64 y → Fits b x → Fits (after b x.chunk) y → Fits b y × Follows x y
fits_before b x y l p q h k = go (ℕ_discrete x.chunk.node y.chunk.node)
  where
    go : Dec (x.chunk.node ≡ y.chunk.node) → Fits b y × Follows x y
    go (yes e) =
        let same : free_at (set b.free (x.chunk.node - 1) x.chunk.finish) x.chunk.node ≡ x.chunk.finish = free_same b.free x.chunk.node x.chunk.finish p.node.0 (omega arith) in
        let old : free_at b.free x.chunk.node ≡ free_at b.free y.chunk.node = ap (free_at b.free) e in
        let new : free_at (set b.free (x.chunk.node - 1) x.chunk.finish) x.chunk.node ≡ free_at (set b.free (x.chunk.node - 1) x.chunk.finish) y.chunk.node =
        ap (free_at (set b.free (x.chunk.node - 1) x.chunk.finish)) e in
        let z : x.chunk.finish ≤ y.from = omega arith in
        ((omega arith, omega arith), record { send = k.0; node = λ e. z })
    go (no d) =
        let other : free_at (set b.free (x.chunk.node - 1) x.chunk.finish) y.chunk.node ≡ free_at b.free y.chunk.node =
        free_other b.free x.chunk.node y.chunk.node x.chunk.finish p.node.0 q.node.0 d in
        ((omega arith, omega arith), record { send = k.0; node = λ e. absurd (d e) })

-- What fits and comes after a span, fits behind it.
fits_after : (b : FreeTimes) (x y : Span) → length b.free ≡ 64 → Proper 64 x → Proper 64 y → Follows x y → Fits b y → Fits (after b x.chunk) y
fits_after b x y l p q f h = go (ℕ_discrete x.chunk.node y.chunk.node)
  where
    go : Dec (x.chunk.node ≡ y.chunk.node) → Fits (after b x.chunk) y
    go (yes e) =
        let same : free_at (set b.free (x.chunk.node - 1) x.chunk.finish) x.chunk.node ≡ x.chunk.finish = free_same b.free x.chunk.node x.chunk.finish p.node.0 (omega arith) in
        let new : free_at (set b.free (x.chunk.node - 1) x.chunk.finish) x.chunk.node ≡ free_at (set b.free (x.chunk.node - 1) x.chunk.finish) y.chunk.node =
        ap (free_at (set b.free (x.chunk.node - 1) x.chunk.finish)) e in
        let z = f.node e in
        (f.send, omega arith)
    go (no d) =
        let other : free_at (set b.free (x.chunk.node - 1) x.chunk.finish) y.chunk.node ≡ free_at b.free y.chunk.node =
        free_other b.free x.chunk.node y.chunk.node x.chunk.finish p.node.0 q.node.0 d in
        (f.send, omega arith)

-- Spans are a chain exactly if each fits by itself and each comes after every earlier one.
pub chain_follows : (b : FreeTimes) (xs : List Span) → length b.free ≡ 64 → All (Proper 64) xs → Chain b xs ↔ (All (Fits b) xs × Pairs Follows xs)
chain_follows b [] l p = (λ h. (tt, tt), λ h. tt)
chain_follows b (x ∷ xs) l p =
    let rest = chain_follows (after b x.chunk) xs (after_length b x.chunk ∙ l) p.1 in (
      λ h. let r = rest.0 h.1 in
          let s : All (λ (y : Span). Fits b y × Follows x y) xs = all_both (λ y q k. fits_before b x y l p.0 q h.0 k) xs p.1 r.0 in
          ((h.0, all_map (λ y k. k.0) xs s), (all_map (λ y k. k.1) xs s, r.1)),
      λ h. let s : All (λ (y : Span). Proper 64 y × Follows x y) xs = all_both (λ y q f. (q, f)) xs p.1 h.1.0 in
          (h.0.0, rest.1 (all_both (λ y q k. fits_after b x y l p.0 q.0 q.1 k) xs s h.0.1, h.1.1)),
    )

-- A span that comes after another shares no tick with it.
pub follows_apart : (x y : Span) → Follows x y → Apart x y
follows_apart x y f = record { node = λ e t h k. let z = f.node e in omega arith; send = λ t h k. omega (arith, f.send) }

-- The spans of a chain share no tick of a node or of the link.
pub chain_apart : (b : FreeTimes) (xs : List Span) → length b.free ≡ 64 → All (Proper 64) xs → Chain b xs → Pairs Apart xs
chain_apart b xs l p h = pairs_map follows_apart xs ((chain_follows b xs l p).0 h).1

-- ---- The spans of a job

-- A send takes time.
send_takes : (c : Costs) (t a : ℕ) → 1 ≤ c.send → 1 ≤ a → t < send_end c t a
send_takes c t a s h = omega (arith, mul-le-mul_right c.send h)

chunks_proper : (w : ChunkTerms) → 1 ≤ w.costs.send → (n f t : ℕ) (ks xs : List ℕ) → f ≤ t → All (λ (k : ℕ). Between 1 k n) ks → Positive xs
    → All (λ (x : Chunk). Proper n (record { from = f; chunk = x })) (chunks_from w t ks xs)
unfolding chunks_from
chunks_proper w m n f t [] [] h k p = tt
chunks_proper w m n f t [] (a ∷ xs) h k p = tt
chunks_proper w m n f t (i ∷ ks) [] h k p = tt
chunks_proper w m n f t (i ∷ ks) (a ∷ xs) h k p =
    let z = send_takes (costs_for w.costs w.compute) t a m p.0 in
    (record { node = k.0; begins = h; sends = z; ends = omega arith }, chunks_proper w m n f (chunk_on w t i a).sent ks xs (omega arith) k.1 p.1)

-- The spans of a job are proper.
pub job_proper : (c : FarmCosts) (n : ℕ) (j : Job) → 1 ≤ c.send → All (λ (k : ℕ). Between 1 k n) (chosen j.booking) → Positive (units j.booking) → All (Proper n) (spans_of c j)
job_proper c n j m k p =
    all_image (Proper n) (λ (x : Chunk). record { from = j.booking.start; chunk = x }) (lines_of c j)
    (chunks_proper (chunk_terms c j) m n j.booking.start j.booking.start (chosen j.booking) (units j.booking) (omega arith) k p)

-- The finish of each chunk is at most the latest of them all.
pub chunks_finish : (t : ℕ) (xs : List Chunk) → All (λ (x : Chunk). x.finish ≤ latest t xs) xs
unfolding latest
chunks_finish t [] = tt
chunks_finish t (x ∷ xs) = (omega arith, all_map (λ y h. omega arith) xs (chunks_finish t xs))

-- No span of a job ends after the job's finish.
pub job_finish : (c : FarmCosts) (j : Job) → All (λ (x : Span). x.chunk.finish ≤ finish_of c j) (spans_of c j)
job_finish c j =
    all_image (λ (x : Span). x.chunk.finish ≤ finish_of c j) (λ (x : Chunk). record { from = j.booking.start; chunk = x }) (lines_of c j)
    (chunks_finish j.booking.start (lines_of c j))

-- A job with a chunk finishes after its start.
pub finish_after_start : (c : FarmCosts) (n : ℕ) (j : Job) → All (Proper n) (spans_of c j) → 1 ≤ length (lines_of c j)
    → j.booking.start < finish_of c j
unfolding latest
finish_after_start c n j = go j.booking.start (lines_of c j)
  where
    go : (f : ℕ) (xs : List Chunk) → All (Proper n) (placed f xs) → 1 ≤ length xs → f < latest f xs
    go f [] p h = absurd (omega arith)
    go f (x ∷ xs) p h = omega (arith, p.0.begins, p.0.sends, p.0.ends)

placed_chunks : (f : ℕ) (xs : List Chunk) → map (λ (x : Span). x.chunk) (placed f xs) ≡ xs
placed_chunks f [] = refl
placed_chunks f (x ∷ xs) = ap (λ (l : List Chunk). x ∷ l) (placed_chunks f xs)

-- The chunks of a job's spans are its lines.
pub spans_lines : (c : FarmCosts) (j : Job) → map (λ (x : Span). x.chunk) (spans_of c j) ≡ lines_of c j
spans_lines c j = placed_chunks j.booking.start (lines_of c j)

-- A chain that begins with a job is a chain of the job's spans, and of the others behind its lines.
pub chain_job : (b : FreeTimes) (c : FarmCosts) (j : Job) (ys : List Span) → Chain b (spans_of c j ++ ys) ↔ (Chain b (spans_of c j) × Chain (afters b (lines_of c j)) ys)
chain_job b c j ys =
    subst (λ (l : List Chunk). Chain b (spans_of c j ++ ys) ↔ (Chain b (spans_of c j) × Chain (afters b l) ys)) (spans_lines c j) (chain_append b (spans_of c j) ys)
