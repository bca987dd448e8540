-- What a call does: it changes nothing, as it is refused or only tells; it takes a job; it lets one leave; or it moves
-- the clock. Proofs over calls go by these.
use Rattle.std.specs.Prelude.{◌≡◌, refl, Bool, true, false, ℕ, ◌+◌, eqb, length, get_or, take, drop}
use Rattle.std.proofs.Common.{ap, ap₂, sym, subst, ◌∙◌, eqb-true, take_at}
use mathlib.Core.List.Permᴰ
use mathlib.Core.List.{List, [], ◌∷◌, ◌++◌, map, Memᴰ}
use Rattle.std.proofs.lemmas.Bool.{false≢true}
use Rattle.lists.specs.Laws.{All, all_map, all_of, perm_all, perm_mem, mem_image, map_join}
use Rattle.limits.specs.declared.FarmCosts.{FarmCosts}
use Rattle.booking.specs.Best.{units}
use Rattle.walk.specs.declared.Job.{Job}
use Rattle.walk.specs.declared.Chunk.{Chunk}
use Rattle.answers.specs.declared.Offer.{Offer}
use Rattle.planner.specs.Model.{Farm, lines_of, spans_of, spans_of_all, Sized, by_start, waiting_of, free_times_of, walk_terms_of}
use Rattle.planner.specs.Passes.{passes_of}
use Rattle.walk.specs.Chunks.{lines_each}
use Rattle.walk.specs.Order.{by_start_perm, by_deadline_perm}
use Rattle.walk.specs.Plan.{plan_numbers}
use Rattle.planner.specs.Calls.{has_number, of_number, new_job, queue_of, planned, accepts, with_plan, offer_asked, offer_said, offer_farm, OfferGranted, withdrawn_farm, withdraw_said, withdraw_farm}
use Rattle.planner.specs.OfferSteps.{offer_granted}
use Rattle.planner.specs.Clock.{starts_by, begun, lines_of_all, issued, moved_farm, move_asked, move_said, move_farm, move_memory}
use Rattle.planner.specs.Call.{accepted_from}
use Rattle.planner.specs.CallLaws.{granted_notes, refused_notes, refused_hands}
use Rattle.demands.specs.CallLists.{Call, offer, quote, withdraw, move, account, Accepted, nothing, accepting, withdrawing, moving, handed, is_granted, noted, with_start}
use Rattle.lists.specs.Keep.{keep_all}
use Rattle.queue.specs.Numbers.{number_of_job, of_number_is, has_number_lem, of_number_has}
use Rattle.planner.specs.ClockSteps.{MoveGranted, move_granted}
use Rattle.demands.specs.MovePasses.{waiting_differ}

-- the job that a granted offer takes
abbrev pub taken : Farm → Offer → Accepted
taken f o = accepted_from f o (f.used + 1)

-- an offer that is granted: its questions are answered yes, and its walk books all
pub record Takes (f : Farm) (o : Offer) : Type 0 where
  pub granted : OfferGranted f o
  pub books : accepts f o ≡ true

-- a withdrawal that is granted: a waiting job has the number
pub record Leaves (f : Farm) (n : ℕ) : Type 0 where
  pub passes : passes_of f ≡ true
  pub has : has_number n (waiting_of f) ≡ true

-- what a call may do
pub data Outcome (f : Farm) (c : Call) : Type 0 where
  -- it is refused or only tells: the farm as it was, and nothing to note
  stays : handed f c ≡ f → noted f c ≡ nothing → Outcome f c
  -- it takes the job of an offer: the plan replaces the old one
  takes : (o : Offer) → c ≡ offer o → Takes f o → handed f c ≡ with_plan f (planned f o)
      → noted f c ≡ accepting (taken f o) (planned f o) → Outcome f c
  -- it lets a waiting job leave
  leaves : (n : ℕ) → Leaves f n → handed f c ≡ withdrawn_farm f n → noted f c ≡ withdrawing n → Outcome f c
  -- it moves the clock, and issues the chunks of the jobs that start by its time
  moves : (t n : ℕ) → MoveGranted f t n → handed f c ≡ moved_farm f t → noted f c ≡ moving t (issued f t) → Outcome f c

-- ---- The lines of a job

-- Each line names its job and its show.
pub job_named : (c : FarmCosts) (j : Job) → All (λ (x : Chunk). (x.job ≡ j.number) × (x.show ≡ j.show)) (lines_of c j)
job_named c j =
    lines_each (λ (x : Chunk). (x.job ≡ j.number) × (x.show ≡ j.show)) (λ (a : ℕ). Unit) c j (λ t k a h. (refl, refl)) (all_of (units j.booking) (λ a m. tt))

map_same : {A B : Type 0} (f g : A → B) (xs : List A) → All (λ (x : A). f x ≡ g x) xs → map f xs ≡ map g xs
map_same f g [] h = refl
map_same f g (x ∷ xs) h = ap₂ ◌∷◌ h.0 (map_same f g xs h.1)

-- Lines with the starts that their jobs have are the jobs' spans.
started_lines : (f : Farm) (c : FarmCosts) (js : List Job) → All (λ (j : Job). of_number j.number (waiting_of f) ≡ j) js → map (with_start f) (lines_of_all c js) ≡ spans_of_all c js
unfolding lines_of_all spans_of_all
started_lines f c [] h = refl
started_lines f c (j ∷ js) h = map_join (with_start f) (lines_of c j) (lines_of_all c js) ∙ ap₂ ◌++◌ one (started_lines f c js h.1)
  where
    one : map (with_start f) (lines_of c j) ≡ spans_of c j
    one =
        map_same (with_start f) (λ (x : Chunk). record { from = j.booking.start; chunk = x }) (lines_of c j)
        (all_map (λ x e. ap (λ (i : Job). record { from = i.booking.start; chunk = x }) (ap (λ (n : ℕ). of_number n (waiting_of f)) e.0 ∙ h.0)) (lines_of c j)
        (job_named c j))

-- The jobs that begin are those of their numbers.
begun_found : (f : Farm) (t : ℕ) → Sized f → passes_of f ≡ true → All (λ (j : Job). of_number j.number (waiting_of f) ≡ j) (begun f t)
begun_found f t z e =
    let P : Job → Type 0 = λ (j : Job). of_number j.number (waiting_of f) ≡ j in
    let all : All P (waiting_of f) = all_of (waiting_of f) (λ j m. of_number_is (waiting_of f) j (waiting_differ f z e) m) in
    all_map (λ j h. h.0) (begun f t) (keep_all (starts_by t) P (by_start (waiting_of f)) (perm_all P (by_start_perm (waiting_of f)) all))

-- Lines that are issued have the spans of the jobs that begin.
pub started_issued : (f : Farm) (t : ℕ) → Sized f → passes_of f ≡ true
    → map (with_start f) (issued f t) ≡ spans_of_all f.costs (begun f t)
started_issued f t z e = started_lines f f.costs (begun f t) (begun_found f t z e)

-- ---- A granted offer

new_number : (f : Farm) (o : Offer) → (of_number (f.used + 1) (planned f o)).number ≡ f.used + 1
new_number f o =
    let ws = waiting_of f in
    let j = new_job f o in
    let m : Memᴰ j (queue_of f o) = perm_mem (Permᴰ.trans (Permᴰ.append_comm (j ∷ []) ws) (by_deadline_perm (ws ++ j ∷ []))) (mathlib.Core.List.Memᴰ.head refl) in
    of_number_has (f.used + 1) (planned f o)
    (has_number_lem (planned f o) (f.used + 1) (subst (Memᴰ (f.used + 1)) (sym (plan_numbers (walk_terms_of f) (free_times_of f) (queue_of f o))) (mem_image number_of_job m)))

-- Its questions are answered yes and its walk books all; its plan replaces the old one, and its job and its plan are
-- noted.
pub granted_offer : (f : Farm) (o : Offer) → is_granted f (offer o) ≡ true
    → Takes f o × (handed f (offer o) ≡ with_plan f (planned f o))
    × (noted f (offer o) ≡ accepting (taken f o) (planned f o))
unfolding offer_said offer_farm
granted_offer f o e = go (eqb (offer_asked f o) 0) (accepts f o) refl refl
  where
    no : is_granted f (offer o) ≡ false → ⊥
    no n = false≢true (sym n ∙ e)

    number : eqb (offer_asked f o) 0 ≡ true → accepts f o ≡ true → get_or (offer_said f o).values 0 0 ≡ f.used + 1
    number p q = rw (p, q) (new_number f o)

    go : (a b : Bool) → eqb (offer_asked f o) 0 ≡ a → accepts f o ≡ b
        → Takes f o × (handed f (offer o) ≡ with_plan f (planned f o))
        × (noted f (offer o) ≡ accepting (taken f o) (planned f o))
    go true true p q = (
      record { granted = offer_granted f o (eqb-true (offer_asked f o) 0 p); books = q },
      rw (p, q),
      granted_notes f (offer o) e ∙ ap (λ (n : ℕ). accepting (accepted_from f o n) (planned f o)) (number p q),
    )
    go true false p q = absurd (no (rw (p, q)))
    go false b p q = absurd (no (rw (p, p)))

-- ---- A granted withdrawal

-- A waiting job has the number; the farm is handed back without it, and the number is noted.
pub granted_withdrawal : (f : Farm) (n : ℕ) → is_granted f (withdraw n) ≡ true
    → Leaves f n × (handed f (withdraw n) ≡ withdrawn_farm f n) × (noted f (withdraw n) ≡ withdrawing n)
unfolding withdraw_said withdraw_farm
granted_withdrawal f n e = go (passes_of f) (has_number n (waiting_of f)) refl refl
  where
    no : is_granted f (withdraw n) ≡ false → ⊥
    no h = false≢true (sym h ∙ e)

    number : passes_of f ≡ true → has_number n (waiting_of f) ≡ true → get_or (withdraw_said f n).values 0 0 ≡ n
    number p q = rw (p, q)

    go : (a b : Bool) → passes_of f ≡ a → has_number n (waiting_of f) ≡ b
        → Leaves f n × (handed f (withdraw n) ≡ withdrawn_farm f n) × (noted f (withdraw n) ≡ withdrawing n)
    go true true p q = (record { passes = p; has = q }, rw (p, q), granted_notes f (withdraw n) e ∙ ap withdrawing (number p q))
    go true false p q = absurd (no (rw (p, q)))
    go false b p q = absurd (no (rw p))

-- ---- A granted clock move

-- Its questions are answered yes; the moved farm is handed back, and its time and the lines of the jobs that begin are
-- noted.
pub granted_move : (f : Farm) (t : ℕ) (m : List Chunk) → is_granted f (move t m) ≡ true
    → MoveGranted f t (length m) × (handed f (move t m) ≡ moved_farm f t) × (noted f (move t m) ≡ moving t (issued f t))
unfolding move_said move_farm move_memory
granted_move f t m e = go (eqb (move_asked f t (length m)) 0) refl
  where
    lines : eqb (move_asked f t (length m)) 0 ≡ true
        → take (get_or (move_said f t (length m)).values 1 0) (move_memory f t m) ≡ issued f t
    lines p = rw p (take_at (issued f t) (drop (length (issued f t)) m) (length (issued f t)) refl)

    go : (a : Bool) → eqb (move_asked f t (length m)) 0 ≡ a
        → MoveGranted f t (length m) × (handed f (move t m) ≡ moved_farm f t)
        × (noted f (move t m) ≡ moving t (issued f t))
    go true p = (move_granted f t (length m) (eqb-true (move_asked f t (length m)) 0 p), rw p, granted_notes f (move t m) e ∙ ap (moving t) (lines p))
    go false p = absurd (let n : is_granted f (move t m) ≡ false = rw (p, p) in false≢true (sym n ∙ e))

-- ---- Any call

granted_outcome : (f : Farm) (c : Call) → is_granted f c ≡ true → Outcome f c
granted_outcome f (offer o) e = let g = granted_offer f o e in takes o refl g.0 g.1 g.2
granted_outcome f (quote o) e = stays refl (granted_notes f (quote o) e)
granted_outcome f (withdraw n) e = let g = granted_withdrawal f n e in leaves n g.0 g.1 g.2
granted_outcome f (move t m) e = let g = granted_move f t m e in moves t (length m) g.0 g.1 g.2
granted_outcome f (account s) e = stays refl (granted_notes f (account s) e)

-- A call changes nothing, or takes a job, or lets one leave, or moves the clock.
pub outcome : (f : Farm) (c : Call) → Outcome f c
outcome f c = go (is_granted f c) refl
  where
    go : (b : Bool) → is_granted f c ≡ b → Outcome f c
    go true e = granted_outcome f c e
    go false e = stays (refused_hands f c e) (refused_notes f c e)
