-- The farm of a day: not opened, or reached by a granted opening and calls. Every line keeps it so, and a call on it
-- need not ask question 11.
use Rattle.std.specs.Prelude.{◌≡◌, refl, List, [], ◌∷◌, Bool, true, false, cond, ℕ, eqb, get_or}
use Rattle.std.proofs.Common.{sym, ◌∙◌}
use Rattle.std.proofs.lemmas.Bool.{false≢true}
use Rattle.limits.specs.declared.FarmCosts.{FarmCosts}
use Rattle.planner.specs.Model.{Farm, Sized, between, costs_within}
use Rattle.planner.specs.Passes.{passes_of}
use Rattle.planner.specs.Calls.{unopened, shows_within, open_said, open_farm}
use Rattle.planner.specs.Call.{Call, handed}
use Rattle.demands.specs.Kept.{handed_keeps}
use Rattle.demands.specs.Reached.{Reached, reached_opening, reached_call, reached_passes, reached_sized}
use Rattle.text.specs.Model.{newline}
use Rattle.reading.specs.Model.{numbers_of}
use Rattle.lines.specs.Model.{costs_in, Asks, an_opening, a_call, no_call, in_turn, line_asks, Answered, answered_text, unread, answer_to, answered_as, answered, Pending, part, long, ended, kept, Fed, behind, feed}

-- not opened, or reached by an opening and calls
abbrev pub Reachable : Farm → Type 0
Reachable f = f.opened ≡ true → Reached f

-- Once opened it passes question 11.
pub reachable_passes : (f : Farm) → Reachable f → f.opened ≡ true → passes_of f ≡ true
reachable_passes f r o = reached_passes f (r o)

pub reachable_sized : (f : Farm) → Reachable f → f.opened ≡ true → Sized f
reachable_sized f r o = reached_sized f (r o)

-- The unopened farm is reachable.
pub unopened_reachable : Reachable unopened
unopened_reachable o = absurd (false≢true o)

-- An opening hands back a farm that it reached, or one that is not opened.
opening_reachable : (n : ℕ) (c : FarmCosts) (al : List ℕ) → Reachable (open_farm n c al)
unfolding open_said open_farm
opening_reachable n c al = go (between 1 n 64) (costs_within c) (shows_within al) refl refl refl
  where
    go : (a b d : Bool) → between 1 n 64 ≡ a → costs_within c ≡ b → shows_within al ≡ d → Reachable (open_farm n c al)
    go true true true e f g = λ o. reached_opening n c al (rw (e, f, g))
    go true true false e f g = rw (e, f, g) (λ o. absurd (false≢true o))
    go true false d e f g = rw (e, f) (λ o. absurd (false≢true o))
    go false b d e f g = rw e (λ o. absurd (false≢true o))

-- A call keeps it so.
pub call_reachable : (f : Farm) (c : Call) → Reachable f → Reachable (handed f c)
call_reachable f c r o = reached_call f c (r (sym (handed_keeps f c).opened ∙ o))

asked_reachable : (f : Farm) (a : Asks) (n : ℕ) (ns al : List ℕ) → Reachable f → Reachable (answer_to f a n ns al).farm
asked_reachable f an_opening n ns al r = opening_reachable (get_or ns 0 0) (costs_in ns) al
asked_reachable f (a_call g) n ns al r = call_reachable f (g n ns) r
asked_reachable f no_call n ns al r = r

choice_reachable : (b : Bool) (x y : Answered) → Reachable x.farm → Reachable y.farm → Reachable (cond b x y).farm
choice_reachable true x y p q = p
choice_reachable false x y p q = q

-- A line keeps it so.
pub answered_reachable : (f : Farm) (l : List ℕ) → Reachable f → Reachable (answered f l).farm
unfolding answered answered_as
answered_reachable f l r =
    choice_reachable (in_turn (line_asks l) f.opened) _ (unread f)
    (asked_reachable f (line_asks l) _ (numbers_of l) _ r) r

ended_reachable : (f : Farm) (p : Pending) → Reachable f → Reachable (ended f p).farm
ended_reachable f (part l) r = answered_reachable f l r
ended_reachable f long r = r

fed_reachable : (b : Bool) (x y : Fed) → Reachable x.farm → Reachable y.farm → Reachable (cond b x y).farm
fed_reachable true x y p q = p
fed_reachable false x y p q = q

-- So do the bytes of a block.
pub feed_reachable : (f : Farm) (p : Pending) (bs : List ℕ) → Reachable f → Reachable (feed f p bs).farm
unfolding feed
feed_reachable f p [] r = r
feed_reachable f p (b ∷ bs) r =
    fed_reachable (eqb b newline) (behind (answered_text (ended f p)) (feed (ended f p).farm (part []) bs)) (feed f (kept p b) bs)
    (feed_reachable (ended f p).farm (part []) bs (ended_reachable f p r)) (feed_reachable f (kept p b) bs r)
