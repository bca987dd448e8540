-- A block, line by line, and the end of the input, for src/blocks.rt.
use Rattle.std.specs.Prelude.{◌≡◌, refl, List, [], ◌∷◌, ◌++◌, Bool, true, false, cond, ℕ, zero, suc, ◌+◌, ◌-◌, ◌≤◌, ◌<◌, leb, length}
use Rattle.std.proofs.Common.{ap, ap₂, sym, subst, ◌∙◌, append-nil, le-leb}
use native.Mathlib.Omega.{arith}
use Rattle.std.proofs.lemmas.Bool.{lt-leb, false≢true}
use Rattle.planner.specs.Model.{Farm}
use Rattle.text.specs.Model.{newline}
use Rattle.text.specs.Writing.{WroteWithin, wrote_none, wrote_same, wrote_join, wrote_length, within_same}
use Rattle.search.specs.Model.{this, next_place}
use Rattle.lines.specs.declared.Rest.{Rest}
use Rattle.protocol.specs.declared.Progress.{Progress}
use Rattle.protocol.specs.declared.Session.{Session}
use Rattle.lines.specs.Model.{Answered, answered_text, Pending, part, long, ended, Fed, feed, at_end}
use Rattle.lines.specs.Feeding.{stretch, kept_all, fed_line, fed_rest}
use Rattle.lines.specs.Rows.{pending_of, none_pending}
use Rattle.lines.specs.AnswerLines.{largest}
use Rattle.protocol.specs.Promises.{day_farm, Took, Ended, ends_line, end_text}
use Rattle.protocol.specs.Reachable.{Reachable, feed_reachable}

module _ (f : Farm) (r : Rest) (block : List ℕ) (from : ℕ) (entry : List ℕ) where
  -- what the bytes up to a place come to
  abbrev pub up_to : ℕ → Fed
  up_to next = feed f (pending_of r) (stretch from next block)

  -- the day so far, at a place of the block
  pub record DayAt (farm : Farm) (rest : Rest) (next at : ℕ) (out : List ℕ) : Type 0 where
    pub onward : from ≤ next
    pub inside : from ≤ length block → next ≤ length block
    pub farms : (up_to next).farm ≡ farm
    pub pending : (up_to next).pending ≡ pending_of rest
    pub wrote : WroteWithin (length entry) (up_to next).text 0 entry out at
    pub size : length out ≡ length entry

  nothing_yet : up_to from ≡ record { farm = f; pending = pending_of r; text = [] }
  unfolding feed
  nothing_yet = let e : from - from ≡ 0 = omega arith in rw e

  -- nothing has been taken yet
  pub day_start : DayAt f r from 0 entry
  day_start = record {
    onward = omega arith;
    inside = λ h. h;
    farms = ap (λ (x : Fed). x.farm) nothing_yet;
    pending = ap (λ (x : Fed). x.pending) nothing_yet;
    wrote = record { wrote = wrote_same (sym (ap (λ (x : Fed). x.text) nothing_yet)) (wrote_none 0 entry); within = omega arith };
    size = refl;
  }

module _ {f : Farm} {r : Rest} {block : List ℕ} {from : ℕ} {entry : List ℕ} {farm : Farm} {rest : Rest} {next at : ℕ} {out : List ℕ} (g : DayAt f r block from entry farm rest next at out) where
  -- what the bytes so far come to
  abbrev so_far : Fed
  so_far = up_to f r block from entry next

  -- a farm that was reachable still is
  pub day_reachable : Reachable f → Reachable farm
  day_reachable h = subst Reachable g.farms (feed_reachable f (pending_of r) (stretch from next block) h)

  module _ {end : ℕ} (e : end ≡ next_place (this newline) block next) where
    -- what is kept of a line up to there
    abbrev pub line_to : Pending
    line_to = kept_all (pending_of rest) (stretch next end block)

    pub kept_line : kept_all so_far.pending (stretch next end block) ≡ line_to
    kept_line = ap (λ (p : Pending). kept_all p (stretch next end block)) g.pending

    -- a line ends and is answered
    pub day_line : {x : Answered} {later : Farm} {empty : Rest} {most place : ℕ} {back : List ℕ} → end < length block → ended farm line_to ≡ x → later ≡ x.farm → pending_of empty ≡ part []
        → WroteWithin most (answered_text x) at out back place → place ≤ length entry
        → DayAt f r block from entry later empty (end + 1) place back
    day_line h a d z w k =
        let y = fed_line f (pending_of r) block from next end so_far g.onward e refl h in
        let b = ap₂ ended g.farms kept_line ∙ a in
        let all = wrote_join g.wrote.wrote (omega (arith, g.wrote.within)) w.wrote in
        record {
          onward = omega (arith, g.onward);
          inside = λ q. omega arith;
          farms = ap (λ (u : Fed). u.farm) y ∙ ap (λ (u : Answered). u.farm) b ∙ sym d;
          pending = ap (λ (u : Fed). u.pending) y ∙ sym z;
          wrote = record { wrote = wrote_same (sym (ap (λ (u : Fed). u.text) y ∙ ap (λ (u : Answered). so_far.text ++ answered_text u) b)) all; within = omega arith };
          size = wrote_length all k;
        }

    -- where no newline is left the bytes are kept
    pub day_rest : {line : Rest} → pending_of line ≡ line_to → end ≡ length block → DayAt f r block from entry farm line end at out
    day_rest l h =
        let x = fed_rest f (pending_of r) block from next end so_far g.onward e refl h in
        record {
          onward = omega (arith, g.onward);
          inside = λ k. omega arith;
          farms = ap (λ (y : Fed). y.farm) x ∙ g.farms;
          pending = ap (λ (y : Fed). y.pending) x ∙ kept_line ∙ sym l;
          wrote = within_same (sym (ap (λ (y : Fed). y.text) x ∙ append-nil so_far.text)) g.wrote;
          size = g.size;
        }

-- Where the block ends, or there is no room, the day is that of feeding it so far.
pub day_took : {f : Farm} {r : Rest} {block : List ℕ} {from : ℕ} {entry : List ℕ} (t : Session) {next at : ℕ} {out : List ℕ}
    → DayAt f r block from entry (day_farm t) t.rest next at out → (next < length block → length entry < at + largest)
    → Took f (pending_of r) block from entry out (record { next = next; written = at }) t
day_took t g h = record {
  onward = g.onward;
  inside = g.inside;
  stops = h;
  farm = sym g.farms;
  pending = sym g.pending;
  wrote = g.wrote;
}

-- ---- The end of the input

pub end_small : (f : Farm) (p : Pending) (room : ℕ) → room < largest → end_text f p room ≡ []
end_small f p room h = rw (lt-leb largest room h)

pub end_empty : (f : Farm) (p : Pending) (room : ℕ) → none_pending p ≡ true → end_text f p room ≡ []
end_empty f long room e = absurd (false≢true e)
end_empty f (part (b ∷ l)) room e = absurd (false≢true e)
end_empty f (part []) room e = go (leb largest room)
  where
    go : (b : Bool) → cond b (at_end f (part [])) [] ≡ []
    go true = refl
    go false = refl

pub end_line : (f : Farm) (p : Pending) (room : ℕ) → largest ≤ room → none_pending p ≡ false → end_text f p room ≡ answered_text (ended f p)
end_line f p room h e = rw (le-leb largest room h) (go p e)
  where
    go : (p : Pending) → none_pending p ≡ false → at_end f p ≡ answered_text (ended f p)
    go (part []) e = absurd (false≢true (sym e))
    go (part (b ∷ l)) e = refl
    go long e = refl

-- A newline ends the line that is pending: where there is room for its answer it is taken,
end_next : (f : Farm) (p : Pending) (entry exit : List ℕ) (r : Progress) (day : Session) → Took f p (newline ∷ []) 0 entry exit r day → largest ≤ length entry → r.next ≡ 1
unfolding feed
end_next f p entry exit r day t h = go r.next refl
  where
    none : r.next ≡ 0 → WroteWithin (length entry) [] 0 entry exit r.written
    none e = subst (λ (k : ℕ). WroteWithin (length entry) (feed f p (stretch 0 k (newline ∷ []))).text 0 entry exit r.written) e t.wrote

    go : (n : ℕ) → r.next ≡ n → n ≡ 1
    go zero e = absurd (omega (arith, (none e).wrote.place, t.stops (omega arith)))
    go (suc zero) e = refl
    go (suc (suc n)) e = absurd (omega (arith, t.inside (omega arith)))

module _ (f : Farm) (p : Pending) (entry exit : List ℕ) (r : Progress) (day : Session) (t : Took f p (newline ∷ []) 0 entry exit r day) (h : largest ≤ length entry) where
  taken : feed f p (stretch 0 r.next (newline ∷ [])) ≡ record { farm = (ended f p).farm; pending = part []; text = answered_text (ended f p) ++ [] }
  unfolding feed
  taken = ap (λ (k : ℕ). feed f p (stretch 0 k (newline ∷ []))) (end_next f p entry exit r day t h)

  -- its answer is written,
  pub end_took : WroteWithin (length entry) (answered_text (ended f p)) 0 entry exit r.written
  end_took = within_same (ap (λ (x : Fed). x.text) taken ∙ append-nil (answered_text (ended f p))) t.wrote

  -- and the day is the one after it.
  pub end_ended : (s : Session) → day_farm s ≡ f → pending_of s.rest ≡ p → ends_line p (length entry) ≡ true → Ended (length entry) s day
  end_ended s a b e = record {
    farm = λ _. t.farm ∙ ap (λ (x : Fed). x.farm) taken ∙ sym (ap₂ (λ (g : Farm) (q : Pending). (ended g q).farm) a b);
    pending = λ _. t.pending ∙ ap (λ (x : Fed). x.pending) taken;
    same = λ n. absurd (false≢true (sym n ∙ ap (λ (q : Pending). ends_line q (length entry)) b ∙ e));
  }
