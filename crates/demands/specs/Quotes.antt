-- Quotes in a list of calls: left out, they change nothing that is noted and no other answer.
use Rattle.std.specs.Prelude.{◌≡◌, refl, List, [], ◌∷◌, ◌++◌, Bool, true, false, cond}
use Rattle.std.proofs.Common.{ap, sym, ◌∙◌}
use Rattle.std.proofs.lemmas.Bool.{false≢true}
use Rattle.lists.specs.Keep.{keep, answers_keep}
use Rattle.planner.specs.Model.{Farm}
use Rattle.answers.specs.declared.Offer.{Offer}
use Rattle.planner.specs.Calls.{offer_said, as_quote, quote_said}
use Rattle.demands.specs.CallLists.{Call, offer, quote, withdraw, move, account, Noted, nothing, reply, handed, noted, History, note, run, call_answers, no_quote_call, calls_without_quotes, other_call_answers}
use Rattle.planner.specs.CallLaws.{none_noted}
use Rattle.demands.specs.Invariant.{stays_note, run_append}

-- A quote changes nothing, and nothing is noted of it.
quote_stays : (f : Farm) (c : Call) → no_quote_call c ≡ false → (handed f c ≡ f) × (noted f c ≡ nothing)
quote_stays f (offer o) e = absurd (false≢true (sym e))
quote_stays f (quote o) e = (refl, none_noted (λ (n : Noted). n) f (quote o) refl)
quote_stays f (withdraw n) e = absurd (false≢true (sym e))
quote_stays f (move t m) e = absurd (false≢true (sym e))
quote_stays f (account s) e = absurd (false≢true (sym e))

-- A list without its quotes leaves what the list leaves: the farm, the issued chunks and all else that is noted.
pub run_without : (w : History) (cs : List Call) → run w (calls_without_quotes cs) ≡ run w cs
unfolding run keep
run_without w [] = refl
run_without w (c ∷ cs) = go (no_quote_call c) refl (run_without (note w c) cs)
  where
    go : (b : Bool) → no_quote_call c ≡ b → run (note w c) (calls_without_quotes cs) ≡ run (note w c) cs
        → run w (cond b (c ∷ calls_without_quotes cs) (calls_without_quotes cs)) ≡ run (note w c) cs
    go true e r = r
    go false e r = let s = quote_stays w.farm c e in ap (λ (v : History). run v (calls_without_quotes cs)) (sym (stays_note w c s.0 s.1)) ∙ r

-- An offer behind a quote with the same fields is told what was quoted, with its own word.
pub quote_next : (w : History) (before : List Call) (o : Offer) → reply (run w before).farm (quote o) ≡ as_quote (reply (run w (before ++ quote o ∷ [])).farm (offer o))
unfolding run quote_said
quote_next w before o = ap (λ (v : History). as_quote (offer_said v.farm o)) (sym (run_append w before (quote o ∷ [])))

-- Its calls answer what they answer among the quotes.
pub answers_without : (f : Farm) (cs : List Call) → call_answers f (calls_without_quotes cs) ≡ other_call_answers f cs
answers_without f cs = answers_keep no_quote_call handed reply (λ g c e. (quote_stays g c e).0) f cs
