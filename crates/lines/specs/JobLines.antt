-- A `job` or `quote` line that gives no compute cost.
use Rattle.std.specs.Prelude.{◌≡◌, refl, [], ◌∷◌, ℕ}
use Rattle.planner.specs.Model.{Farm}
use Rattle.planner.specs.Calls.{offer_asked, offer_said, offer_farm, quote_said}
use Rattle.reading.specs.declared.Kind.TheVariants as kind
use Rattle.lines.specs.Model.{asked, answered_as, answered_with}

-- It is answered as the line that gives the farm's.
pub absent_line : (f : Farm) (s z d : ℕ)
    → answered_with f (asked kind.Job) (s ∷ z ∷ d ∷ [])
    ≡ answered_with f (asked kind.Job) (s ∷ z ∷ d ∷ f.costs.compute ∷ [])
unfolding answered_as offer_asked offer_said offer_farm
absent_line f s z d = refl

-- So is a quote.
pub absent_quote : (f : Farm) (s z d : ℕ)
    → answered_with f (asked kind.Quote) (s ∷ z ∷ d ∷ [])
    ≡ answered_with f (asked kind.Quote) (s ∷ z ∷ d ∷ f.costs.compute ∷ [])
unfolding answered_as quote_said offer_asked offer_said
absent_quote f s z d = refl
