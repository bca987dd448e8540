-- Offers, questions and answers, in the paper's words and numbers. Everything here is a definition; nothing is assumed.
use Rattle.std.specs.Prelude.{ℕ, List, [], ◌∷◌, cond, ◌&&◌, leb, ltb, Option, None, Some, Result, Ok, Err}
use Rattle.limits.specs.declared.FarmCosts.{FarmCosts}
use Rattle.limits.specs.Model.{between}
use Rattle.walk.specs.declared.Job.{Job}
use Rattle.walk.specs.Model.{greatest, finish_of}
use Rattle.answers.specs.declared.Offer.{Offer}
use Rattle.answers.specs.declared.Question.{Question}
use Rattle.answers.specs.declared.Granted.{Granted}
use Rattle.answers.specs.declared.Question.TheVariants as question
use Rattle.answers.specs.declared.Granted.TheVariants as answer

-- ---- Answers

-- which answer it is: the paper's words open, yes, clock, account, gone, quote and no; what showing answers has no word there
pub data SaidWord : Type 0 where
  Open : SaidWord
  Yes : SaidWord
  Clock : SaidWord
  Shown : SaidWord
  Account : SaidWord
  Gone : SaidWord
  Quote : SaidWord
  No : SaidWord

-- an answer in the paper's terms: its word; the number of the question that was answered no, 0 where all were answered yes; and the values
pub record Said : Type 0 where
  pub word : SaidWord
  pub number : ℕ
  pub values : List ℕ

abbrev pub granted : SaidWord → List ℕ → Said
granted w vs = record { word = w; number = 0; values = vs }

abbrev pub refused : ℕ → Said
refused n = record { word = No; number = n; values = [] }

abbrev pub number_of : Question → ℕ
number_of question.Nodes = 1
number_of question.Costs = 2
number_of question.Shows = 3
number_of question.Show = 4
number_of question.Size = 5
number_of question.Deadline = 6
number_of question.Queue = 7
number_of question.Walk = 8
number_of question.Time = 9
number_of question.Lines = 10
number_of question.Farm = 11
number_of question.Waiting = 12

-- the paper's word and values for each case of a granted call's answer
abbrev pub told : Granted → Said
told (answer.Open n s) = granted Open (n ∷ s ∷ [])
told (answer.Yes j s t k) = granted Yes (j ∷ s ∷ t ∷ k ∷ [])
told (answer.Clock t n) = granted Clock (t ∷ n ∷ [])
told (answer.Shown n) = granted Shown (n ∷ [])
told (answer.Account s h c) = granted Account (s ∷ h ∷ c ∷ [])
told (answer.Gone j) = granted Gone (j ∷ [])
told (answer.Quote j s t k) = granted Quote (j ∷ s ∷ t ∷ k ∷ [])

-- the paper's word, number and values for each case of an answer
abbrev pub said : Result Granted Question → Said
said (Ok g) = told g
said (Err q) = refused (number_of q)

-- job, start, finish and count of nodes
abbrev pub yes_of : FarmCosts → Job → Said
yes_of c j = granted Yes (j.number ∷ j.booking.start ∷ finish_of c j ∷ j.booking.count ∷ [])

-- ---- Offers

-- an offer that gives no compute cost, and one that does
abbrev pub offer_of : ℕ → ℕ → ℕ → Offer
offer_of s z d = record { show = s; size = z; deadline = d; compute = None }

abbrev pub offer_with : ℕ → ℕ → ℕ → ℕ → Offer
offer_with s z d p = record { show = s; size = z; deadline = d; compute = Some p }

-- the compute cost that is given, otherwise the farm's
abbrev pub compute_or : ℕ → Option ℕ → ℕ
compute_or farms None = farms
compute_or farms (Some own) = own

-- questions 4, 5, 2, 6 and 7 in that order, of an offer whose job would have the compute cost p, by a farm's shows, clock, waiting jobs and used numbers: the number
-- of the first answered no, or 0
abbrev pub asks_offer : ℕ → ℕ → ℕ → ℕ → Offer → ℕ → ℕ
asks_offer shows clock waiting used o p =
    cond (between 1 o.show shows)
    (cond (between 1 o.size 1_000_000)
    (cond (between 1 p 1_000_000)
    (cond (ltb clock o.deadline && leb o.deadline greatest)
    (cond (ltb waiting 128 && ltb used greatest) 0 7)
    6)
    2)
    5)
    4

-- ---- Quotes

-- the word quote in place of yes; every other word stays
abbrev pub quote_word : SaidWord → SaidWord
quote_word Open = Open
quote_word Yes = Quote
quote_word Clock = Clock
quote_word Shown = Shown
quote_word Account = Account
quote_word Gone = Gone
quote_word Quote = Quote
quote_word No = No

-- an answer with that word: its number and its values stay
abbrev pub as_quote : Said → Said
as_quote a = record { word = quote_word a.word; number = a.number; values = a.values }
