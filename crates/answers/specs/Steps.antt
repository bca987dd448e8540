-- Questions and what `ask` says of them.
use Rattle.std.specs.Prelude.{◌≡◌, refl, true, false, ◌&&◌, ℕ, ◌≤◌, leb, ltb, eqb, length, ⊤, Result, Ok, Err}
use Rattle.std.proofs.Common.{arith}
use Rattle.limits.specs.Model.{between}
use Rattle.walk.specs.Model.{greatest}
use Rattle.answers.specs.declared.Offer.{Offer}
use Rattle.answers.specs.declared.Granted.{Granted}
use Rattle.answers.specs.declared.Granted.TheVariants as answer
use Rattle.answers.specs.declared.Question.{Question}
use Rattle.answers.specs.declared.Question.TheVariants as question
use Rattle.answers.specs.Model.{said, number_of, asks_offer}

-- the number of the question that was answered no, 0 where none was
abbrev pub asked_of : Result ⊤ Question → ℕ
asked_of (Ok _) = 0
asked_of (Err q) = number_of q

-- No question has the number 0, which stands for a granted call.
pub no_number : (q : Question) → eqb (number_of q) 0 ≡ false
no_number question.Nodes = refl
no_number question.Costs = refl
no_number question.Shows = refl
no_number question.Show = refl
no_number question.Size = refl
no_number question.Deadline = refl
no_number question.Queue = refl
no_number question.Walk = refl
no_number question.Time = refl
no_number question.Lines = refl
no_number question.Farm = refl
no_number question.Waiting = refl

-- An answer has at most eight values.
pub few_values : (a : Result Granted Question) → length (said a).values ≤ 8
few_values (Ok (answer.Open n s)) = omega arith
few_values (Ok (answer.Yes j s t k)) = omega arith
few_values (Ok (answer.Clock t n)) = omega arith
few_values (Ok (answer.Shown n)) = omega arith
few_values (Ok (answer.Account s h c)) = omega arith
few_values (Ok (answer.Gone j)) = omega arith
few_values (Ok (answer.Quote j s t k)) = omega arith
few_values (Err q) = omega arith

-- ---- What an offer is asked

module _ (shows clock waiting used : ℕ) (o : Offer) (p : ℕ) where
  pub asked_show : between 1 o.show shows ≡ false → asks_offer shows clock waiting used o p ≡ 4
  asked_show b = rw b

  module _ (b : between 1 o.show shows ≡ true) where
    pub asked_size : between 1 o.size 1_000_000 ≡ false → asks_offer shows clock waiting used o p ≡ 5
    asked_size c = rw (b, c)

    module _ (c : between 1 o.size 1_000_000 ≡ true) where
      pub asked_compute : between 1 p 1_000_000 ≡ false → asks_offer shows clock waiting used o p ≡ 2
      asked_compute q = rw (b, c, q)

      module _ (q : between 1 p 1_000_000 ≡ true) where
        pub asked_deadline : (ltb clock o.deadline && leb o.deadline greatest) ≡ false → asks_offer shows clock waiting used o p ≡ 6
        asked_deadline e = rw (b, c, q, e)

        pub asked_queue : (ltb clock o.deadline && leb o.deadline greatest) ≡ true → (ltb waiting 128 && ltb used greatest) ≡ false → asks_offer shows clock waiting used o p ≡ 7
        asked_queue e g = rw (b, c, q, e, g)

        pub asked_all : (ltb clock o.deadline && leb o.deadline greatest) ≡ true → (ltb waiting 128 && ltb used greatest) ≡ true → asks_offer shows clock waiting used o p ≡ 0
        asked_all e g = rw (b, c, q, e, g)
