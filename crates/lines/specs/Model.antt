-- Lines and answers, in the words and the order of document 01, "Timetable lines and the program". A line is given without its newline.
-- Everything here is a definition; nothing is assumed. What a line's fields are is in the crate reading, how an answer is spelt in the crate printing.
use Rattle.std.specs.Prelude.{ℕ, List, [], ◌∷◌, ◌++◌, Bool, false, cond, not, leb, ltb, eqb, length, get_or, drop, replicate, Option, None, Some}
use Rattle.limits.specs.declared.FarmCosts.{FarmCosts}
use Rattle.walk.specs.declared.Chunk.{Chunk}
use Rattle.walk.specs.Model.{no_chunk}
use Rattle.timetable.specs.Model.{chunk_row}
use Rattle.planner.specs.Model.{Farm}
use Rattle.answers.specs.declared.Offer.{Offer}
use Rattle.planner.specs.Calls.{Said, refused, open_said, open_farm}
use Rattle.planner.specs.Call.{Call, offer, quote, withdraw, move, account, reply, handed, noted}
use Rattle.text.specs.Model.{newline}
use Rattle.reading.specs.declared.Kind.{Kind}
use Rattle.reading.specs.declared.Kind.TheVariants as kind
use Rattle.reading.specs.Model.{line_kind, readable, numbers_of}
use Rattle.planner.specs.Calls as calls
use Rattle.printing.specs.declared.Word.{Word}
use Rattle.printing.specs.declared.Word.TheVariants as word
use Rattle.printing.specs.Model.{line_text}

-- ---- What is printed

-- `no` and the number of the question
abbrev pub refusal : ℕ → List ℕ
refusal n = line_text word.No (n ∷ [])

-- the word of an answer's line. No line of the program asks for showing; the word of the lines that it writes stands for it.
abbrev pub printed_as : calls.SaidWord → Word
printed_as calls.Open = word.Open
printed_as calls.Yes = word.Yes
printed_as calls.Clock = word.Clock
printed_as calls.Shown = word.Chunk
printed_as calls.Account = word.Account
printed_as calls.Gone = word.Gone
printed_as calls.Quote = word.Quote
printed_as calls.No = word.No

-- an answer: its word and values where all questions were answered yes
unfoldable pub answer_text : Said → List ℕ
answer_text s = cond (eqb s.number 0) (line_text (printed_as s.word) s.values) (refusal s.number)

-- `chunk` with the record's eight numbers
abbrev pub chunk_text : Chunk → List ℕ
chunk_text x = line_text word.Chunk (chunk_row x)

unfoldable pub chunk_texts : List Chunk → List ℕ
chunk_texts [] = []
chunk_texts (x ∷ xs) = chunk_text x ++ chunk_texts xs

-- ---- What a line asks for

-- `farm` nodes m p ST SC r, then one allowance a show
abbrev pub costs_in : List ℕ → FarmCosts
costs_in ns = record { send = get_or ns 1 0; compute = get_or ns 2 0; linksetup = get_or ns 3 0; nodesetup = get_or ns 4 0; returning = get_or ns 5 0 }

abbrev pub allowances_of : List ℕ → List ℕ
allowances_of ns = drop 6 ns

-- `job` show size deadline [p]: of n numbers the fourth, where there is one, is the compute cost
abbrev pub compute_in : ℕ → List ℕ → Option ℕ
compute_in n ns = cond (leb n 3) None (Some (get_or ns 3 0))

abbrev pub offer_in : ℕ → List ℕ → Offer
offer_in n ns = record { show = get_or ns 0 0; size = get_or ns 1 0; deadline = get_or ns 2 0; compute = compute_in n ns }

-- the program lends 1,024 chunk records to a clock move
abbrev pub lent : ℕ
lent = 1024

-- an opening, the call that its n numbers make it, or nothing
pub data Asks : Type 0 where
  an_opening : Asks
  a_call : (ℕ → List ℕ → Call) → Asks
  no_call : Asks

-- what a line of a kind asks for: `quote` has the fields of `job`, `clock` a time, `account` a show, `withdraw` a job
abbrev pub asked : Kind → Asks
asked kind.Farm = an_opening
asked kind.Job = a_call (λ n ns. offer (offer_in n ns))
asked kind.Clock = a_call (λ n ns. move (get_or ns 0 0) (replicate lent no_chunk))
asked kind.Account = a_call (λ n ns. account (get_or ns 0 0))
asked kind.Withdraw = a_call (λ n ns. withdraw (get_or ns 0 0))
asked kind.Quote = a_call (λ n ns. quote (offer_in n ns))
asked kind.Unreadable = no_call

-- in its turn: an opening before an opened farm, a call after it
abbrev pub in_turn : Asks → Bool → Bool
in_turn an_opening opened = not opened
in_turn (a_call g) opened = opened
in_turn no_call opened = false

-- at most 1,024 bytes before the newline
abbrev pub longest : ℕ
longest = 1024

-- what a line asks for: a longer one, another shape and an empty one cannot be read
unfoldable pub line_asks : List ℕ → Asks
line_asks bs = cond (leb (length bs) longest) (cond (readable bs) (asked (line_kind bs)) no_call) no_call

-- ---- What it is answered

-- the farm after a line, the chunks that it issues, and what it is told
pub record Answered : Type 0 where
  pub farm : Farm
  pub chunks : List Chunk
  pub said : Said

-- what is printed: its `chunk` lines first, then its answer
abbrev pub answered_text : Answered → List ℕ
answered_text a = chunk_texts a.chunks ++ answer_text a.said

-- it cannot be read, or not in its turn
abbrev pub unread : Farm → Answered
unread f = record { farm = f; chunks = []; said = refused 11 }

-- an opening by these numbers and a farm's allowances
abbrev pub opening_with : List ℕ → List ℕ → Answered
opening_with ns al = record {
  farm = open_farm (get_or ns 0 0) (costs_in ns) al;
  chunks = [];
  said = open_said (get_or ns 0 0) (costs_in ns) al;
}

-- a call
abbrev pub called : Farm → Call → Answered
called f c = record { farm = handed f c; chunks = (noted f c).lines; said = reply f c }

-- what is asked for in its turn, by n numbers and a farm's allowances
abbrev pub answer_to : Farm → Asks → ℕ → List ℕ → List ℕ → Answered
answer_to f an_opening n ns al = opening_with ns al
answer_to f (a_call g) n ns al = called f (g n ns)
answer_to f no_call n ns al = unread f

-- out of its turn it cannot be read
unfoldable pub answered_as : Farm → Asks → ℕ → List ℕ → List ℕ → Answered
answered_as f a n ns al = cond (in_turn a f.opened) (answer_to f a n ns al) (unread f)

-- a line of these numbers that asks for this
abbrev pub answered_with : Farm → Asks → List ℕ → Answered
answered_with f a ns = answered_as f a (length ns) ns (allowances_of ns)

-- a line
unfoldable pub answered : Farm → List ℕ → Answered
answered f bs = answered_with f (line_asks bs) (numbers_of bs)

-- ---- Input that comes in blocks

-- what has come of a line that has not ended; of a longer line only that it is too long
pub data Pending : Type 0 where
  part : List ℕ → Pending
  long : Pending

-- one byte more
abbrev pub kept : Pending → ℕ → Pending
kept (part l) b = cond (ltb (length l) longest) (part (l ++ b ∷ [])) long
kept long b = long

-- the answer of a line that ends
abbrev pub ended : Farm → Pending → Answered
ended f (part l) = answered f l
ended f long = unread f

-- what bytes come to: the farm, what is pending, and what is printed
pub record Fed : Type 0 where
  pub farm : Farm
  pub pending : Pending
  pub text : List ℕ

abbrev pub behind : List ℕ → Fed → Fed
behind t x = record { farm = x.farm; pending = x.pending; text = t ++ x.text }

-- a newline ends a line
unfoldable pub feed : Farm → Pending → List ℕ → Fed
feed f p [] = record { farm = f; pending = p; text = [] }
feed f p (b ∷ bs) =
    cond (eqb b newline) (behind (answered_text (ended f p)) (feed (ended f p).farm (part []) bs))
    (feed f (kept p b) bs)

-- the end of the input: what is pending is a line if it is not empty
abbrev pub at_end : Farm → Pending → List ℕ
at_end f (part []) = []
at_end f (part (b ∷ bs)) = answered_text (answered f (b ∷ bs))
at_end f long = answered_text (unread f)
