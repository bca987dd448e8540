-- What the functions promise: a line, a block, the end of the input.
use Rattle.std.specs.Prelude.{◌≡◌, List, [], cond, ℕ, ◌+◌, ◌≤◌, ◌<◌, Bool, true, false, not, ◌&&◌, leb, length, replicate, Option, None}
use Rattle.walk.specs.Model.{no_chunk}
use Rattle.planner.specs.Model.{Farm, meant}
use Rattle.planner.specs.Call.{move}
use Rattle.text.specs.Writing.{WroteWithin}
use Rattle.protocol.specs.declared.Progress.{Progress}
use Rattle.protocol.specs.declared.Session.{Session}
use Rattle.lines.specs.declared.Order.{Order}
use Rattle.lines.specs.Orders.{order_turn}
use Rattle.lines.specs.Model.{lent, Answered, answered_text, called, Pending, part, ended, feed, at_end}
use Rattle.lines.specs.Feeding.{stretch}
use Rattle.lines.specs.Rows.{pending_of, none_pending}
use Rattle.lines.specs.AnswerLines.{largest}

-- the farm of a day
abbrev pub day_farm : Session → Farm
day_farm s = meant s.farm

-- a line that is answered on the day s: what it prints stands from a place on, and it leaves the day t
pub record Puts (x : Answered) (at : ℕ) (entry exit : List ℕ) (r : ℕ) (s t : Session) : Type 0 where
  pub wrote : WroteWithin largest (answered_text x) at entry exit r
  pub farm : day_farm t ≡ x.farm
  pub rest : t.rest ≡ s.rest

-- an order that is kept where it is in its turn
abbrev pub order_kept : Option Order → Bool → Option Order
order_kept o opened = cond (order_turn o opened) o None

-- a clock move that is lent the program's records
abbrev pub moving : Farm → ℕ → Answered
moving f t = called f (move t (replicate lent no_chunk))

-- a block from a place on, fed to a day so far, its farm and its pending line: it stops at its end, or where the room
-- left may not hold the next answer. It leaves the day t
pub record Took (f : Farm) (p : Pending) (block : List ℕ) (from : ℕ) (entry exit : List ℕ) (r : Progress) (t : Session) : Type 0 where
  pub onward : from ≤ r.next
  pub inside : from ≤ length block → r.next ≤ length block
  pub stops : r.next < length block → length entry < r.written + largest
  pub farm : day_farm t ≡ (feed f p (stretch from r.next block)).farm
  pub pending : pending_of t.rest ≡ (feed f p (stretch from r.next block)).pending
  pub wrote : WroteWithin (length entry) (feed f p (stretch from r.next block)).text 0 entry exit r.written

-- the end of the input; nothing is written where the room may not hold the answer
abbrev pub end_text : Farm → Pending → ℕ → List ℕ
end_text f p room = cond (leb largest room) (at_end f p) []

-- whether a line ends there and is answered: something is pending, and the room may hold the answer
abbrev pub ends_line : Pending → ℕ → Bool
ends_line p room = leb largest room && not (none_pending p)

-- the end of the input of a day s, which leaves the day t: the day after the line that ends there, else the very day
pub record Ended (room : ℕ) (s t : Session) : Type 0 where
  pub farm : ends_line (pending_of s.rest) room ≡ true → day_farm t ≡ (ended (day_farm s) (pending_of s.rest)).farm
  pub pending : ends_line (pending_of s.rest) room ≡ true → pending_of t.rest ≡ part []
  pub same : ends_line (pending_of s.rest) room ≡ false → t ≡ s
