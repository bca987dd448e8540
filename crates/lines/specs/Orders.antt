-- What the code makes of a row, for src/step.rt: an order, by the sort of call that the row asks for. It is answered what the row asks for.
use Rattle.std.specs.Prelude.{◌≡◌, refl, List, Bool, true, false, not, ℕ, get_or, replicate, Option, None, Some}
use Rattle.std.proofs.Common.{ap}
use Rattle.std.proofs.lemmas.Bool.{false≢true}
use Rattle.walk.specs.Model.{no_chunk}
use Rattle.planner.specs.Model.{Farm}
use Rattle.planner.specs.Call.{Call, offer, quote, withdraw, move, account}
use Rattle.reading.specs.declared.Kind.{Kind}
use Rattle.reading.specs.declared.Kind.TheVariants as kind
use Rattle.lines.specs.declared.Command.{Command}
use Rattle.lines.specs.declared.Command.TheVariants as command
use Rattle.lines.specs.declared.Query.{Query}
use Rattle.lines.specs.declared.Query.TheVariants as query
use Rattle.lines.specs.declared.Order.{Order}
use Rattle.lines.specs.declared.Order.TheVariants as order
use Rattle.lines.specs.Model.{offer_in, lent, asked, in_turn, Answered, unread, opening_with, called, answer_to}

-- the call that a command is
abbrev pub command_call : Command → Call
command_call (command.Offer o) = offer o
command_call (command.Withdraw n) = withdraw n

-- the call that a query is
abbrev pub query_call : Query → Call
query_call (query.Quote o) = quote o
query_call (query.Account s) = account s

-- what a row of a kind, by its n numbers, asks for, if that can be read
abbrev pub order_of : Kind → ℕ → List ℕ → Option Order
order_of kind.Farm n ns = Some order.Open
order_of kind.Job n ns = Some (order.Command (command.Offer (offer_in n ns)))
order_of kind.Clock n ns = Some (order.Clock (get_or ns 0 0))
order_of kind.Account n ns = Some (order.Query (query.Account (get_or ns 0 0)))
order_of kind.Withdraw n ns = Some (order.Command (command.Withdraw (get_or ns 0 0)))
order_of kind.Quote n ns = Some (order.Query (query.Quote (offer_in n ns)))
order_of kind.Unreadable n ns = None

-- in its turn: an opening before an opened farm, a call after it
abbrev pub order_turn : Option Order → Bool → Bool
order_turn (Some order.Open) opened = not opened
order_turn (Some (order.Command c)) opened = opened
order_turn (Some (order.Query q)) opened = opened
order_turn (Some (order.Clock t)) opened = opened
order_turn None opened = false

-- what it is answered in its turn, by the numbers of the row and a farm's allowances
abbrev pub order_answer : Farm → Option Order → List ℕ → List ℕ → Answered
order_answer f (Some order.Open) ns al = opening_with ns al
order_answer f (Some (order.Command c)) ns al = called f (command_call c)
order_answer f (Some (order.Query q)) ns al = called f (query_call q)
order_answer f (Some (order.Clock t)) ns al = called f (move t (replicate lent no_chunk))
order_answer f None ns al = unread f

-- A row is in its turn where its order is, and answered what its order is.
pub order_is : (f : Farm) (k : Kind) (n : ℕ) (ns al : List ℕ) (o : Bool) → (in_turn (asked k) o ≡ order_turn (order_of k n ns) o) × (answer_to f (asked k) n ns al ≡ order_answer f (order_of k n ns) ns al)
order_is f kind.Farm n ns al o = (refl, refl)
order_is f kind.Job n ns al o = (refl, refl)
order_is f kind.Clock n ns al o = (refl, refl)
order_is f kind.Account n ns al o = (refl, refl)
order_is f kind.Withdraw n ns al o = (refl, refl)
order_is f kind.Quote n ns al o = (refl, refl)
order_is f kind.Unreadable n ns al o = (refl, refl)

abbrev opens : Option Order → Bool
opens (Some order.Open) = true
opens (Some (order.Command c)) = false
opens (Some (order.Query q)) = false
opens (Some (order.Clock t)) = false
opens None = false

-- Only a `farm` line opens a farm.
pub open_kind : (k : Kind) (n : ℕ) (ns : List ℕ) → order_of k n ns ≡ Some order.Open → k ≡ kind.Farm
open_kind kind.Farm n ns e = refl
open_kind kind.Job n ns e = absurd (false≢true (ap opens e))
open_kind kind.Clock n ns e = absurd (false≢true (ap opens e))
open_kind kind.Account n ns e = absurd (false≢true (ap opens e))
open_kind kind.Withdraw n ns e = absurd (false≢true (ap opens e))
open_kind kind.Quote n ns e = absurd (false≢true (ap opens e))
open_kind kind.Unreadable n ns e = absurd (false≢true (ap opens e))
