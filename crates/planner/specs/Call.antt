-- A call on an opened farm, as a value: which one it is, and in one clause each what it answers, the farm that it hands
-- back and what is noted of it. Everything here is a definition; nothing is assumed.
use Rattle.std.specs.Prelude.{ℕ, List, [], ◌∷◌, Bool, cond, eqb, length, get_or, take}
use Rattle.walk.specs.declared.Job.{Job}
use Rattle.walk.specs.declared.Chunk.{Chunk}
use Rattle.answers.specs.declared.Offer.{Offer}
use Rattle.planner.specs.Model.{Farm}
use Rattle.planner.specs.Calls.{Said, compute_of, planned, offer_said, offer_farm, quote_said, withdraw_said, withdraw_farm, account_said}
use Rattle.planner.specs.Clock.{move_said, move_farm, move_memory}

-- an offer; a quote of one; the withdrawal of a job by its number; a move to a time, lent a timetable of any length and
-- contents; or the account of a show
pub data Call : Type 0 where
  offer : Offer → Call
  quote : Offer → Call
  withdraw : ℕ → Call
  move : ℕ → List Chunk → Call
  account : ℕ → Call

-- ---- What is noted

-- a job as it was accepted
pub record Accepted : Type 0 where
  pub number : ℕ
  pub show : ℕ
  pub size : ℕ
  pub compute : ℕ
  pub deadline : ℕ

-- the job of an offer, with this number and the compute cost that is given or the farm's
abbrev pub accepted_from : Farm → Offer → ℕ → Accepted
accepted_from f o n = record {
  number = n;
  show = o.show;
  size = o.size;
  compute = compute_of f o;
  deadline = o.deadline;
}

-- the chunks issued, the jobs accepted, the numbers of the jobs withdrawn, the plans that replaced the old one, and the
-- times that the clock was moved to
pub record Noted : Type 0 where
  pub lines : List Chunk
  pub jobs : List Accepted
  pub gone : List ℕ
  pub plans : List (List Job)
  pub times : List ℕ

abbrev pub nothing : Noted
nothing = record { lines = []; jobs = []; gone = []; plans = []; times = [] }

-- a job is accepted, and this plan replaces the old one
abbrev pub accepting : Accepted → List Job → Noted
accepting x js = record { lines = []; jobs = x ∷ []; gone = []; plans = js ∷ []; times = [] }

-- the job of a number is withdrawn
abbrev pub withdrawing : ℕ → Noted
withdrawing n = record { lines = []; jobs = []; gone = n ∷ []; plans = []; times = [] }

-- the clock is moved to a time, and these chunks are issued
abbrev pub moving : ℕ → List Chunk → Noted
moving t xs = record { lines = xs; jobs = []; gone = []; plans = []; times = t ∷ [] }

-- ---- What a call does

-- what it answers, the farm that it hands back, and what is noted of it where it is granted
pub record Does : Type 0 where
  pub said : Said
  pub farm : Farm
  pub notes : Noted

-- it says so, hands back the farm that it was given, and nothing is noted
abbrev pub only_says : Farm → Said → Does
only_says f s = record { said = s; farm = f; notes = nothing }

-- The numbers noted are those that it answers, and the chunks of a move as many records as it answers, from the front
-- of the memory that it hands back.
abbrev pub does : Farm → Call → Does
does f (offer o) = record {
  said = offer_said f o;
  farm = offer_farm f o;
  notes = accepting (accepted_from f o (get_or (offer_said f o).values 0 0)) (planned f o);
}
does f (quote o) = only_says f (quote_said f o)
does f (withdraw n) = record {
  said = withdraw_said f n;
  farm = withdraw_farm f n;
  notes = withdrawing (get_or (withdraw_said f n).values 0 0);
}
does f (move t m) = record {
  said = move_said f t (length m);
  farm = move_farm f t (length m);
  notes = moving t (take (get_or (move_said f t (length m)).values 1 0) (move_memory f t m));
}
does f (account s) = only_says f (account_said f s)

-- what it answers
abbrev pub reply : Farm → Call → Said
reply f c = (does f c).said

-- the farm that it hands back
abbrev pub handed : Farm → Call → Farm
handed f c = (does f c).farm

-- whether all its questions were answered yes
abbrev pub is_granted : Farm → Call → Bool
is_granted f c = eqb (reply f c).number 0

-- what is noted of it: nothing where it is refused
abbrev pub noted : Farm → Call → Noted
noted f c = cond (is_granted f c) (does f c).notes nothing
