-- Cases A to M of document 01, "Windows to try", cases of a job's own compute cost, of a withdrawal, of the way back, of quotes and of the end of computing, each
-- a table and a theorem about the model.
-- The checker works each row out.
use Rattle.std.specs.Prelude.{ℕ, ◌+◌, ◌≡◌, refl, List, [], ◌∷◌, ◌++◌, map, false, replicate}
use Rattle.lists.specs.Laws.{All}
use Rattle.limits.specs.declared.FarmCosts.{FarmCosts}
use Rattle.shares.specs.Model.{sum, first, left, capacity, cut, greedy, earliest}
use Rattle.keys.specs.Model.{no_later, insert_key, sort_onto}
use Rattle.booking.specs.Best.{units}
use Rattle.booking.specs.Model.{node_keys, ranked, search, booking_of, booked_at, book_of}
use Rattle.soundness.specs.Model.{none_of, all_differ, job_within, shares_kept, job_kept, job_passes, jobs_pass}
use Rattle.walk.specs.Model.{no_chunk, latest}
use Rattle.answers.specs.declared.Offer.{Offer}
use Rattle.limits.specs.Model.{all_at_most, all_at_least, costs_within}
use Rattle.planner.specs.Model.{Farm, chunks_from, spans_of_all, afters, waiting_of, walk_terms_of, free_times_of, by_deadline, keys_by, plan, books_all, fit_all}
use Rattle.planner.specs.Passes.{counts_within, times_within, waiting_pass, passes_of}
use Rattle.demands.specs.CallLists as call
use Rattle.demands.specs.CallLists.{Call, handed}
use Rattle.planner.specs.Calls.{has_number, of_number, without, Yes, Quote, Said, granted, refused, open_farm, offer_of, offer_with, offer_asked, offer_said, offer_farm, quote_said, withdraw_said, withdraw_farm}
use Rattle.planner.specs.Clock.{keep, raised, lines_of_all, issued, move_asked, move_farm}

-- what comes of an offer: the answer, and the shares of the new job in the farm that is handed back (none where it is refused)
pub record Outcome : Type 0 where
  pub answer : Said
  pub shares : List ℕ

-- a row of the table: a farm to open, the calls made before, the offer in question, and what is expected of it
pub record Row : Type 0 where
  pub nodes : ℕ
  pub costs : FarmCosts
  pub allowances : List ℕ
  pub before : List Call
  pub offer : Offer
  pub expected : Outcome

-- job, start, finish, count of nodes, and shares
abbrev pub yes : ℕ → ℕ → ℕ → ℕ → List ℕ → Outcome
yes j s t k xs = record { answer = granted Yes (j ∷ s ∷ t ∷ k ∷ []); shares = xs }

-- refused with a number
abbrev pub no : ℕ → Outcome
no n = record { answer = refused n; shares = [] }

-- the farm once each call of a list is made
unfoldable pub made : Farm → List Call → Farm
made f [] = f
made f (c ∷ cs) = made (handed f c) cs

-- an offer made to a farm
unfoldable pub outcome : Farm → Offer → Outcome
outcome f o = record {
  answer = offer_said f o;
  shares = units (of_number (f.used + 1) (waiting_of (offer_farm f o))).booking;
}

-- the farm that the offer in question is made to
abbrev pub farm_of : Row → Farm
farm_of r = made (open_farm r.nodes r.costs r.allowances) r.before

-- a row as the model has it
unfoldable pub run : Row → Outcome
run r = outcome (farm_of r) r.offer

-- the model gives what the row expects
abbrev pub Right : Row → Type 0
Right r = run r ≡ r.expected

-- ---- The table

-- m, p, ST, SC, r
abbrev pub costs_of : ℕ → ℕ → ℕ → ℕ → ℕ → FarmCosts
costs_of m p st sc r = record { send = m; compute = p; linksetup = st; nodesetup = sc; returning = r }

-- one offer to a new farm of one show: all nodes and the link free, start 0, so that the window is the deadline
abbrev pub alone : ℕ → FarmCosts → ℕ → ℕ → Outcome → Row
alone n c z w e = record {
  nodes = n;
  costs = c;
  allowances = 0 ∷ [];
  before = [];
  offer = offer_of 1 z w;
  expected = e;
}

-- jobs 1 and 2 of the printed listing
abbrev pub listed : List Call
listed = call.offer (offer_of 1 10 18) ∷ call.offer (offer_of 2 3 20) ∷ []

-- an offer of size 2 after them and these calls
abbrev pub after_listed : List Call → ℕ → Outcome → Row
after_listed cs d e = record {
  nodes = 3;
  costs = costs_of 1 2 0 0 0;
  allowances = 30 ∷ 0 ∷ [];
  before = listed ++ cs;
  offer = offer_of 2 2 d;
  expected = e;
}

-- right after them, at clock 0
abbrev pub after_listing : ℕ → Outcome → Row
after_listing d e = after_listed [] d e

abbrev pub cases : List Row
cases =
    -- A
    alone 64 (costs_of 1 2 0 0 0) 10 30 (yes 1 0 30 1 (10 ∷ []))
    -- B
    ∷ alone 64 (costs_of 1 2 0 0 0) 10 29 (yes 1 0 18 2 (6 ∷ 4 ∷ []))
    -- C
    ∷ alone 64 (costs_of 1 2 0 0 0) 10 18 (yes 1 0 18 2 (6 ∷ 4 ∷ []))
    -- D
    ∷ alone 64 (costs_of 1 2 0 0 0) 10 17 (yes 1 0 15 3 (5 ∷ 3 ∷ 2 ∷ []))
    -- E: not on three nodes
    ∷ alone 3 (costs_of 1 2 0 0 0) 10 14 (no 8)
    -- F
    ∷ alone 64 (costs_of 10 20 0 0 0) 4 80 (yes 1 0 80 2 (2 ∷ 2 ∷ []))
    -- G
    ∷ alone 64 (costs_of 10 20 0 0 0) 4 75 (yes 1 0 60 3 (2 ∷ 1 ∷ 1 ∷ []))
    -- H
    ∷ alone 64 (costs_of 1 2 2 1 0) 3 12 (yes 1 0 12 1 (3 ∷ []))
    -- I
    ∷ alone 64 (costs_of 1 2 2 1 0) 3 10 (yes 1 0 10 2 (2 ∷ 1 ∷ []))
    -- J: on no count of nodes
    ∷ alone 64 (costs_of 1 2 2 1 0) 3 9 (no 8)
    -- K
    ∷ after_listing 24 (yes 3 18 24 1 (2 ∷ []))
    -- L
    ∷ after_listing 22 (yes 3 18 22 2 (1 ∷ 1 ∷ []))
    -- M
    ∷ after_listing 21 (no 8)
    ∷ []

-- A job's own compute cost, document 02 (i): the farm of case A with a job of cost p, ..
abbrev pub alone_at : ℕ → ℕ → ℕ → Outcome → Row
alone_at p z w e = record {
  nodes = 64;
  costs = costs_of 1 2 0 0 0;
  allowances = 0 ∷ [];
  before = [];
  offer = offer_with 1 z w p;
  expected = e;
}

-- .. and a job of 2 units by 6 with a cost of p on two nodes, where a job of 2 units by 11 waits
abbrev pub before_another : ℕ → Outcome → Row
before_another p e = record {
  nodes = 2;
  costs = costs_of 1 4 0 0 0;
  allowances = 0 ∷ [];
  before = call.offer (offer_of 1 2 11) ∷ [];
  offer = offer_with 1 2 6 p;
  expected = e;
}

abbrev pub own_cases : List Row
own_cases =
    -- one node in 20 ticks at a cost of 1, where case A takes 30; at the farm's cost, case C
    alone_at 1 10 20 (yes 1 0 20 1 (10 ∷ []))
    ∷ alone_at 2 10 18 (yes 1 0 18 2 (6 ∷ 4 ∷ []))
    -- a cheaper job is refused where a dearer one is taken: at 2 it takes node 1 to 6, and the other has too little time on what is left; at 3 it takes
    -- both nodes to 5, and the other follows on both
    ∷ before_another 2 (no 8)
    ∷ before_another 3 (yes 2 0 5 2 (1 ∷ 1 ∷ []))
    ∷ before_another 4 (no 8)
    -- outside the limits
    ∷ before_another 0 (no 2)
    ∷ before_another 1_000_001 (no 2)
    ∷ []

-- A withdrawal, document 02 (ii): the offer of size 2 after jobs 1 and 2 of the printed listing, one of which was withdrawn, ..
abbrev pub listed_without : ℕ → ℕ → Outcome → Row
listed_without n d e = after_listed (call.withdraw n ∷ []) d e

-- .. and one unit by tick 40, after three jobs on two nodes and these calls
abbrev pub late_unit : List Call → Outcome → Row
late_unit cs e = record {
  nodes = 2;
  costs = costs_of 1 1 0 0 0;
  allowances = 0 ∷ [];
  before = call.offer (offer_of 1 1 2) ∷ call.offer (offer_of 1 5 10) ∷ call.offer (offer_of 1 8 20) ∷ cs;
  offer = offer_of 1 1 40;
  expected = e;
}

-- jobs 1 to 3 start at 0, 2 and 9; once job 1 is withdrawn a walk puts job 2 on one node, from 0 to 10, and what is left is too little for job 3
abbrev pub old_job_fails : Row
old_job_fails = late_unit (call.withdraw 1 ∷ []) (no 8)

abbrev pub withdraw_cases : List Row
withdraw_cases =
    -- what was refused before (12 ticks, and case M) is taken once a job has left
    listed_without 1 12 (yes 3 0 6 1 (2 ∷ []))
    ∷ listed_without 2 21 (yes 3 10 16 1 (2 ∷ []))
    -- no job has the number 3, so nothing has left
    ∷ listed_without 3 21 (no 8)
    -- the late unit is taken where nothing has left ..
    ∷ late_unit [] (yes 4 19 21 1 (1 ∷ []))
    -- .. and refused once job 1 has: the walk fails at an old job
    ∷ old_job_fails
    -- it is taken again once job 2 has begun as planned, or job 3 has left too
    ∷ late_unit (call.withdraw 1 ∷ call.move 2 (replicate 2 no_chunk) ∷ []) (yes 4 19 21 1 (1 ∷ []))
    ∷ late_unit (call.withdraw 1 ∷ call.withdraw 3 ∷ []) (yes 4 5 7 1 (1 ∷ []))
    ∷ []

-- The way back, document 02 (iii): the farm of case A where a unit takes r ticks to come back, ..
abbrev pub alone_back : ℕ → ℕ → Offer → Outcome → Row
alone_back n r o e = record {
  nodes = n;
  costs = costs_of 1 2 0 0 r;
  allowances = 0 ∷ [];
  before = [];
  offer = o;
  expected = e;
}

-- .. and an offer of show 2 where a job of 10 units by 24 waits, or these calls were made after it, r being 1
abbrev pub behind_back : ℕ → List Call → Offer → Outcome → Row
behind_back n cs o e = record {
  nodes = n;
  costs = costs_of 1 2 0 0 1;
  allowances = 30 ∷ 0 ∷ [];
  before = call.offer (offer_of 1 10 24) ∷ cs;
  offer = o;
  expected = e;
}

abbrev pub return_cases : List Row
return_cases =
    -- one node in 40 ticks where case A takes 30, and two in 24 where case C takes 18: a unit takes 1 tick to send, 2 to compute and 1 to come back
    alone_back 64 1 (offer_of 1 10 40) (yes 1 0 40 1 (10 ∷ []))
    ∷ alone_back 64 1 (offer_of 1 10 39) (yes 1 0 24 2 (6 ∷ 4 ∷ []))
    -- in case C's 18 ticks it takes four nodes, and is refused on three
    ∷ alone_back 64 1 (offer_of 1 10 18) (yes 1 0 16 4 (4 ∷ 3 ∷ 2 ∷ 1 ∷ []))
    ∷ alone_back 3 1 (offer_of 1 10 18) (no 8)
    -- a cost of the job's own does not take the way back's place: at 1, case C
    ∷ alone_back 64 1 (offer_with 1 10 18 1) (yes 1 0 18 2 (6 ∷ 4 ∷ []))
    -- its limits are those of p alone
    ∷ alone_back 64 10_000 (offer_with 1 10 18 1_000_001) (no 2)
    -- nothing comes back on the link: a job behind the first is sent from 10, when the sends of the 10 units have ended
    ∷ behind_back 3 [] (offer_of 2 3 25) (yes 2 10 22 1 (3 ∷ []))
    -- a node is free once its audio is back: node 2 has its 4 units back at 22, node 1 its 6 at 24
    ∷ behind_back 2 [] (offer_of 2 1 27) (yes 2 22 26 1 (1 ∷ []))
    ∷ behind_back 2 [] (offer_of 2 1 25) (no 8)
    ∷ behind_back 2 (call.move 0 (replicate 2 no_chunk) ∷ []) (offer_of 2 1 27) (yes 2 22 26 1 (1 ∷ []))
    ∷ []

-- Quotes, document 02 (iv): cases K, L and M asked as quotes, one after the other, ..
abbrev pub quoted : List Offer
quoted = offer_of 2 2 24 ∷ offer_of 2 2 22 ∷ offer_of 2 2 21 ∷ []

abbrev pub quotes_told : List Said
quotes_told = granted Quote (3 ∷ 18 ∷ 24 ∷ 1 ∷ []) ∷ granted Quote (3 ∷ 18 ∷ 22 ∷ 2 ∷ []) ∷ refused 8 ∷ []

-- .. and offers after them, which have the number and the booking that were quoted
abbrev pub quote_cases : List Row
quote_cases =
    after_listed (map call.quote quoted) 24 (yes 3 18 24 1 (2 ∷ []))
    ∷ after_listed (map call.quote quoted) 22 (yes 3 18 22 2 (1 ∷ 1 ∷ []))
    ∷ after_listed (map call.quote quoted) 21 (no 8)
    ∷ []

-- The end of computing, document 02 (vii): jobs of 6 units at the farm's compute cost of 5, at the same cost given, at 1 and at 9, where a unit takes 3 ticks to
-- come back
abbrev pub four_costs : List Call
four_costs = call.offer (offer_of 1 6 200) ∷ call.offer (offer_with 1 6 200 5) ∷ call.offer (offer_with 2 6 200 1) ∷ call.offer (offer_with 2 6 200 9) ∷ []

-- every row comes out as expected
pub cases_right : All Right cases
unfolding run made outcome open_farm offer_asked offer_said offer_farm of_number passes_of counts_within times_within waiting_pass costs_within all_at_most all_at_least jobs_pass job_passes job_within job_kept shares_kept none_of all_differ fit_all spans_of_all chunks_from afters keys_by plan books_all no_later insert_key sort_onto node_keys ranked search booking_of booked_at book_of latest sum first left capacity cut greedy earliest
cases_right = (refl, (refl, (refl, (refl, (refl, (refl, (refl, (refl, (refl, (refl, (refl, (refl, (refl, tt)))))))))))))

-- so does every row of a job's own compute cost
pub own_cases_right : All Right own_cases
unfolding run made outcome open_farm offer_asked offer_said offer_farm of_number passes_of counts_within times_within waiting_pass costs_within all_at_most all_at_least jobs_pass job_passes job_within job_kept shares_kept none_of all_differ fit_all spans_of_all chunks_from afters keys_by plan books_all no_later insert_key sort_onto node_keys ranked search booking_of booked_at book_of latest sum first left capacity cut greedy earliest
own_cases_right = (refl, (refl, (refl, (refl, (refl, (refl, (refl, tt)))))))

-- so does every row of a withdrawal
pub withdraw_cases_right : All Right withdraw_cases
unfolding run made outcome open_farm offer_asked offer_said offer_farm has_number of_number without withdraw_said withdraw_farm keep raised lines_of_all move_asked move_farm passes_of counts_within times_within waiting_pass costs_within all_at_most all_at_least jobs_pass job_passes job_within job_kept shares_kept none_of all_differ fit_all spans_of_all chunks_from afters keys_by plan books_all no_later insert_key sort_onto node_keys ranked search booking_of booked_at book_of latest sum first left capacity cut greedy earliest
withdraw_cases_right = (refl, (refl, (refl, (refl, (refl, (refl, (refl, tt)))))))

-- so does every row of the way back
pub return_cases_right : All Right return_cases
unfolding run made outcome open_farm offer_asked offer_said offer_farm has_number of_number without withdraw_said withdraw_farm keep raised lines_of_all move_asked move_farm passes_of counts_within times_within waiting_pass costs_within all_at_most all_at_least jobs_pass job_passes job_within job_kept shares_kept none_of all_differ fit_all spans_of_all chunks_from afters keys_by plan books_all no_later insert_key sort_onto node_keys ranked search booking_of booked_at book_of latest sum first left capacity cut greedy earliest
return_cases_right = (refl, (refl, (refl, (refl, (refl, (refl, (refl, (refl, (refl, (refl, tt))))))))))

-- so do the three quotes, and every row after them
pub quotes_told_lem : map (quote_said (made (open_farm 3 (costs_of 1 2 0 0 0) (30 ∷ 0 ∷ [])) listed)) quoted ≡ quotes_told
unfolding quote_said run made outcome open_farm offer_asked offer_said offer_farm has_number of_number without withdraw_said withdraw_farm keep raised lines_of_all move_asked move_farm passes_of counts_within times_within waiting_pass costs_within all_at_most all_at_least jobs_pass job_passes job_within job_kept shares_kept none_of all_differ fit_all spans_of_all chunks_from afters keys_by plan books_all no_later insert_key sort_onto node_keys ranked search booking_of booked_at book_of latest sum first left capacity cut greedy earliest
quotes_told_lem = refl

pub quote_cases_right : All Right quote_cases
unfolding run made outcome open_farm offer_asked offer_said offer_farm has_number of_number without withdraw_said withdraw_farm keep raised lines_of_all move_asked move_farm passes_of counts_within times_within waiting_pass costs_within all_at_most all_at_least jobs_pass job_passes job_within job_kept shares_kept none_of all_differ fit_all spans_of_all chunks_from afters keys_by plan books_all no_later insert_key sort_onto node_keys ranked search booking_of booked_at book_of latest sum first left capacity cut greedy earliest
quote_cases_right = (refl, (refl, (refl, tt)))

-- After that withdrawal a walk of the waiting jobs alone does not book them all, so that an offer walked behind them is refused with 8 however small it is.
pub old_job_fails_lem : books_all (walk_terms_of (farm_of old_job_fails)) (free_times_of (farm_of old_job_fails)) (by_deadline (waiting_of (farm_of old_job_fails))) ≡ false
unfolding made open_farm offer_asked offer_said offer_farm has_number of_number without withdraw_said withdraw_farm passes_of counts_within times_within waiting_pass costs_within all_at_most all_at_least jobs_pass job_passes job_within job_kept shares_kept none_of all_differ fit_all spans_of_all chunks_from afters keys_by plan books_all no_later insert_key sort_onto node_keys ranked search booking_of booked_at book_of latest sum first left capacity cut greedy earliest
old_job_fails_lem = refl

-- The old plan stands all the same, and is issued: jobs 2 and 3 as they were booked, by 10 and by 20.
pub old_plan_stands : issued (offer_farm (farm_of old_job_fails) old_job_fails.offer) 9
    ≡ record { job = 2; show = 1; node = 2; units = 3; start = 2; sent = 5; finish = 8; computed = 8 }
    ∷ record { job = 2; show = 1; node = 1; units = 2; start = 5; sent = 7; finish = 9; computed = 9 }
    ∷ record { job = 3; show = 1; node = 2; units = 5; start = 9; sent = 14; finish = 19; computed = 19 }
    ∷ record { job = 3; show = 1; node = 1; units = 3; start = 14; sent = 17; finish = 20; computed = 20 }
    ∷ []
unfolding made open_farm offer_asked offer_said offer_farm has_number of_number without withdraw_said withdraw_farm keep lines_of_all passes_of counts_within times_within waiting_pass costs_within all_at_most all_at_least jobs_pass job_passes job_within job_kept shares_kept none_of all_differ fit_all spans_of_all chunks_from afters keys_by plan books_all no_later insert_key sort_onto node_keys ranked search booking_of booked_at book_of latest sum first left capacity cut greedy earliest
old_plan_stands = refl

-- Each of the four has computed SC + 6 × its own p after its send, and is back 18 ticks later.
pub computing_ended : issued (made (open_farm 3 (costs_of 1 5 2 4 3) (0 ∷ 0 ∷ [])) four_costs) 200
    ≡ record { job = 1; show = 1; node = 1; units = 6; start = 0; sent = 8; finish = 60; computed = 42 }
    ∷ record { job = 2; show = 1; node = 2; units = 6; start = 8; sent = 16; finish = 68; computed = 50 }
    ∷ record { job = 3; show = 2; node = 3; units = 6; start = 16; sent = 24; finish = 52; computed = 34 }
    ∷ record { job = 4; show = 2; node = 3; units = 6; start = 52; sent = 60; finish = 136; computed = 118 }
    ∷ []
unfolding made open_farm offer_asked offer_said offer_farm has_number of_number without withdraw_said withdraw_farm keep lines_of_all passes_of counts_within times_within waiting_pass costs_within all_at_most all_at_least jobs_pass job_passes job_within job_kept shares_kept none_of all_differ fit_all spans_of_all chunks_from afters keys_by plan books_all no_later insert_key sort_onto node_keys ranked search booking_of booked_at book_of latest sum first left capacity cut greedy earliest
computing_ended = refl
