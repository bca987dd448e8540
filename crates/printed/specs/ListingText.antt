-- Document 01's listing: the whole text that it prints, worked out by the checker.
use Rattle.std.specs.Prelude.{◌≡◌, refl, List, [], ◌∷◌, ℕ}
use Rattle.shares.specs.Model.{first, left, capacity, cut, greedy, earliest, sum}
use Rattle.keys.specs.Model.{no_later, insert_key, sort_onto}
use Rattle.booking.specs.Model.{node_keys, ranked, search, booking_of, booked_at, book_of}
use Rattle.walk.specs.Model.{latest}
use Rattle.soundness.specs.Model.{none_of, all_differ, job_within, shares_kept, job_kept, job_passes, jobs_pass}
use Rattle.planner.specs.Model.{chunks_from, spans_of_all, afters, fit_all, keys_by, plan, books_all, all_at_most, all_at_least, costs_within}
use Rattle.planner.specs.Passes.{counts_within, times_within, waiting_pass, passes_of}
use Rattle.planner.specs.Calls.{open_said, open_farm, account_said, of_number, offer_asked, offer_said, offer_farm}
use Rattle.planner.specs.Clock.{keep, lines_of_all, raised, move_asked, move_said, move_farm, move_memory}
use Rattle.text.specs.Model.{value_from}
use Rattle.reading.specs.Model.{same, fields, all_digits, all_numbers, kind_among, kind_of, readable}
use Rattle.printing.specs.Model.{digits, reached, decimal, tabbed, line_text}
use Rattle.lines.specs.Model.{answer_text, chunk_texts, line_asks, answered_as, answered}
use Rattle.printed.specs.Model.{lines_in, answers, day_text}

-- its lines, a 0 for r put into the first and a tab for each space
abbrev pub listed_lines : List ℕ
listed_lines =
    102 ∷ 97 ∷ 114 ∷ 109 ∷ 9 ∷ 51 ∷ 9 ∷ 49 ∷ 9 ∷ 50 ∷ 9 ∷ 48 ∷ 9 ∷ 48 ∷ 9 ∷ 48 ∷ 9 ∷ 51 ∷ 48 ∷ 9 ∷ 48 ∷ 10
    ∷ 106 ∷ 111 ∷ 98 ∷ 9 ∷ 49 ∷ 9 ∷ 49 ∷ 48 ∷ 9 ∷ 49 ∷ 56 ∷ 10
    ∷ 106 ∷ 111 ∷ 98 ∷ 9 ∷ 50 ∷ 9 ∷ 51 ∷ 9 ∷ 50 ∷ 48 ∷ 10
    ∷ 106 ∷ 111 ∷ 98 ∷ 9 ∷ 50 ∷ 9 ∷ 50 ∷ 9 ∷ 49 ∷ 50 ∷ 10
    ∷ 99 ∷ 108 ∷ 111 ∷ 99 ∷ 107 ∷ 9 ∷ 49 ∷ 48 ∷ 10
    ∷ 97 ∷ 99 ∷ 99 ∷ 111 ∷ 117 ∷ 110 ∷ 116 ∷ 9 ∷ 49 ∷ 10
    ∷ 97 ∷ 99 ∷ 99 ∷ 111 ∷ 117 ∷ 110 ∷ 116 ∷ 9 ∷ 50 ∷ 10 ∷ []

-- what the papers print: document 01's lines, with the columns of show 1 that document 02 (vi) makes of it, and (vii)'s end of computing last on each `chunk` line
abbrev pub listed_text : List ℕ
listed_text =
    111 ∷ 112 ∷ 101 ∷ 110 ∷ 9 ∷ 51 ∷ 9 ∷ 50 ∷ 10
    ∷ 121 ∷ 101 ∷ 115 ∷ 9 ∷ 49 ∷ 9 ∷ 48 ∷ 9 ∷ 49 ∷ 56 ∷ 9 ∷ 50 ∷ 10
    ∷ 121 ∷ 101 ∷ 115 ∷ 9 ∷ 50 ∷ 9 ∷ 49 ∷ 48 ∷ 9 ∷ 49 ∷ 57 ∷ 9 ∷ 49 ∷ 10
    ∷ 110 ∷ 111 ∷ 9 ∷ 56 ∷ 10
    ∷ 99 ∷ 104 ∷ 117 ∷ 110 ∷ 107 ∷ 9 ∷ 49 ∷ 9 ∷ 49 ∷ 9 ∷ 49 ∷ 9 ∷ 54 ∷ 9 ∷ 48 ∷ 9 ∷ 54 ∷ 9 ∷ 49 ∷ 56 ∷ 9 ∷ 49 ∷ 56 ∷ 10
    ∷ 99 ∷ 104 ∷ 117 ∷ 110 ∷ 107 ∷ 9 ∷ 49 ∷ 9 ∷ 49 ∷ 9 ∷ 50 ∷ 9 ∷ 52 ∷ 9 ∷ 54 ∷ 9 ∷ 49 ∷ 48 ∷ 9 ∷ 49 ∷ 56 ∷ 9 ∷ 49 ∷ 56 ∷ 10
    ∷ 99 ∷ 104 ∷ 117 ∷ 110 ∷ 107 ∷ 9 ∷ 50 ∷ 9 ∷ 50 ∷ 9 ∷ 51 ∷ 9 ∷ 51 ∷ 9 ∷ 49 ∷ 48 ∷ 9 ∷ 49 ∷ 51 ∷ 9 ∷ 49 ∷ 57 ∷ 9 ∷ 49 ∷ 57 ∷ 10
    ∷ 99 ∷ 108 ∷ 111 ∷ 99 ∷ 107 ∷ 9 ∷ 49 ∷ 48 ∷ 9 ∷ 51 ∷ 10
    ∷ 97 ∷ 99 ∷ 99 ∷ 111 ∷ 117 ∷ 110 ∷ 116 ∷ 9 ∷ 49 ∷ 9 ∷ 51 ∷ 48 ∷ 9 ∷ 48 ∷ 10
    ∷ 97 ∷ 99 ∷ 99 ∷ 111 ∷ 117 ∷ 110 ∷ 116 ∷ 9 ∷ 50 ∷ 9 ∷ 57 ∷ 9 ∷ 57 ∷ 10 ∷ []

-- The listing prints what the papers say, byte for byte: `open`, `yes`, `no`, the chunk lines, `clock` and the columns.
pub listing_text : day_text listed_lines ≡ listed_text
unfolding first left capacity cut greedy earliest latest sum no_later insert_key sort_onto node_keys ranked search booking_of booked_at book_of chunks_from spans_of_all afters fit_all keys_by plan books_all all_at_most all_at_least costs_within counts_within times_within job_within shares_kept job_kept job_passes jobs_pass none_of all_differ waiting_pass passes_of open_said open_farm of_number offer_asked offer_said offer_farm keep lines_of_all raised move_asked move_said move_farm move_memory account_said value_from same fields all_digits all_numbers kind_among kind_of readable digits reached decimal tabbed line_text answer_text chunk_texts line_asks answered_as answered lines_in answers
listing_text = refl
