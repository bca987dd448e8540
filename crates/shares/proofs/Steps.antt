-- The lemmas of specs/ that a function's steps need; its attribute names them.
use Rattle.shares.specs.Capacity.{first_used, capacity_one, capacity_no_node, capacity_snoc, left_snoc, left_no_node, longer}
use Rattle.shares.specs.Least.{earliest_same, earliest_stays, earliest_short, one_within}
use Rattle.shares.specs.Answers.{answered_is, fewest_refused, fewest_nothing, earliest_refused, earliest_answer, earliest_nothing, earliest_beyond, shares_refused, greedy_no_node, greedy_stops, greedy_more, greedy_whole}

pub ruleset next = (first_used)

pub ruleset fewest = (answered_is, fewest_refused, fewest_nothing, capacity_no_node, capacity_snoc, left_no_node, left_snoc)

pub ruleset one = (capacity_one, one_within, earliest_short)

pub ruleset earliest = (answered_is, earliest_refused, earliest_nothing, earliest_beyond, earliest_answer)

pub ruleset greedy = (answered_is, shares_refused, greedy_no_node, greedy_stops, greedy_more, greedy_whole)

pub ruleset least = (longer, earliest_same, earliest_stays, earliest_short)
