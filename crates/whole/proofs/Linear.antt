-- Linear arithmetic over ℤ in which a product is an unknown of its own.
use borrow.Author.Differences.{same_out, Apart-out, lt_out, le_out, same_in, below_in, at_most_in, sum_is_lem, neg_is}
use borrow.Author.Differences.{abs_is}

pub ruleset lin = (same_out, Apart-out, lt_out, le_out, same_in, below_in, at_most_in, sum_is_lem, neg_is, abs_is)
