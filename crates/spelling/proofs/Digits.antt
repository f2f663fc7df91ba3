-- The text of a number of one digit is that digit.
use Rattle.std.proofs.lemmas.Fmt.{decimal_digit}

pub ruleset one_digit = (decimal_digit)
