-- How many bytes the numbers of a batch take.
use Rattle.std.proofs.Common.{ℕ, ◌≤◌, ◌<◌, length, decimal, arith}
use Rattle.std.proofs.lemmas.Fmt.{length-decimal-le}
use Rattle.std.proofs.lemmas.Grind.{common_steps}

-- the number of a row
pub row_digits : (n : ℕ) → n < 100000 → length (decimal n) ≤ 5
row_digits n small = length-decimal-le 5 n (omega arith) (omega arith) (omega arith)

-- a count of turns
pub count_digits : (n : ℕ) → n ≤ 1000000 → length (decimal n) ≤ 7
count_digits n small = length-decimal-le 7 n (omega arith) (omega arith) (omega arith)

pub ruleset lengths = (row_digits, count_digits, common_steps)
