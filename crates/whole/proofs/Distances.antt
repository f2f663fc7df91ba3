-- The distance of two natural numbers.
use Rattle.std.proofs.Common.{◌≡◌, ℕ, ◌+◌, ◌-◌, pos, ◌-ℤ◌, unsigned_abs, arith}
use borrow.Author.Differences.{ints}

abbrev pub gap : ℕ → ℕ → ℕ
gap a b = (a - b) + (b - a)

pub pos_gap : (a b : ℕ) → unsigned_abs (pos a -ℤ pos b) ≡ gap a b
pos_gap a b = omega (arith, ints)
