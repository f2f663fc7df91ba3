-- The sign of a product, and its size.
use Rattle.std.proofs.Common.{◌≡◌, ℕ, ◌*◌, Bool, true, false, not, ◌*ℤ◌, arith}
use mathlib.Core.Bool.{beq}
use borrow.Author.Differences.{ints}
use Rattle.std.proofs.lemmas.Nat.{mul-lt}
use Rattle.rounding.specs.Rounding.{signed}

pub signed_product : (a b : Bool) (m n : ℕ) → signed a m *ℤ signed b n ≡ signed (not (beq a b)) (m * n)
signed_product false false m n = grind (arith, ints)
signed_product false true m n = grind (arith, ints)
signed_product true false m n = grind (arith, ints)
signed_product true true m n = grind (arith, ints)

-- the product of two terms has their sign, and its size is below the product of what theirs are below
pub ruleset products_of_terms = (signed_product, mul-lt)
