-- The order of squares, and order and size on ℤ.
use Rattle.std.proofs.Common.{◌≡◌, ℕ, ◌*◌, ◌≤◌, ℤ, pos, ◌-ℤ◌, unsigned_abs, ◌≤ℤ◌, inl, inr, mul-le-mul, arith}
use Rattle.std.proofs.lemmas.Bool.{cases_lt}
use borrow.Author.Differences.{ints}

pub root : (m n : ℕ) → m * m ≤ n * n → m ≤ n
root m n h = elim (cases_lt n m) [ inl l ↦ absurd (omega (arith, mul-le-mul l l)) | inr l ↦ l ]

pub ≤ℤ-trans : (a b c : ℤ) → a ≤ℤ b → b ≤ℤ c → a ≤ℤ c
≤ℤ-trans a b c h g = omega (arith, ints)

-- only zero has no size
pub size_zero : (m : ℤ) → unsigned_abs m ≡ 0 → m ≡ pos 0
size_zero m h = omega (arith, ints)

pub size_same : (m : ℤ) → unsigned_abs (m -ℤ m) ≡ 0
size_same m = omega (arith, ints)
