-- How many digits a whole number has.
use Rattle.std.specs.Prelude.{ℕ, zero, suc, ◌/◌, true, false, nat_lt}

-- the last digit and those before it; the first argument bounds the steps
abbrev pub digits_within : ℕ → ℕ → ℕ → ℕ
digits_within zero β n = 1
digits_within (suc t) β n = elim (nat_lt n β) [ true ↦ 1 | false ↦ suc (digits_within t β (n / β)) ]

-- the number of digits of n in radix β: 1 for n = 0, otherwise the one d with β^(d-1) ≤ n < β^d
unfoldable pub digits : ℕ → ℕ → ℕ
digits β n = digits_within n β n
