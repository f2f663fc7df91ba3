-- The figure of an exact number: to nearest, ties to even, exponent unbounded.
use Rattle.std.specs.Prelude.{ℕ, ◌+◌, ◌-◌, ◌*◌, ◌/◌, ◌%◌, ◌^◌, Bool, true, false, ℤ, pos, negsuc, ◌+ℤ◌, ◌-ℤ◌}
use Rattle.std.specs.Prelude.{if◌then◌else◌, neg_ℤ, ◌==◌, nat_lt, unsigned_abs}
use Rattle.rounding.specs.declared.Figure.{Figure}
use Rattle.rounding.specs.Exact.{Exact}
use Rattle.rounding.specs.Digits.{digits}

abbrev pub zero_figure : Figure
zero_figure = record { s = pos 0; q = pos 0 }

abbrev pub negative : ℤ → Bool
negative (pos _) = false
negative (negsuc _) = true

-- n, or its opposite
abbrev pub signed : Bool → ℕ → ℤ
signed false n = pos n
signed true n = neg_ℤ (pos n)

-- what a quotient d is raised by where its remainder, doubled, is r against the unit u: nothing below half a unit,
-- one above it, and in a tie what makes d even
abbrev pub raise : ℕ → ℕ → ℕ → ℕ
raise u d r = if nat_lt r u then 0 else if nat_lt u r then 1 else d % 2

-- n / u to the nearest whole number, ties to even
abbrev pub quotient : ℕ → ℕ → ℕ
quotient u n = n / u + raise u (n / u) (2 * (n % u))

-- ± s × β^q as a figure of p digits, where rounding up may have brought s to β^p
abbrev pub carried : ℕ → ℕ → Bool → ℕ → ℤ → Figure
carried β p neg s q =
    if nat_lt s (β ^ p) then (record { s = signed neg s; q = q })
    else (record { s = signed neg (β ^ (p - 1)); q = q +ℤ pos 1 })

-- |m| with p - 1 digits more: it has p digits at least, so that digits are only ever dropped
abbrev pub widened : ℕ → ℕ → Exact → ℕ
widened β p x = unsigned_abs x.m * β ^ (p - 1)

-- the figure of x where j of the widened digits are dropped
abbrev pub dropped : ℕ → ℕ → Exact → ℕ → Figure
dropped β p x j =
    carried β p (negative x.m) (quotient (β ^ j) (widened β p x)) (x.e -ℤ pos (p - 1) +ℤ pos j)

-- the figure of p digits that is nearest to x; its exponent may be any whole number
unfoldable pub rounded : ℕ → ℕ → Exact → Figure
rounded β p x = if unsigned_abs x.m == 0 then zero_figure else dropped β p x (digits β (widened β p x) - p)
