-- What the exact sum computes: two terms brought to one power, as far as a word has room, and joined by their signs.
use Rattle.std.specs.Prelude.{ℕ, ◌+◌, ◌-◌, ◌*◌, ◌/◌, ◌%◌, ◌^◌, min, Bool, not, ◌-ℤ◌, if◌then◌else◌, ◌==◌, nat_lt}
use Rattle.std.specs.Prelude.{unsigned_abs}
use Rattle.std.specs.Bool.{beq}
use Rattle.rounding.specs.Digits.{digits}
use Rattle.integers.specs.declared.terms.Term.{Term}
use Rattle.integers.specs.Terms.{Truncation, truncated, exact, lifted}
use Rattle.integers.specs.Rounding.{one_if}

-- ± size and ± (above and, less than a unit, below): the sum to whole units, and whether something lies below
abbrev pub joined_sum : Term → Bool → ℕ → ℕ → Truncation
joined_sum t other above below =
    let sticky : Bool = not (below == 0) in
    if beq t.negative other then truncated other (t.size + above) t.exponent sticky
    else (if nat_lt above t.size then truncated t.negative (t.size - above - one_if sticky) t.exponent sticky
    else truncated other (above - t.size) t.exponent sticky)

-- how far n is brought up over d digits: all of them, or until it has 2 p + 1
abbrev pub rise : ℕ → ℕ → ℕ → ℕ → ℕ
rise β p n d = min d (2 * p + 1 - digits β n)

-- h at the higher power, lifted by k of the d digits between them; l split where that ends
abbrev pub aligned_at : ℕ → Term → Term → ℕ → ℕ → Truncation
aligned_at β h l d k = joined_sum (lifted β h k) l.negative (l.size / β ^ (d - k)) (l.size % β ^ (d - k))

abbrev pub aligned_sum : ℕ → ℕ → Term → Term → Truncation
aligned_sum β p h l =
    let d : ℕ = unsigned_abs (h.exponent -ℤ l.exponent) in
    if h.size == 0 then exact l
    else aligned_at β h l d (rise β p h.size d)
