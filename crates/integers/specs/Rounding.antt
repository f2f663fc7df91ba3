-- What the rounding routine computes: digits appended up to p, or dropped down to p with the tie rule.
use Rattle.std.specs.Prelude.{◌≡◌, ℕ, ◌+◌, ◌-◌, ◌*◌, ◌/◌, ◌%◌, ◌^◌, Bool, pos, ◌+ℤ◌, if◌then◌else◌, ◌==◌, nat_le}
use Rattle.rounding.specs.declared.Figure.{Figure}
use Rattle.rounding.specs.Exact.{Exact, plus}
use Rattle.rounding.specs.Digits.{digits}
use Rattle.rounding.specs.Rounding.{zero_figure, raise, carried, rounded}
use Rattle.integers.specs.declared.terms.Term.{Term}
use Rattle.integers.specs.Terms.{Truncation, worth, lifted}

abbrev pub one_if : Bool → ℕ
one_if b = if b then 1 else 0

-- n / u to the nearest whole number, ties to even; where sticky, n is a little more than it says
abbrev pub nearest_quotient : ℕ → ℕ → Bool → ℕ
nearest_quotient u n sticky = n / u + raise u (n / u) (2 * (n % u) + one_if sticky)

-- k zeros appended
abbrev pub extended_figure : ℕ → ℕ → Term → ℕ → Figure
extended_figure β p t k = carried β p t.negative (lifted β t k).size (lifted β t k).exponent

-- k digits dropped
abbrev pub shortened_figure : ℕ → ℕ → Truncation → ℕ → Figure
shortened_figure β p t k =
    carried β p t.term.negative (nearest_quotient (β ^ k) t.term.size t.sticky) (t.term.exponent +ℤ pos k)

abbrev pub nearest_figure : ℕ → ℕ → Truncation → Figure
nearest_figure β p t =
    let d : ℕ = digits β t.term.size in
    if t.term.size == 0 then zero_figure
    else (if nat_le d p then extended_figure β p t.term (p - d)
    else shortened_figure β p t (d - p))

-- what is known of x in t is enough to round x
abbrev pub RoundsAs : ℕ → ℕ → Exact → Truncation → Type 0
RoundsAs β p x t = nearest_figure β p t ≡ rounded β p x

abbrev pub RoundsSum : ℕ → ℕ → Term → Term → Truncation → Type 0
RoundsSum β p x y t = RoundsAs β p (plus β (worth x) (worth y)) t
