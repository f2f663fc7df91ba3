-- The four operands of a sum of two products: which are accepted, and the exact sum.
use Rattle.std.specs.Prelude.{◌≡◌, ℕ, ◌+◌, ◌*◌, ◌≤◌, if◌then◌else◌, Some, None, Option}
use Rattle.rounding.specs.declared.Figure.{Figure}
use Rattle.rounding.specs.declared.Refusal.TheVariants.{OperandNoFigure, OperandRange}
use Rattle.rounding.specs.Exact.{Exact, product, plus}
use Rattle.rounding.specs.Refusals.{number, first}
use Rattle.rounding.specs.Operations.{is_figure, reaches}

-- what is wrong with an operand of a method: no figure of the kind, before an exponent outside -200..200
abbrev pub fault : ℕ → ℕ → Figure → Option ℕ
fault β p f =
    if is_figure β p f then (if reaches 200 f then None else Some (number OperandRange))
    else Some (number OperandNoFigure)

-- the first fault from the left
abbrev pub faults : ℕ → ℕ → Figure → Figure → Figure → Figure → Option ℕ
faults β p a b c d = first (fault β p a) (first (fault β p b) (first (fault β p c) (fault β p d)))

-- four figures of the kind, each with an exponent in -200..200
abbrev pub Accepted : ℕ → ℕ → Figure → Figure → Figure → Figure → Type 0
Accepted β p a b c d = faults β p a b c d ≡ None

-- ab + cd
abbrev pub exact_sum : ℕ → Figure → Figure → Figure → Figure → Exact
exact_sum β a b c d = plus β (product a b) (product c d)

-- the largest allowance of a method, (4B² + 7B + 3)/(4B³)
abbrev pub limit_num : ℕ → ℕ
limit_num B = 4 * (B * B) + 7 * B + 3

abbrev pub limit_den : ℕ → ℕ
limit_den B = 4 * (B * B * B)

-- n/d is at most that
abbrev pub UpperLimit : ℕ → ℕ → ℕ → Type 0
UpperLimit B n d = n * limit_den B ≤ limit_num B * d
