-- What multiply, add and fused answer: the exact result rounded once, or the first refusal.
use Rattle.std.specs.Prelude.{ℕ, ◌-◌, ◌^◌, Bool, if◌then◌else◌, ◌&&◌, Some, None, Option, Result, ◌==◌, nat_le, nat_lt}
use Rattle.std.specs.Prelude.{unsigned_abs}
use Rattle.rounding.specs.declared.Figure.{Figure}
use Rattle.rounding.specs.declared.Refusal.TheVariants.{NoFigure, ResultRange}
use Rattle.rounding.specs.Exact.{Exact, value, product, plus}
use Rattle.rounding.specs.Rounding.{rounded}
use Rattle.rounding.specs.Refusals.{number, first, unless}

-- the exponent lies in -l..l
abbrev pub reaches : ℕ → Figure → Bool
reaches l f = nat_le (unsigned_abs f.q) l

-- a figure of the kind with radix β and precision p: zero is s = 0 with q = 0 alone, every other has p digits
abbrev pub is_figure : ℕ → ℕ → Figure → Bool
is_figure β p f =
    if unsigned_abs f.s == 0 then unsigned_abs f.q == 0
    else nat_le (β ^ (p - 1)) (unsigned_abs f.s) && (nat_lt (unsigned_abs f.s) (β ^ p) && reaches 2000 f)

abbrev pub no_figure : ℕ → ℕ → Figure → Option ℕ
no_figure β p f = if is_figure β p f then None else Some (number NoFigure)

abbrev pub outside : Figure → Option ℕ
outside f = if reaches 2000 f then None else Some (number ResultRange)

-- the rounded value of x, where nothing is at fault with the operands or with the result
abbrev pub answered : ℕ → ℕ → Option ℕ → Exact → Result Figure ℕ
answered β p fault x = unless (first fault (outside (rounded β p x))) (rounded β p x)

abbrev pub multiplied : ℕ → ℕ → Figure → Figure → Result Figure ℕ
multiplied β p x y = answered β p (first (no_figure β p x) (no_figure β p y)) (product x y)

abbrev pub added : ℕ → ℕ → Figure → Figure → Result Figure ℕ
added β p x y = answered β p (first (no_figure β p x) (no_figure β p y)) (plus β (value x) (value y))

abbrev pub fused_sum : ℕ → ℕ → Figure → Figure → Figure → Result Figure ℕ
fused_sum β p x y z =
    answered β p (first (no_figure β p x) (first (no_figure β p y) (no_figure β p z))) (plus β (product x y) (value z))
