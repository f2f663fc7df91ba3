-- What is relied on of a method: its answers to accepted fours, and the allowance for their error.
use Rattle.std.specs.Prelude.{◌≡◌, ℕ, ◌-◌, ◌^◌, ◌≤◌, true, unsigned_abs}
use Rattle.rounding.specs.declared.Figure.{Figure}
use Rattle.rounding.specs.Exact.{value}
use Rattle.rounding.specs.Errors.{Within}
use Rattle.rounding.specs.Operations.{is_figure}
use Rattle.bounds.specs.Fours.{Accepted, exact_sum, UpperLimit}

-- a method's function for ab + cd
abbrev pub Function : Type 0
Function = Figure → Figure → Figure → Figure → Figure

-- the allowance N/D is within the limit, and of every accepted four the answer is a figure of the kind, has an exponent
-- in -500..500, and lies within the allowance of ab + cd
pub record IsReliable (β p N D : ℕ) (m : Function) : Type 0 where
  pub positive : 1 ≤ D
  pub limit : UpperLimit (β ^ (p - 1)) N D
  pub figure : (a b c d : Figure) → Accepted β p a b c d → is_figure β p (m a b c d) ≡ true
  pub range : (a b c d : Figure) → Accepted β p a b c d → unsigned_abs (m a b c d).q ≤ 500
  pub near : (a b c d : Figure) → Accepted β p a b c d → Within β N D (value (m a b c d)) (exact_sum β a b c d)
