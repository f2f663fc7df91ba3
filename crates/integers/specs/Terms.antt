-- What the machine's words stand for: a sign, a size and an exponent.
use Rattle.std.specs.Prelude.{◌≡◌, ℕ, ◌*◌, ◌^◌, ◌<◌, ◌≤◌, Bool, false, ℤ, pos, ◌-ℤ◌, unsigned_abs}
use Rattle.rounding.specs.declared.Figure.{Figure}
use Rattle.rounding.specs.Exact.{Exact, value}
use Rattle.rounding.specs.Rounding.{signed}
use Rattle.integers.specs.declared.terms.Term.{Term}

-- the exact number ± size × β^exponent
abbrev pub worth : Term → Exact
worth t = record { m = signed t.negative t.size; e = t.exponent }

-- t with k zeros appended: the same number
abbrev pub lifted : ℕ → Term → ℕ → Term
lifted β t k = record { negative = t.negative; size = t.size * β ^ k; exponent = t.exponent -ℤ pos k }

-- a term and, where sticky, something more of its sign, less than one unit of its size
pub record Truncation : Type 0 where
  pub term : Term
  pub sticky : Bool

abbrev pub truncated : Bool → ℕ → ℤ → Bool → Truncation
truncated neg n e sticky = record { term = record { negative = neg; size = n; exponent = e }; sticky = sticky }

-- t with nothing below it
abbrev pub exact : Term → Truncation
exact t = record { term = t; sticky = false }

-- t is what f says
pub record IsTermOf (f : Figure) (t : Term) : Type 0 where
  pub is : worth t ≡ value f
  pub size : t.size ≡ unsigned_abs f.s
  pub exponent : t.exponent ≡ f.q

-- f is in the bounds that hold of each figure of a kind; top is β^p
pub record IsOperand (top : ℕ) (f : Figure) : Type 0 where
  pub size : unsigned_abs f.s < top
  pub exponent : unsigned_abs f.q ≤ 2000

-- t is in the bounds that hold of the product of two operands
pub record IsAddend (top : ℕ) (t : Term) : Type 0 where
  pub size : t.size < top * top
  pub exponent : unsigned_abs t.exponent ≤ 4000

-- t can be brought down by k digits
pub record CanLift (t : Term) (k : ℕ) : Type 0 where
  pub exponent : unsigned_abs t.exponent ≤ 5000
  pub few : k ≤ 64

-- t is in the bounds in which it can be rounded in machine words
pub record FitsWord (t : Term) : Type 0 where
  pub size : t.size < 2 ^ 62
  pub exponent : unsigned_abs t.exponent ≤ 5000
