-- Exact numbers m × β^e, and how two of them are added and compared: counted in units of one power of β.
use Rattle.std.specs.Prelude.{ℕ, ◌^◌, ℤ, pos, ◌+ℤ◌, ◌-ℤ◌, ◌*ℤ◌, unsigned_abs}
use Rattle.std.specs.Int.{int_min}
use Rattle.rounding.specs.declared.Figure.{Figure}

-- the number m × β^e; the radix β is named where the number is used
pub record Exact : Type 0 where
  pub m : ℤ
  pub e : ℤ

-- what a figure is worth
abbrev pub value : Figure → Exact
value f = record { m = f.s; e = f.q }

abbrev pub product : Figure → Figure → Exact
product x y = record { m = x.s *ℤ y.s; e = x.q +ℤ y.q }

-- x counted in units of β^k: a whole number wherever k is at most x's exponent
abbrev pub units : ℕ → ℤ → Exact → ℤ
units β k x = x.m *ℤ pos (β ^ unsigned_abs (x.e -ℤ k))

-- the exact sum, in units of the lower of the two powers
abbrev pub plus : ℕ → Exact → Exact → Exact
plus β x y = record {
  m = units β (int_min x.e y.e) x +ℤ units β (int_min x.e y.e) y;
  e = int_min x.e y.e;
}

-- how far x and y lie apart, in units of β^k
abbrev pub distance : ℕ → ℤ → Exact → Exact → ℕ
distance β k x y = unsigned_abs (units β k x -ℤ units β k y)
