-- Exact complex numbers (re + im i) × β^e, and their products.
use Rattle.std.specs.Prelude.{ℕ, ℤ, pos, ◌+ℤ◌, ◌-ℤ◌, ◌*ℤ◌}
use Rattle.std.specs.Int.{int_min}
use Rattle.rounding.specs.declared.Figure.{Figure}
use Rattle.rounding.specs.Exact.{Exact, value, units}

-- the number (re + im i) × β^e; the radix β is named where the number is used
pub record Complex : Type 0 where
  pub re : ℤ
  pub im : ℤ
  pub e : ℤ

abbrev pub real_part : Complex → Exact
real_part z = record { m = z.re; e = z.e }

abbrev pub imaginary_part : Complex → Exact
imaginary_part z = record { m = z.im; e = z.e }

abbrev pub unity : Complex
unity = record { re = pos 1; im = pos 0; e = pos 0 }

-- c + di, both parts in units of the lower of their two powers
abbrev pub factor : ℕ → Figure → Figure → Complex
factor β c d = record {
  re = units β (int_min c.q d.q) (value c);
  im = units β (int_min c.q d.q) (value d);
  e = int_min c.q d.q;
}

-- the exact product
abbrev pub times : Complex → Complex → Complex
times x y = record {
  re = x.re *ℤ y.re -ℤ x.im *ℤ y.im;
  im = x.re *ℤ y.im +ℤ x.im *ℤ y.re;
  e = x.e +ℤ y.e;
}
