-- How far a phasor lies from an exact complex number, and how far n turns may have carried it.
use Rattle.std.specs.Prelude.{ℕ, ◌+◌, ◌-◌, ◌*◌, ◌^◌, ◌≤◌, ℤ, ◌≤ℤ◌, unsigned_abs}
use Rattle.rounding.specs.Exact.{value, units, distance}
use Rattle.phasors.specs.declared.Phasor.{Phasor}
use Rattle.phasors.specs.Complex.{Complex, real_part, imaginary_part}

abbrev pub square : ℕ → ℕ
square n = n * n

-- the square of the distance of w from z, in units of β^k
abbrev pub distance² : ℕ → ℤ → Phasor → Complex → ℕ
distance² β k w z =
    square (distance β k (value w.real) (real_part z))
    + square (distance β k (value w.imaginary) (imaginary_part z))

-- the square of the length of z, in units of β^k
abbrev pub length² : ℕ → ℤ → Complex → ℕ
length² β k z = square (unsigned_abs (units β k (real_part z))) + square (unsigned_abs (units β k (imaginary_part z)))

-- |w - z| ≤ ((1 + N/D)^n - 1) |z|, counted in every unit in which all of them are whole
abbrev pub NearAfter : ℕ → ℕ → ℕ → ℕ → Phasor → Complex → Type 0
NearAfter β N D n w z = (k : ℤ) → k ≤ℤ w.real.q → k ≤ℤ w.imaginary.q → k ≤ℤ z.e
    → distance² β k w z * D ^ (2 * n) ≤ square ((D + N) ^ n - D ^ n) * length² β k z
