-- The phasor that stands for one, and what a turn makes of a phasor.
use Rattle.std.specs.Prelude.{ℕ}
use Rattle.rounding.specs.declared.Figure.{Figure}
use Rattle.rounding.specs.Rounding.{zero_figure}
use Rattle.figures.specs.Figures.{one_figure, opposite}
use Rattle.bounds.specs.Methods.{Function}
use Rattle.phasors.specs.declared.Phasor.{Phasor}

-- one and zero
abbrev pub unit : ℕ → ℕ → Phasor
unit β p = record { real = one_figure β p; imaginary = zero_figure }

-- the complex product of w with c + di by the method m, w first
abbrev pub product_by : Function → Phasor → Figure → Figure → Phasor
product_by m w c d = record {
  real = m w.real c (opposite w.imaginary) d;
  imaginary = m w.real d w.imaginary c;
}
