-- A turn as a chain of steps, each of which may refuse.
use Rattle.std.specs.Prelude.{ℕ, ◌+◌, List, Ok, Result}
use Rattle.rounding.specs.declared.Figure.{Figure}
use Rattle.rounding.specs.Refusals.{unless, after}
use Rattle.figures.specs.Figures.{opposite}
use Rattle.bounds.specs.Fours.{fault, faults}
use Rattle.bounds.specs.Methods.{Function}
use Rattle.phasors.specs.declared.Phasor.{Phasor}
use Rattle.lanes.specs.declared.Lane.{Lane}
use Rattle.lanes.specs.Lanes.{at}
use Rattle.lanes.specs.Turning.{no_lane, full, strayed}

abbrev pub phasor_of : Figure × Figure → Phasor
phasor_of z = record { real = z.0; imaginary = z.1 }

-- the complex product of w with c + di
abbrev pub product_steps : ℕ → ℕ → Function → Phasor → Figure → Figure → Result Phasor ℕ
product_steps β p m w c d = after (unless (faults β p w.real w.imaginary c d)
    (m w.real c (opposite w.imaginary) d, m w.real d w.imaginary c))
    (λ z. Ok (phasor_of z))

-- the lane l turned by c + di
abbrev pub lane_steps : ℕ → ℕ → Function → Lane → Figure → Figure → Result Lane ℕ
lane_steps β p m l c d =
    after (unless (full l) l) (λ k. after (product_steps β p m k.phasor c d)
    (λ w. after (unless (strayed w) w) (λ v. Ok (record { phasor = v; count = k.count + 1 }))))

-- the lane numbered i turned by c + di
abbrev pub turn_steps : ℕ → ℕ → Function → List Lane → ℕ → Figure → Figure → Result Lane ℕ
turn_steps β p m ls i c d =
    after (unless (no_lane i) (at ls i)) (λ l. after (unless (fault β p c) c)
    (λ x. after (unless (fault β p d) d) (λ y. lane_steps β p m l x y)))
