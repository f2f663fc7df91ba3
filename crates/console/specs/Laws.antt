-- What is proved of the calls of a console, in the words of their contracts.
use Rattle.std.specs.Prelude.{◌≡◌, ℕ, ◌+◌, List, Ok, Err}
use Rattle.rounding.specs.declared.Figure.{Figure}
use Rattle.rounding.specs.Refusals.{unless}
use Rattle.figures.specs.Figures.{opposite}
use Rattle.bounds.specs.Fours.{faults}
use Rattle.bounds.specs.Methods.{Function}
use Rattle.lanes.specs.declared.Lane.{Lane}
use Rattle.lanes.specs.Lanes.{at, put, fresh_lane}
use Rattle.lanes.specs.Turning.{no_lane, turn_fault, after_turn, after_restart}
use Rattle.histories.specs.declared.Call.TheVariants.{Sum, Determinant, Product, Turn, Restart}
use Rattle.histories.specs.Tracking.{event, KeepsTrack}
use Rattle.console.specs.Steps.{turn_steps}

-- the calls of the four operands a, b, c, d
pub record FourLaw (β p N D : ℕ) (m : Function) (ls : List Lane) (a b c d : Figure) : Type 0 where
  pub sum : KeepsTrack β p N D (event (Sum a b c d) (unless (faults β p a b c d) (m a b c d))) ls ls
  pub determinant : KeepsTrack β p N D
      (event (Determinant a b c d) (unless (faults β p a b c d) (m a d (opposite b) c))) ls ls
  pub product : KeepsTrack β p N D
      (event {X = Figure × Figure} (Product a b c d)
      (unless (faults β p a b c d) (m a c (opposite b) d, m a d b c))) ls ls

-- a turn of the lane i by c + di: its answer and the lanes after it, by what its steps give; and it keeps track
pub record TurnLaw (β p N D : ℕ) (m : Function) (ls : List Lane) (i : ℕ) (c d : Figure) : Type 0 where
  pub refused : (n : ℕ) → Err n ≡ turn_steps β p m ls i c d
      → Err n ≡ unless (turn_fault β p m ls i c d) ((at ls i).count + 1)
  pub left : (n : ℕ) → Err n ≡ turn_steps β p m ls i c d → ls ≡ after_turn β p m ls i c d
  pub turned : (l : Lane) → Ok l ≡ turn_steps β p m ls i c d
      → Ok l.count ≡ unless (turn_fault β p m ls i c d) ((at ls i).count + 1)
  pub placed : (l : Lane) → Ok l ≡ turn_steps β p m ls i c d → put ls i l ≡ after_turn β p m ls i c d
  pub track : KeepsTrack β p N D
      (event (Turn i c d) (unless (turn_fault β p m ls i c d) ((at ls i).count + 1))) ls (after_turn β p m ls i c d)

-- a restart of the lane i
pub record RestartLaw (β p N D : ℕ) (ls : List Lane) (i : ℕ) : Type 0 where
  pub answered : (l : Lane) → Ok l ≡ unless (no_lane i) (at ls i) → Ok 0 ≡ unless {X = ℕ} (no_lane i) 0
  pub left : (n : ℕ) → Err n ≡ unless (no_lane i) (at ls i) → ls ≡ after_restart β p ls i
  pub placed : (l : Lane) → Ok l ≡ unless (no_lane i) (at ls i) → put ls i (fresh_lane β p) ≡ after_restart β p ls i
  pub track : KeepsTrack β p N D (event {X = ℕ} (Restart i) (unless (no_lane i) 0)) ls (after_restart β p ls i)
