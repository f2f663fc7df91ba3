-- What the calls made of a console, and whether each was refused, say of a lane. Nothing is taken from what the console
-- holds.
use Rattle.std.specs.Prelude.{ℕ, ◌+◌, Bool, if◌then◌else◌, List, [], ◌∷◌, ◌==◌}
use Rattle.rounding.specs.declared.Figure.{Figure}
use Rattle.phasors.specs.Complex.{Complex, unity, factor, times}
use Rattle.histories.specs.declared.Call.{Call}
use Rattle.histories.specs.declared.Call.TheVariants.{Sum, Determinant, Product, Turn, Restart, Read}

-- a call, and whether it was refused
pub record Event : Type 0 where
  pub call : Call
  pub refused : Bool

-- the calls since the console was new, the newest first
abbrev pub History : Type 0
History = List Event

-- the turns of a lane that were accepted since its last accepted restart, or since the console was new: their number,
-- and the exact product of their factors
pub record Course : Type 0 where
  pub turns : ℕ
  pub product : Complex

abbrev pub begun : Course
begun = record { turns = 0; product = unity }

-- one turn more, by c + di
abbrev pub further : ℕ → Figure → Figure → Course → Course
further β c d s = record { turns = s.turns + 1; product = times s.product (factor β c d) }

-- what an accepted call does to the course of the lane i
abbrev pub moved : ℕ → ℕ → Call → Course → Course
moved β i (Sum a b c d) s = s
moved β i (Determinant a b c d) s = s
moved β i (Product a b c d) s = s
moved β i (Turn j c d) s = if i == j then further β c d s else s
moved β i (Restart j) s = if i == j then begun else s
moved β i (Read j) s = s

-- the course of the lane i after a history
abbrev pub course : ℕ → ℕ → History → Course
course β i [] = begun
course β i (e ∷ h) = if e.refused then course β i h else moved β i e.call (course β i h)
