-- The place of the word at fault in a line whose call was refused.
use Rattle.std.specs.Prelude.{ℕ, ◌+◌, ◌==◌, ◌||◌, Bool, true, false, if◌then◌else◌, List, [], ◌∷◌, Some, None}
use Rattle.std.specs.Prelude.{Option, position}
use Rattle.rounding.specs.declared.Figure.{Figure}
use Rattle.rounding.specs.declared.Refusal.TheVariants.{NoLane, OperandNoFigure, OperandRange}
use Rattle.rounding.specs.Refusals.{number}
use Rattle.bounds.specs.Fours.{fault}
use Rattle.histories.specs.declared.Call.{Call}
use Rattle.histories.specs.declared.Call.TheVariants.{Sum, Determinant, Product, Turn, Restart, Read}

-- a method would not accept the figure
abbrev pub is_fault : Option ℕ → Bool
is_fault None = false
is_fault (Some e) = true

-- the place of the first figure at fault of those whose words stand from a place on; 0 where none is
abbrev pub found_at : ℕ → Option ℕ → ℕ
found_at from None = 0
found_at from (Some i) = from + i

abbrev pub operand_place : ℕ → ℕ → ℕ → List Figure → ℕ
operand_place β p from figures = found_at from (position (λ f. is_fault (fault β p f)) figures)

-- the place of a call's operand at fault: four figures are the words 2 to 5, those of a turn the words 3 and 4
abbrev pub fault_place : ℕ → ℕ → Call → ℕ
fault_place β p (Sum a b c d) = operand_place β p 2 (a ∷ b ∷ c ∷ d ∷ [])
fault_place β p (Determinant a b c d) = operand_place β p 2 (a ∷ b ∷ c ∷ d ∷ [])
fault_place β p (Product a b c d) = operand_place β p 2 (a ∷ b ∷ c ∷ d ∷ [])
fault_place β p (Turn i c d) = operand_place β p 3 (c ∷ d ∷ [])
fault_place β p (Restart i) = 0
fault_place β p (Read i) = 0

-- the place of the word for which a call was refused: a lane is word 2, and no word is at fault with a full lane or
-- with a phasor that would stray
abbrev pub place_of : ℕ → ℕ → Call → ℕ → ℕ
place_of β p call refusal =
    if refusal == number NoLane then 2
    else if refusal == number OperandNoFigure || refusal == number OperandRange then fault_place β p call
    else 0
