-- What a console answers to a call, and the lanes that it then holds.
use Rattle.std.specs.Prelude.{ℕ, ◌+◌, ◌≤◌, List, Ok, Err, Result}
use Rattle.rounding.specs.declared.Figure.{Figure}
use Rattle.rounding.specs.Refusals.{unless}
use Rattle.figures.specs.Figures.{opposite}
use Rattle.bounds.specs.Fours.{faults}
use Rattle.bounds.specs.Methods.{Function}
use Rattle.lanes.specs.declared.Lane.{Lane}
use Rattle.lanes.specs.Lanes.{at}
use Rattle.lanes.specs.Turning.{no_lane, turn_fault, after_turn, after_restart}
use Rattle.histories.specs.declared.Call.{Call}
use Rattle.histories.specs.declared.Call.TheVariants.{Sum, Determinant, Product, Turn, Restart, Read}
use Rattle.console.specs.Readings.{reading_of}
use Rattle.runs.specs.declared.Answer.{Answer}
use Rattle.runs.specs.declared.Answer.TheVariants.{Value, Parts, Count, Shown}

-- the value under a case of `Answer`, unless the call was refused
abbrev pub mapped : {X : Type 0} → (X → Answer) → Result X ℕ → Result Answer ℕ
mapped case (Ok x) = Ok (case x)
mapped case (Err e) = Err e

abbrev pub parts : Figure × Figure → Answer
parts z = Parts z.0 z.1

-- the answer to a call, by the method m, of a console that holds the lanes ls
abbrev pub answer_to : ℕ → ℕ → Function → List Lane → Call → Result Answer ℕ
answer_to β p m ls (Sum a b c d) = mapped Value (unless (faults β p a b c d) (m a b c d))
answer_to β p m ls (Determinant a b c d) = mapped Value (unless (faults β p a b c d) (m a d (opposite b) c))
answer_to β p m ls (Product a b c d) = mapped parts (unless (faults β p a b c d) (m a c (opposite b) d, m a d b c))
answer_to β p m ls (Turn i c d) = mapped Count (unless (turn_fault β p m ls i c d) ((at ls i).count + 1))
answer_to β p m ls (Restart i) = mapped Count (unless (no_lane i) 0)
answer_to β p m ls (Read i) = mapped Shown (unless (no_lane i) (reading_of (at ls i)))

-- the lanes after the call
abbrev pub lanes_after : ℕ → ℕ → Function → List Lane → Call → List Lane
lanes_after β p m ls (Sum a b c d) = ls
lanes_after β p m ls (Determinant a b c d) = ls
lanes_after β p m ls (Product a b c d) = ls
lanes_after β p m ls (Turn i c d) = after_turn β p m ls i c d
lanes_after β p m ls (Restart i) = after_restart β p ls i
lanes_after β p m ls (Read i) = ls

-- an answer that shows a count shows at most 1,000,000
abbrev pub ShowsFew : Answer → Type 0
ShowsFew (Value f) = Unit {0}
ShowsFew (Parts a b) = Unit {0}
ShowsFew (Count n) = n ≤ 1000000
ShowsFew (Shown reading) = reading.count ≤ 1000000
