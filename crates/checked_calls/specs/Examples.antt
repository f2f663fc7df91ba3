-- Thirteen calls whose answers were worked out by hand, and the statement that the definitions give these answers.
use Rattle.std.specs.Prelude.{◌≡◌, ℕ, List, [], ◌∷◌, ℤ, pos, neg_ℤ, Ok, Err, Result}
use Rattle.rounding.specs.declared.Figure.{Figure}
use Rattle.rounding.specs.declared.Refusal.TheVariants.{ResultRange}
use Rattle.rounding.specs.Refusals.{number, coded}
use Rattle.figures.specs.Figures.{opposite}
use Rattle.checked_calls.specs.declared.calls.Arrangement.{Arrangement}
use Rattle.checked_calls.specs.declared.calls.Arrangement.TheVariants.{Binary, Decimal, Symmetric}
use Rattle.checked_calls.specs.declared.calls.Call.{Call}
use Rattle.checked_calls.specs.declared.calls.Call.TheVariants.{Multiply, Add, Fused, Sum, Determinant}
use Rattle.checked_calls.specs.declared.calls.Answered.{Answered}
use Rattle.checked_calls.specs.Calls.{answer_of}

-- a call by an arrangement, and what it should answer
pub record Example : Type 0 where
  pub by : Arrangement
  pub call : Call
  pub says : Result Figure ℕ

abbrev fig : ℕ → ℤ → Figure
fig s q = record { s = pos s; q = q }

-- the exponent -n
abbrev minus : ℕ → ℤ
minus n = neg_ℤ (pos n)

abbrev pub example : Arrangement → Call → Result Figure ℕ → Example
example by call says = record { by = by; call = call; says = says }

-- ties in a product that go up and down to the even neighbour, a carry to the next power, a tail too small to matter,
-- the finer spacing below a power of two, a fused product that cancels, the last exponent before the refusal, two
-- determinants that cancel in every leading digit, and a sum on which the methods differ
abbrev pub examples : List Example
examples =
    example Binary (Multiply (fig 12582912 (minus 23)) (fig 8388609 (minus 23))) (Ok (fig 12582914 (minus 23)))
    ∷ example Binary (Multiply (fig 12582912 (minus 23)) (fig 8388611 (minus 23))) (Ok (fig 12582916 (minus 23)))
    ∷ example Decimal (Multiply (fig 1500000 (minus 6)) (fig 1000001 (minus 6))) (Ok (fig 1500002 (minus 6)))
    ∷ example Binary (Add (fig 16777215 (pos 0)) (fig 8388608 (minus 24))) (Ok (fig 8388608 (pos 1)))
    ∷ example Binary (Add (fig 16777215 (pos 0)) (fig 16777215 (minus 25))) (Ok (fig 16777215 (pos 0)))
    ∷ example Binary (Add (fig 8388608 (pos 0)) (opposite (fig 8388608 (minus 25)))) (Ok (fig 8388608 (pos 0)))
    ∷ example Binary (Fused (fig 8388609 (minus 23)) (fig 8388609 (minus 23)) (opposite (fig 8388610 (minus 23))))
    (Ok (fig 8388608 (minus 69)))
    ∷ example Binary (Multiply (fig 8388608 (pos 1000)) (fig 8388608 (pos 977))) (Ok (fig 8388608 (pos 2000)))
    ∷ example Binary (Multiply (fig 8388608 (pos 1000)) (fig 8388608 (pos 978))) (Err (number ResultRange))
    ∷ example Binary
    (Determinant (fig 8388609 (minus 23)) (fig 8388608 (minus 23)) (fig 8388610 (minus 23)) (fig 8388609 (minus 23)))
    (Ok (fig 8388608 (minus 69)))
    ∷ example Decimal
    (Determinant (fig 1000001 (minus 6)) (fig 1000000 (minus 6)) (fig 1000002 (minus 6)) (fig 1000001 (minus 6)))
    (Ok (fig 1000000 (minus 18)))
    ∷ example Symmetric
    (Sum (fig 16777215 (pos 0)) (fig 8388610 (minus 2)) (fig 16777215 (pos 0)) (fig 8388609 (minus 2)))
    (Ok (fig 8388608 (pos 23)))
    ∷ example Binary
    (Sum (fig 16777215 (pos 0)) (fig 8388610 (minus 2)) (fig 16777215 (pos 0)) (fig 8388609 (minus 2)))
    (Ok (fig 8388609 (pos 23)))
    ∷ []

abbrev pub Holds : Example → Type 0
Holds e = answer_of e.by e.call ≡ e.says

abbrev pub AllHold : List Example → Type 0
AllHold [] = Unit {0}
AllHold (e ∷ es) = Holds e × AllHold es

-- the definitions give each of the thirteen answers
abbrev pub ExamplesHold : Type 0
ExamplesHold = AllHold examples

-- a call that was made is the example: the same call by the same arrangement, and the answer that it should have
pub record Shows (c : Answered) (e : Example) : Type 0 where
  pub by : c.by ≡ e.by
  pub call : c.call ≡ e.call
  pub says : coded c.answer ≡ e.says

abbrev pub Show : List Answered → List Example → Type 0
Show [] [] = Unit {0}
Show [] (e ∷ es) = ⊥
Show (c ∷ cs) [] = ⊥
Show (c ∷ cs) (e ∷ es) = Shows c e × Show cs es
