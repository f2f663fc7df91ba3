-- What a call answers, by the arrangement that makes it.
use Rattle.std.specs.Prelude.{ℕ, List, codes, Result}
use Rattle.rounding.specs.declared.Figure.{Figure}
use Rattle.rounding.specs.Refusals.{unless}
use Rattle.rounding.specs.Operations.{multiplied, added, fused_sum}
use Rattle.figures.specs.Figures.{opposite}
use Rattle.bounds.specs.Fours.{faults}
use Rattle.bounds.specs.Kahan.{kahan}
use Rattle.bounds.specs.Symmetric.{symmetric}
use Rattle.checked_calls.specs.declared.calls.Arrangement.{Arrangement}
use Rattle.checked_calls.specs.declared.calls.Arrangement.TheVariants.{Binary, Decimal, Symmetric}
use Rattle.checked_calls.specs.declared.calls.Call.{Call}
use Rattle.checked_calls.specs.declared.calls.Call.TheVariants.{Multiply, Add, Fused, Sum, Determinant}

abbrev pub name_text : Arrangement → List ℕ
name_text Binary = codes "binary"
name_text Decimal = codes "decimal"
name_text Symmetric = codes "symmetric"

abbrev pub radix_of : Arrangement → ℕ
radix_of Binary = 2
radix_of Decimal = 10
radix_of Symmetric = 2

abbrev pub precision_of : Arrangement → ℕ
precision_of Binary = 24
precision_of Decimal = 7
precision_of Symmetric = 24

-- the method's function for ab + cd
abbrev pub method_of : Arrangement → ℕ → ℕ → Figure → Figure → Figure → Figure → Figure
method_of Binary = kahan
method_of Decimal = kahan
method_of Symmetric = symmetric

-- what a call answers over the radix β and the precision p, by the method m
unfoldable pub answered : ℕ → ℕ → (Figure → Figure → Figure → Figure → Figure) → Call → Result Figure ℕ
answered β p m (Multiply x y) = multiplied β p x y
answered β p m (Add x y) = added β p x y
answered β p m (Fused x y z) = fused_sum β p x y z
answered β p m (Sum a b c d) = unless (faults β p a b c d) (m a b c d)
answered β p m (Determinant a b c d) = unless (faults β p a b c d) (m a d (opposite b) c)

abbrev pub answer_of : Arrangement → Call → Result Figure ℕ
answer_of by call = answered (radix_of by) (precision_of by) (method_of by (radix_of by) (precision_of by)) call

-- what a complex product answers: both parts by the method m
unfoldable pub product_of : ℕ → ℕ → (Figure → Figure → Figure → Figure → Figure) → Figure → Figure → Figure → Figure
    → Result (Figure × Figure) ℕ
product_of β p m a b c d = unless (faults β p a b c d) (m a c (opposite b) d, m a d b c)
