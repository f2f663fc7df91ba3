-- What is said of a call that is made with no console.
use Rattle.std.specs.Prelude.{ℕ, List, ◌++◌, codes, Result}
use Rattle.rounding.specs.declared.Figure.{Figure}
use Rattle.checked_calls.specs.declared.calls.Arrangement.{Arrangement}
use Rattle.checked_calls.specs.declared.calls.Call.{Call}
use Rattle.checked_calls.specs.declared.calls.Call.TheVariants.{Multiply, Add, Fused, Sum, Determinant}
use Rattle.sentences.specs.declared.Four.{Four}
use Rattle.sentences.specs.Figures.{figure_text, pair_text, four_text, answered_text}

abbrev pub call_text : Arrangement → Call → List ℕ
call_text by (Multiply x y) = codes "multiply " ++ (figure_text by x ++ (codes " by " ++ figure_text by y))
call_text by (Add x y) = codes "add " ++ (figure_text by x ++ (codes " and " ++ figure_text by y))
call_text by (Fused x y z) =
    codes "fused " ++ (figure_text by x ++ (codes " by " ++ (figure_text by y ++ (codes " and " ++ figure_text by z))))
call_text by (Sum a b c d) = codes "sum " ++ four_text by a b c d
call_text by (Determinant a b c d) = codes "det " ++ four_text by a b c d

abbrev pub sentence_text : Arrangement → Call → Result Figure ℕ → List ℕ
sentence_text by call r = call_text by call ++ (codes ": " ++ answered_text (figure_text by) r)

-- a complex product: its factors, and the real and the imaginary part that it answers
abbrev pub product_text : Four → Result (Figure × Figure) ℕ → List ℕ
product_text x r =
    codes "mul " ++ (four_text x.by x.a x.b x.c x.d
    ++ (codes ": " ++ answered_text (λ parts. pair_text x.by parts.0 parts.1) r))
