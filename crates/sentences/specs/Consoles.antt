-- What is said of a call that was made of a console.
use Rattle.std.specs.Prelude.{ℕ, List, ◌++◌, codes, decimal, Result}
use Rattle.histories.specs.declared.Call.{Call}
use Rattle.histories.specs.declared.Call.TheVariants.{Sum, Determinant, Product, Turn, Restart, Read}
use Rattle.runs.specs.declared.Answer.{Answer}
use Rattle.runs.specs.declared.Answer.TheVariants.{Value, Parts, Count, Shown}
use Rattle.checked_calls.specs.declared.calls.Arrangement.{Arrangement}
use Rattle.sentences.specs.Figures.{figure_text, pair_text, four_text, answered_text}

abbrev pub call_text : Arrangement → Call → List ℕ
call_text by (Sum a b c d) = codes "sum " ++ four_text by a b c d
call_text by (Determinant a b c d) = codes "det " ++ four_text by a b c d
call_text by (Product a b c d) = codes "mul " ++ four_text by a b c d
call_text by (Turn i c d) = codes "turn " ++ (decimal i ++ (codes " " ++ pair_text by c d))
call_text by (Restart i) = codes "restart " ++ decimal i
call_text by (Read i) = codes "read " ++ decimal i

-- a figure, two figures, a count, or a count and two figures
abbrev pub value_text : Arrangement → Answer → List ℕ
value_text by (Value f) = figure_text by f
value_text by (Parts x y) = pair_text by x y
value_text by (Count n) = decimal n
value_text by (Shown r) = decimal r.count ++ (codes " " ++ pair_text by r.real r.imaginary)

abbrev pub entry_text : Arrangement → Call → Result Answer ℕ → List ℕ
entry_text by call r = call_text by call ++ (codes ": " ++ answered_text (value_text by) r)
