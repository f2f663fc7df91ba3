-- What is said of figures and of outcomes.
use Rattle.std.specs.Prelude.{ℕ, List, ◌++◌, Some, Ok, Err, codes, decimal, Option, Result}
use Rattle.rounding.specs.declared.Figure.{Figure}
use Rattle.rounding.specs.declared.Refusal.{Refusal}
use Rattle.rounding.specs.Refusals.{number}
use Rattle.spelling.specs.Spelled.{spelled}
use Rattle.checked_calls.specs.declared.calls.Arrangement.{Arrangement}
use Rattle.checked_calls.specs.declared.calls.Arrangement.TheVariants.{Binary, Decimal, Symmetric}

-- the letters p and e
abbrev pub mark_of : Arrangement → ℕ
mark_of Binary = 112
mark_of Decimal = 101
mark_of Symmetric = 112

abbrev pub figure_text : Arrangement → Figure → List ℕ
figure_text by f = spelled (mark_of by) f.s f.q

-- two figures, and four, spaced singly
abbrev pub pair_text : Arrangement → Figure → Figure → List ℕ
pair_text by a b = figure_text by a ++ (codes " " ++ figure_text by b)

abbrev pub four_text : Arrangement → Figure → Figure → Figure → Figure → List ℕ
four_text by a b c d = pair_text by a b ++ (codes " " ++ pair_text by c d)

abbrev pub refusal_text : ℕ → List ℕ
refusal_text n = codes "refused with " ++ decimal n

-- a value's text, or the number of the refusal
abbrev pub answered_text : {X : Type 0} → (X → List ℕ) → Result X ℕ → List ℕ
answered_text text (Ok x) = text x
answered_text text (Err n) = refusal_text n

-- the same of a value that may not tell what it prints
abbrev pub printed_outcome : {X : Type 0} → (X → Option (List ℕ)) → Result X Refusal → Option (List ℕ)
printed_outcome output (Ok x) = output x
printed_outcome output (Err e) = Some (refusal_text (number e))
