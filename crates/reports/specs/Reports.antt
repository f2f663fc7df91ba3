-- The line of a batch's report for one row.
use Rattle.std.specs.Prelude.{ℕ, List, [], ◌∷◌, ◌++◌, Ok, Err, Result, codes, decimal}
use Rattle.spelling.specs.Spelled.{spelled}
use Rattle.rounding.specs.declared.Figure.{Figure}
use Rattle.requests.specs.Faults.{Stop}
use Rattle.runs.specs.declared.Answer.{Answer}
use Rattle.runs.specs.declared.Answer.TheVariants.{Value, Parts, Count, Shown}

-- a word before others, with a space between them
abbrev pub spaced : List ℕ → List ℕ → List ℕ
spaced word words = word ++ 32 ∷ words

-- a figure under the mark of a kind
abbrev pub figure_text : ℕ → Figure → List ℕ
figure_text mark f = spelled mark f.s f.q

-- the words of an answer: a count stands before the figures, and a real part before the imaginary one
abbrev pub answer_text : ℕ → Answer → List ℕ
answer_text mark (Value f) = figure_text mark f
answer_text mark (Parts a b) = spaced (figure_text mark a) (figure_text mark b)
answer_text mark (Count n) = decimal n
answer_text mark (Shown reading) =
    spaced (decimal reading.count) (spaced (figure_text mark reading.real) (figure_text mark reading.imaginary))

-- the words of a row: those of its answer, or `no`, the number of the refusal and the place of the word at fault
abbrev pub outcome_text : ℕ → Result Answer Stop → List ℕ
outcome_text mark (Ok answer) = answer_text mark answer
outcome_text mark (Err stop) = spaced (codes "no") (spaced (decimal stop.0) (decimal stop.1))

-- the number of a row before its words
abbrev pub row_text : ℕ → ℕ → Result Answer Stop → List ℕ
row_text mark number outcome = spaced (decimal number) (outcome_text mark outcome)

-- a line of the report: a row, closed by byte 10
abbrev pub report_line : ℕ → ℕ → Result Answer Stop → List ℕ
report_line mark number outcome = row_text mark number outcome ++ 10 ∷ []
