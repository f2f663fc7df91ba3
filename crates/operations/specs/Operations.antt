-- What a line that asks for an operation is answered.
use Rattle.std.specs.Prelude.{ℕ, List, [], ◌∷◌, ◌++◌, flat_map, codes, decimal}
use Rattle.std.specs.Prelude.{Some, None, Ok, Err, Option, Result}
use Rattle.spelling.specs.Spelled.{spelled}
use Rattle.lines.specs.Texts.{lines_of, words_of}
use Rattle.rounding.specs.declared.Figure.{Figure}
use Rattle.rounding.specs.declared.Refusal.TheVariants.{WordCount, UnknownVerb}
use Rattle.rounding.specs.Refusals.{number, after}
use Rattle.rounding.specs.Operations.{multiplied, added, fused_sum}
use Rattle.requests.specs.Words.{figure_in}
use Rattle.operations.specs.declared.names.KindName.{KindName}
use Rattle.operations.specs.declared.names.KindName.TheVariants.{Binary, Decimal}
use Rattle.operations.specs.declared.names.Operation.{Operation}
use Rattle.operations.specs.declared.names.Operation.TheVariants.{Multiply, Add, Fused}
use Rattle.operations.specs.Names.{kind_of, operation_of}

-- the figures of two words under the mark of a kind, and of three: the first word that says none stops the line
abbrev pub figures_of_two : ℕ → List (List ℕ) → Result (Figure × Figure) ℕ
figures_of_two mark (x ∷ y ∷ []) = after (figure_in mark x) (λ x. after (figure_in mark y) (λ y. Ok (x, y)))
figures_of_two mark words = Err (number WordCount)

abbrev pub figures_of_three : ℕ → List (List ℕ) → Result (Figure × Figure × Figure) ℕ
figures_of_three mark (x ∷ y ∷ z ∷ []) =
    after (figure_in mark x) (λ x. after (figure_in mark y) (λ y. after (figure_in mark z) (λ z. Ok (x, y, z))))
figures_of_three mark words = Err (number WordCount)

-- what an operation answers to the figures of its words
abbrev pub answered : ℕ → ℕ → ℕ → Operation → List (List ℕ) → Result Figure ℕ
answered β p mark Multiply words = after (figures_of_two mark words) (λ f. multiplied β p f.0 f.1)
answered β p mark Add words = after (figures_of_two mark words) (λ f. added β p f.0 f.1)
answered β p mark Fused words = after (figures_of_three mark words) (λ f. fused_sum β p f.0 f.1 f.2)

-- the text of a figure, or `no` and the number of a refusal
abbrev pub outcome_text : ℕ → Result Figure ℕ → List ℕ
outcome_text mark (Ok f) = spelled mark f.s f.q
outcome_text mark (Err refusal) = codes "no " ++ decimal refusal

abbrev pub refused : ℕ → List ℕ
refused refusal = outcome_text 0 (Err refusal)

abbrev pub operation_text : ℕ → ℕ → ℕ → Option Operation → List (List ℕ) → List ℕ
operation_text β p mark None words = refused (number UnknownVerb)
operation_text β p mark (Some operation) words = outcome_text mark (answered β p mark operation words)

-- what is answered to the name of an operation and its operands, figures of a kind
abbrev pub kind_text : ℕ → ℕ → ℕ → List ℕ → List (List ℕ) → List ℕ
kind_text β p mark name words = operation_text β p mark (operation_of name) words

-- the same behind the name of a kind
abbrev pub named_text : Option KindName → List ℕ → List (List ℕ) → List ℕ
named_text None name words = refused (number UnknownVerb)
named_text (Some Binary) name words = kind_text 2 24 112 name words
named_text (Some Decimal) name words = kind_text 10 7 101 name words

-- what the words of a line are answered: the name of a kind, the name of an operation and its operands
abbrev pub words_text : List (List ℕ) → List ℕ
words_text (kind ∷ name ∷ words) = named_text (kind_of kind) name words
words_text words = refused (number WordCount)

-- the answer to a line, closed by byte 10
abbrev pub answer_line : List ℕ → List ℕ
answer_line line = words_text (words_of line) ++ 10 ∷ []

-- the answers to the lines of a text, in order
abbrev pub answer_lines : List ℕ → List ℕ
answer_lines text = flat_map answer_line (lines_of text)
