-- What a line of a report tells of its row: by its words, with no word of how the line is put together.
use Rattle.std.specs.Prelude.{◌≡◌, ◌↔◌, ℕ, ◌<◌, ◌^◌, List, [], ◌∷◌, ◌++◌, slice_index_or, unsigned_abs, codes, decimal}
use Rattle.std.specs.Prelude.{Some, Ok, Err, Result, IsErr}
use Rattle.rounding.specs.declared.Figure.{Figure}
use Rattle.reading.specs.Words.{numeral_of}
use Rattle.lines.specs.Laws.{IsLine}
use Rattle.lines.specs.Texts.{words_of}
use Rattle.requests.specs.Faults.{Stop}
use Rattle.runs.specs.declared.Answer.{Answer}
use Rattle.runs.specs.declared.Answer.TheVariants.{Value, Parts, Count, Shown}
use Rattle.reports.specs.Reports.{figure_text, report_line}

-- a figure of which a word of a batch can say both numbers: up to eight digits, and up to four
abbrev pub IsShort : Figure → Type 0
IsShort f = (unsigned_abs f.s < 10 ^ 8) × (unsigned_abs f.q < 10 ^ 4)

-- every figure of an answer has few digits
abbrev pub HasShort : Answer → Type 0
HasShort (Value f) = IsShort f
HasShort (Parts a b) = IsShort a × IsShort b
HasShort (Count n) = Unit {0}
HasShort (Shown reading) = IsShort reading.real × IsShort reading.imaginary

-- the word is the text of the figure, and a batch that has it reads that figure
pub record SaysFigure (mark : ℕ) (f : Figure) (word : List ℕ) : Type 0 where
  pub text : word ≡ figure_text mark f
  pub reads : IsShort f → numeral_of word ≡ Some (record { figure = f; mark = mark })

-- two words, the first of the real and the second of the imaginary part
pub record SaysParts (mark : ℕ) (a b : Figure) (words : List (List ℕ)) : Type 0 where
  pub real : List ℕ
  pub imaginary : List ℕ
  pub two : words ≡ real ∷ imaginary ∷ []
  pub says_real : SaysFigure mark a real
  pub says_imaginary : SaysFigure mark b imaginary

-- the words of an answer: one of a figure, two of a product, a count, or a count and two of what a lane shows; and of
-- what was refused the word `no`, the number of the refusal and the place of the word at fault
abbrev pub Says : ℕ → Result Answer Stop → List (List ℕ) → Type 0
Says mark (Ok (Value f)) words = (word : List ℕ) × (words ≡ word ∷ []) × SaysFigure mark f word
Says mark (Ok (Parts a b)) words = SaysParts mark a b words
Says mark (Ok (Count n)) words = words ≡ decimal n ∷ []
Says mark (Ok (Shown reading)) words =
    (behind : List (List ℕ)) × (words ≡ decimal reading.count ∷ behind)
    × SaysParts mark reading.real reading.imaginary behind
Says mark (Err stop) words = words ≡ codes "no" ∷ decimal stop.0 ∷ decimal stop.1 ∷ []

-- a line with the number of its row and the words of its outcome, of which `no` is the first for a refusal alone
pub record RowTells (mark number : ℕ) (outcome : Result Answer Stop) (line : List ℕ) : Type 0 where
  pub is_line : IsLine line
  pub behind : List (List ℕ)
  pub words : words_of line ≡ decimal number ∷ behind
  pub says : Says mark outcome behind
  pub refused : (slice_index_or behind 0 [] ≡ codes "no") ↔ IsErr outcome

-- such a line, closed by the only byte 10
pub record LineTells (mark number : ℕ) (outcome : Result Answer Stop) (bytes : List ℕ) : Type 0 where
  pub line : List ℕ
  pub closed : bytes ≡ line ++ 10 ∷ []
  pub row : RowTells mark number outcome line

-- an outcome of which every number reads back: its figures are short, and its other numbers fit a word of the machine
abbrev pub IsReadable : Result Answer Stop → Type 0
IsReadable (Ok (Value f)) = IsShort f
IsReadable (Ok (Parts a b)) = IsShort a × IsShort b
IsReadable (Ok (Count n)) = n < 2 ^ 64
IsReadable (Ok (Shown reading)) = (reading.count < 2 ^ 64) × IsShort reading.real × IsShort reading.imaginary
IsReadable (Err stop) = (stop.0 < 2 ^ 64) × (stop.1 < 2 ^ 64)

-- no line is that of two rows: it tells one number and one outcome
abbrev pub TellsOneRow : ℕ → Type 0
TellsOneRow mark = (n m : ℕ) (x y : Result Answer Stop) → n < 2 ^ 64 → m < 2 ^ 64 → IsReadable x → IsReadable y
    → report_line mark n x ≡ report_line mark m y → (n ≡ m) × (x ≡ y)
