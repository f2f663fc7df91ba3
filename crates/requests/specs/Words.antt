-- What a word of a line reads as: by its text alone, and by what it looks like.
use Rattle.std.specs.Prelude.{◌≡◌, ℕ, not, ◌&&◌, ◌==◌, nat_lt, if◌then◌else◌, length, slice_index_or, List}
use Rattle.std.specs.Prelude.{Some, None, Ok, Err, Option, Result}
use Rattle.std.specs.Borrow.{Bor}
use Rattle.std.specs.Char.{is_ascii_digit, is_ascii_lowercase}
use Rattle.rounding.specs.declared.Figure.{Figure}
use Rattle.rounding.specs.declared.Refusal.TheVariants.{NoNumber, OtherMark}
use Rattle.rounding.specs.Refusals.{number}
use Rattle.reading.specs.declared.Numeral.{Numeral}
use Rattle.reading.specs.Words.{numeral_of, lane_of}
use Rattle.requests.specs.declared.verb.Verb.{Verb}
use Rattle.requests.specs.declared.word.Word.{Word}
use Rattle.requests.specs.declared.word.Word.TheVariants as word
use Rattle.requests.specs.Verbs.{verb_of}

-- what a text looks like
unfoldable pub word_of : Bor (List ℕ) → Word
word_of text =
    if is_ascii_lowercase (slice_index_or text.now 0 0) then word.Verb text
    else if not (slice_index_or text.now 0 0 == 45) && not (is_ascii_digit (slice_index_or text.now 0 0))
    then word.Unknown text
    else if nat_lt 2 (length text.now) then word.Number text
    else word.Lane text

-- a number as a figure under the mark of a kind: no number before another mark
abbrev pub marked : ℕ → Option Numeral → Result Figure ℕ
marked mark None = Err (number NoNumber)
marked mark (Some n) = if n.mark == mark then Ok n.figure else Err (number OtherMark)

-- the figure that a text says under the mark of a kind
abbrev pub figure_in : ℕ → List ℕ → Result Figure ℕ
figure_in mark text = marked mark (numeral_of text)

abbrev pub lane_told : Option ℕ → Result ℕ ℕ
lane_told None = Err (number NoNumber)
lane_told (Some lane) = Ok lane

-- the number of a lane that a text says
abbrev pub lane_in : List ℕ → Result ℕ ℕ
lane_in text = lane_told (lane_of text)

-- what a word reads as by its case: a word of another case is no number, no lane, no verb
abbrev pub figure_of : ℕ → Word → Result Figure ℕ
figure_of mark (word.Verb text) = Err (number NoNumber)
figure_of mark (word.Number text) = figure_in mark text.now
figure_of mark (word.Lane text) = Err (number NoNumber)
figure_of mark (word.Unknown text) = Err (number NoNumber)

abbrev pub lane_number_of : Word → Result ℕ ℕ
lane_number_of (word.Verb text) = Err (number NoNumber)
lane_number_of (word.Number text) = Err (number NoNumber)
lane_number_of (word.Lane text) = lane_in text.now
lane_number_of (word.Unknown text) = Err (number NoNumber)

abbrev pub verb_told_by : Word → Option Verb
verb_told_by (word.Verb text) = verb_of text.now
verb_told_by (word.Number text) = None
verb_told_by (word.Lane text) = None
verb_told_by (word.Unknown text) = None

-- the case of a word takes nothing from its text: the word reads as its text does
pub record ReadsAs (w : Word) (text : List ℕ) : Type 0 where
  pub figure : (mark : ℕ) → figure_of mark w ≡ figure_in mark text
  pub lane : lane_number_of w ≡ lane_in text
  pub verb : verb_told_by w ≡ verb_of text
