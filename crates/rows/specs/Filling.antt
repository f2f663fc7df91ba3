-- A row with its outcome and its answers.
use Rattle.std.specs.Prelude.{ℕ, List, Some, None, Ok, Err, Option, Result}
use Rattle.rounding.specs.declared.Figure.{Figure}
use Rattle.rounding.specs.declared.Refusal.TheVariants.{UnknownVerb}
use Rattle.rounding.specs.Refusals.{number, after}
use Rattle.rounding.specs.Rounding.{zero_figure}
use Rattle.bounds.specs.Methods.{Function}
use Rattle.lanes.specs.declared.Lane.{Lane}
use Rattle.histories.specs.declared.Call.{Call}
use Rattle.runs.specs.declared.Answer.{Answer}
use Rattle.runs.specs.declared.Answer.TheVariants.{Value, Parts, Count, Shown}
use Rattle.runs.specs.Answers.{answer_to}
use Rattle.rows.specs.declared.Row.{Row}
use Rattle.rows.specs.Rows.{call_of}

-- an answer as the two figures of a row: with one figure, zero is the second. The calls of rows answer no counts and
-- no readings, which have no figures here.
abbrev pub both : Answer → Figure × Figure
both (Value f) = (f, zero_figure)
both (Parts f g) = (f, g)
both (Count n) = (zero_figure, zero_figure)
both (Shown reading) = (zero_figure, zero_figure)

-- what the console answers to a call, if there is one
abbrev pub answers_by : ℕ → ℕ → Function → List Lane → Option Call → Result (Figure × Figure) ℕ
answers_by β p m ls (Some call) = after (answer_to β p m ls call) (λ answer. Ok (both answer))
answers_by β p m ls None = Err (number UnknownVerb)

-- what it answers to the call of a row
abbrev pub answers_of : ℕ → ℕ → Function → List Lane → Row → Result (Figure × Figure) ℕ
answers_of β p m ls r = answers_by β p m ls (call_of r)

-- the row with this outcome and these answers, whatever it had before
abbrev pub with_answers : Row → ℕ → Figure → Figure → Row
with_answers r n f g = record {
  code = r.code;
  a = r.a;
  b = r.b;
  c = r.c;
  d = r.d;
  first = f;
  second = g;
  outcome = n;
}

-- a row that was accepted, with outcome 0, or refused, with the number of the refusal and two zeros
abbrev pub told : Row → Result (Figure × Figure) ℕ → Row
told r (Ok answers) = with_answers r 0 answers.0 answers.1
told r (Err n) = with_answers r n zero_figure zero_figure

-- a row, filled by the method m of a console that holds the lanes ls
abbrev pub filled : ℕ → ℕ → Function → List Lane → Row → Row
filled β p m ls r = told r (answers_of β p m ls r)
