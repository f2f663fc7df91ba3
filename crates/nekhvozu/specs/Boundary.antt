-- What crosses to a caller in C or Rust, and what the exported functions answer.
use Rattle.std.specs.Prelude.{ℕ, ◌==◌, if◌then◌else◌, Some, None, Ok, Err, Option, Result, List, pos}
use Rattle.rounding.specs.declared.Figure.{Figure}
use Rattle.lanes.specs.Lanes.{fresh_lanes}
use Rattle.batch.specs.declared.ending.Ended.{Ended}
use Rattle.batch.specs.Batches.{Ran, end_number, ended, reported, run_batch}
use Rattle.checked_calls.specs.declared.calls.Arrangement.{Arrangement}
use Rattle.checked_calls.specs.declared.calls.Arrangement.TheVariants.{Binary, Decimal, Symmetric}
use Rattle.checked_calls.specs.declared.calls.Call.{Call}
use Rattle.checked_calls.specs.Calls.{radix_of, precision_of, method_of, answer_of}
use Rattle.nekhvozu.specs.declared.boundary.Pair.{Pair}
use Rattle.nekhvozu.specs.declared.boundary.Answer.{Answer}
use Rattle.nekhvozu.specs.declared.boundary.BatchEnd.{BatchEnd}

-- the arrangement of a number: which kind, and which method
abbrev pub arrangement_of : ℕ → Option Arrangement
arrangement_of n =
    if n == 0 then Some Binary else if n == 1 then Some Decimal else if n == 2 then Some Symmetric else None

-- the status where no arrangement has the number
abbrev pub no_arrangement : ℕ
no_arrangement = 91

abbrev pub figure_of : Pair → Figure
figure_of pair = record { s = pair.s; q = pair.q }

abbrev pub pair_of : Figure → Pair
pair_of f = record { s = f.s; q = f.q }

-- the status 0 and the figure, or the number of the refusal and zero in both words
abbrev pub told : Result Figure ℕ → Answer
told (Ok f) = record { status = 0; figure = pair_of f }
told (Err e) = record { status = e; figure = record { s = pos 0; q = pos 0 } }

-- what a call answers by the arrangement of a number
abbrev pub answer_by : Option Arrangement → Call → Answer
answer_by (Some by) call = told (answer_of by call)
answer_by None call = told (Err no_arrangement)

-- the letter that marks an arrangement's figures in text
abbrev pub mark_of : Arrangement → ℕ
mark_of Binary = 112
mark_of Decimal = 101
mark_of Symmetric = 112

-- the batch of a text on a new console, with so many bytes for its report
abbrev pub batch_of : Arrangement → ℕ → List ℕ → Ran
batch_of by size text =
    run_batch (radix_of by) (precision_of by) (mark_of by) (method_of by (radix_of by) (precision_of by)) size
    (fresh_lanes (radix_of by) (precision_of by)) text

-- the rows run, the report bytes that they took, and the number of the end
abbrev pub end_told : Ended → BatchEnd
end_told e = record { rows = e.rows; bytes = e.bytes; status = end_number e.end }

-- how a batch ends by the arrangement of a number
abbrev pub end_by : Option Arrangement → ℕ → List ℕ → BatchEnd
end_by (Some by) size text = end_told (ended (batch_of by size text))
end_by None size text = record { rows = 0; bytes = 0; status = no_arrangement }

-- the report that it leaves, of what stood there before
abbrev pub report_by : Option Arrangement → ℕ → List ℕ → List ℕ → List ℕ
report_by (Some by) size text old = reported (batch_of by size text) old
report_by None size text old = old
