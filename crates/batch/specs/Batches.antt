-- What a batch leaves: its rows, its report, its lanes, and how it ends.
use Rattle.std.specs.Prelude.{ℕ, ◌-◌, ◌++◌, nat_lt, if◌then◌else◌, List, [], ◌∷◌, length, drop}
use Rattle.bounds.specs.Methods.{Function}
use Rattle.lanes.specs.declared.Lane.{Lane}
use Rattle.lines.specs.Texts.{numbered_lines}
use Rattle.reports.specs.Reports.{report_line}
use Rattle.batch.specs.declared.ending.End.{End}
use Rattle.batch.specs.declared.ending.End.TheVariants.{Done, ReportFull, TextTooLong}
use Rattle.batch.specs.declared.ending.Ended.{Ended}
use Rattle.batch.specs.Rows.{row_answer, row_lanes}

-- the numbers by which an end is shown
abbrev pub end_number : End → ℕ
end_number Done = 0
end_number ReportFull = 51
end_number TextTooLong = 61

-- the number of rows run, their report lines, the lanes after them, and the end
pub record Ran : Type 0 where
  pub rows : ℕ
  pub text : List ℕ
  pub lanes : List Lane
  pub end : End

-- what was told before what a run tells
abbrev pub joined : List ℕ → Ran → Ran
joined text r = record { rows = r.rows; text = text ++ r.text; lanes = r.lanes; end = r.end }

-- The rows of numbered lines, after n rows, with so many bytes free for the report and with the lanes ls. A row is run
-- where 64 bytes are free for its line.
abbrev pub run_rows : ℕ → ℕ → ℕ → Function → ℕ → ℕ → List Lane → List (ℕ × List ℕ) → Ran
run_rows β p mark m n free ls [] = record { rows = n; text = []; lanes = ls; end = Done }
run_rows β p mark m n free ls (line ∷ lines) =
    if nat_lt free 64
    then record { rows = n; text = []; lanes = ls; end = ReportFull }
    else joined (report_line mark line.0 (row_answer β p mark m ls line.1))
    (run_rows β p mark m line.0 (free - length (report_line mark line.0 (row_answer β p mark m ls line.1)))
    (row_lanes β p mark m ls line.1) lines)

-- no row of a text that is too long is run: where the first finds no room, the report is full before that is told
abbrev pub refused_text : ℕ → List Lane → List (ℕ × List ℕ) → Ran
refused_text free ls [] = record { rows = 0; text = []; lanes = ls; end = TextTooLong }
refused_text free ls (line ∷ lines) =
    record { rows = 0; text = []; lanes = ls; end = if nat_lt free 64 then ReportFull else TextTooLong }

-- a batch of a text, for whose report there are so many bytes
unfoldable pub run_batch : ℕ → ℕ → ℕ → Function → ℕ → List Lane → List ℕ → Ran
run_batch β p mark m size ls text =
    if nat_lt 65536 (length text)
    then refused_text size ls (numbered_lines text)
    else run_rows β p mark m 0 size ls (numbered_lines text)

-- what is answered of a run
abbrev pub ended : Ran → Ended
ended r = record { rows = r.rows; bytes = length r.text; end = r.end }

-- a report with the lines of a run at its front, and its other bytes as they were
abbrev pub reported : Ran → List ℕ → List ℕ
reported r old = r.text ++ drop (length r.text) old
