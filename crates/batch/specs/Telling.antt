-- What a batch is, in words that do not say how it is run: its report has one line for each row run, which tells the
-- row's number and its outcome; the lanes are those that the rows' calls leave.
use Rattle.std.specs.Prelude.{◌≡◌, ℕ, ◌+◌, ◌<◌, ◌≤◌, ◌++◌, List, [], ◌∷◌, length, take, flat_map, IfOk}
use Rattle.bounds.specs.Methods.{Function}
use Rattle.lanes.specs.declared.Lane.{Lane}
use Rattle.histories.specs.declared.Call.{Call}
use Rattle.histories.specs.Histories.{History}
use Rattle.histories.specs.Tracking.{TrackHistory}
use Rattle.runs.specs.Entries.{lanes_after_all, AllKeepTrack}
use Rattle.lines.specs.Texts.{lines_of}
use Rattle.requests.specs.Requests.{request_of}
use Rattle.reports.specs.Tells.{HasShort, RowTells}
use Rattle.batch.specs.declared.ending.End.TheVariants.{Done, ReportFull, TextTooLong}
use Rattle.batch.specs.Rows.{row_answer, row_lanes, asked}
use Rattle.batch.specs.Batches.{Ran}

-- the calls that lines make, in order
abbrev pub calls_in : ℕ → List (List ℕ) → List Call
calls_in mark [] = []
calls_in mark (line ∷ lines) = asked (request_of mark line) ++ calls_in mark lines

-- each line of the text, from the row n on, has one line of the report, which tells its number and its outcome
abbrev pub RowsTold : ℕ → ℕ → ℕ → Function → ℕ → List Lane → List (List ℕ) → List (List ℕ) → Type 0
RowsTold β p mark m n ls [] [] = Unit {0}
RowsTold β p mark m n ls [] (told ∷ more) = ⊥
RowsTold β p mark m n ls (line ∷ lines) [] = ⊥
RowsTold β p mark m n ls (line ∷ lines) (told ∷ more) =
    RowTells mark n (row_answer β p mark m ls line) told
    × RowsTold β p mark m (n + 1) (row_lanes β p mark m ls line) lines more

-- every figure that the lines are answered has few digits, so that its text reads back
abbrev pub FiguresRead : ℕ → ℕ → ℕ → Function → List Lane → List (List ℕ) → Type 0
FiguresRead β p mark m ls [] = Unit {0}
FiguresRead β p mark m ls (line ∷ lines) =
    IfOk (row_answer β p mark m ls line) HasShort
    × FiguresRead β p mark m (row_lanes β p mark m ls line) lines

-- lines, each closed by byte 10
abbrev pub closed_lines : List (List ℕ) → List ℕ
closed_lines lines = flat_map (λ line. line ++ 10 ∷ []) lines

-- a batch of a text on the lanes ls, with so many bytes for its report
pub record BatchTells (β p mark N D : ℕ) (m : Function) (size : ℕ) (ls : List Lane) (text : List ℕ)
    (r : Ran) : Type 0 where
  -- the rows run are the first lines of the text, and the report has one line for each of them and nothing else
  pub within : r.rows ≤ length (lines_of text)
  pub told : RowsTold β p mark m 1 ls (take r.rows (lines_of text)) (lines_of r.text)
  pub closed : closed_lines (lines_of r.text) ≡ r.text
  -- the lanes are those that their calls leave, and whatever history the lanes tracked, they track it with these calls
  pub lanes : r.lanes ≡ lanes_after_all β p m ls (calls_in mark (take r.rows (lines_of text)))
  pub track : AllKeepTrack β p N D m ls (calls_in mark (take r.rows (lines_of text)))
  -- figures of lanes that track a history read back
  pub read : (h : History) → TrackHistory β p N D h ls → FiguresRead β p mark m ls (take r.rows (lines_of text))
  -- before each row run 64 bytes were free
  pub room : (i : ℕ) → i < r.rows → length (closed_lines (take i (lines_of r.text))) + 64 ≤ size
  -- a batch is done when every row was run; the report is full when fewer than 64 bytes were free before the next
  pub done : r.end ≡ Done → (length text ≤ 65536) × (r.rows ≡ length (lines_of text))
  pub full : r.end ≡ ReportFull → (r.rows < length (lines_of text)) × (size < length r.text + 64)
  -- no row of a text that is too long is run
  pub long : 65536 < length text → r.rows ≡ 0
  pub too_long : r.end ≡ TextTooLong → 65536 < length text
