-- What is told of the rows of a batch, by induction over its lines.
use Rattle.std.proofs.Common.{◌≡◌, ℕ, zero, suc, ◌+◌, ◌-◌, ◌<◌, ◌≤◌, ◌++◌, ◌⊎◌, inl, inr, List, [], ◌∷◌, length}
use Rattle.std.proofs.Common.{take, nat_lt}
use Rattle.std.proofs.Common.{Bool, true, false, cond, Ok, Err, Result, refl, sym, ap, ◌∙◌, subst, arith}
use Rattle.std.proofs.Common.{append_assoc}
use Rattle.std.proofs.Common.{length-append}
use Rattle.std.proofs.lemmas.Bool.Decides.{nat_tests}
use Rattle.std.specs.List.{enumerate_from}
use Rattle.kinds.specs.Kinds.{IsMark}
use Rattle.bounds.specs.Methods.{Function}
use Rattle.lanes.specs.declared.Lane.{Lane}
use Rattle.histories.specs.declared.Call.{Call}
use Rattle.lines.specs.Texts.{lines_of}
use Rattle.lines.proofs.Laws.{lines_law}
use Rattle.requests.specs.Faults.{Stop}
use Rattle.requests.specs.Requests.{request_of}
use Rattle.runs.specs.Entries.{lanes_after_all}
use Rattle.reports.specs.Reports.{report_line}
use Rattle.reports.specs.Tells.{LineTells}
use Rattle.reports.proofs.Tells.{line_tells}
use Rattle.batch.specs.declared.ending.End.TheVariants.{Done, ReportFull}
use Rattle.batch.specs.Rows.{row_answer, row_lanes, asked, lanes_left}
use Rattle.batch.specs.Batches.{Ran, joined, run_rows}
use Rattle.batch.specs.Telling.{calls_in, RowsTold, closed_lines}

-- a run of lines behind n rows: k of them were run
pub record RowsRun (β p mark : ℕ) (m : Function) (n free : ℕ) (ls : List Lane) (lines : List (List ℕ))
    (r : Ran) : Type 0 where
  pub k : ℕ
  pub rows : r.rows ≡ n + k
  pub within : k ≤ length lines
  pub told : RowsTold β p mark m (n + 1) ls (take k lines) (lines_of r.text)
  pub closed : closed_lines (lines_of r.text) ≡ r.text
  pub lanes : r.lanes ≡ lanes_after_all β p m ls (calls_in mark (take k lines))
  pub room : (i : ℕ) → i < k → length (closed_lines (take i (lines_of r.text))) + 64 ≤ free
  pub ended : ((r.end ≡ Done) × (k ≡ length lines))
      ⊎ ((r.end ≡ ReportFull) × (k < length lines) × (free < length r.text + 64))

module _ (β p mark : ℕ) (marked : IsMark mark) (m : Function) where
  -- the lanes after a line, and after its call and those of more lines
  one_more : (ls : List Lane) (request : Result Call Stop) (calls : List Call)
      → lanes_after_all β p m (lanes_left β p m ls request) calls ≡ lanes_after_all β p m ls (asked request ++ calls)
  one_more ls (Ok call) calls = refl
  one_more ls (Err stop) calls = refl

  none_run : (n free : ℕ) (ls : List Lane) (lines : List (List ℕ)) (r : Ran)
      → r ≡ record { rows = n; text = []; lanes = ls; end = ReportFull } → 0 < length lines → free < 64
      → RowsRun β p mark m n free ls lines r
  none_run n free ls lines r is some full = rw is record {
    k = 0;
    rows = omega arith;
    within = omega arith;
    told = tt;
    closed = refl;
    lanes = refl;
    room = λ i before. absurd (omega (arith, before));
    ended = inr (refl, some, omega (arith, full));
  }

  -- a row with its line t, and the rows behind it
  row_run : (n free : ℕ) (ls left : List Lane) (line : List ℕ) (lines : List (List ℕ)) (t : List ℕ) (rest : Ran)
      → LineTells mark (n + 1) (row_answer β p mark m ls line) t → left ≡ row_lanes β p mark m ls line → 64 ≤ free
      → RowsRun β p mark m (n + 1) (free - length t) left lines rest
      → RowsRun β p mark m n free ls (line ∷ lines) (joined t rest)
  row_run n free ls left line lines t rest row left_is some run = record {
    k = suc run.k;
    rows = omega (arith, run.rows);
    within = omega (arith, run.within);
    told = subst (RowsTold β p mark m (n + 1) ls (line ∷ take run.k lines)) (sym split) (
      row.row,
      subst (λ l. RowsTold β p mark m (n + 1 + 1) l (take run.k lines) (lines_of rest.text)) left_is run.told,
    );
    closed = ap closed_lines split ∙ (ap (λ u. u ++ closed_lines (lines_of rest.text)) (sym row.closed)
        ∙ ap (λ u. t ++ u) run.closed);
    lanes = run.lanes ∙ (ap (λ l. lanes_after_all β p m l (calls_in mark (take run.k lines))) left_is
        ∙ one_more ls (request_of mark line) (calls_in mark (take run.k lines)));
    room = λ i before. subst (λ lines. length (closed_lines (take i lines)) + 64 ≤ free) (sym split) (room i before);
    ended = elim run.ended [
      | inl done ↦ inl (done.0, ap suc done.1)
      | inr full ↦ inr (full.0, omega (arith, full.1), omega (arith, full.2, length-append t rest.text))
    ];
  }
    where
      split : lines_of (t ++ rest.text) ≡ row.line ∷ lines_of rest.text
      split =
          ap (λ u. lines_of (u ++ rest.text)) row.closed
          ∙ (ap lines_of (append_assoc row.line (10 ∷ []) rest.text)
          ∙ lines_law.next row.line rest.text row.row.is_line)

      room : (i : ℕ) → i < suc run.k → length (closed_lines (take i (row.line ∷ lines_of rest.text))) + 64 ≤ free
      room zero before = some
      room (suc j) before =
          let more = run.room j (omega (arith, before)) in
          let told = closed_lines (take j (lines_of rest.text)) in
          omega (arith, more, length-append (row.line ++ 10 ∷ []) told, ap length row.closed)

  pub rows_run : (n free : ℕ) (ls : List Lane) (lines : List (List ℕ))
      → RowsRun β p mark m n free ls lines (run_rows β p mark m n free ls (enumerate_from (n + 1) lines))
  rows_run n free ls [] = record {
    k = 0;
    rows = omega arith;
    within = omega arith;
    told = tt;
    closed = refl;
    lanes = refl;
    room = λ i before. absurd (omega (arith, before));
    ended = inl (refl, refl);
  }
  rows_run n free ls (line ∷ lines) = go (nat_lt free 64) refl (rows_run (n + 1) (free - length t) left lines)
    where
      t : List ℕ
      t = report_line mark (n + 1) (row_answer β p mark m ls line)

      left : List Lane
      left = row_lanes β p mark m ls line

      rest : Ran
      rest = run_rows β p mark m (n + 1) (free - length t) left (enumerate_from (n + 1 + 1) lines)

      go : (full : Bool) → nat_lt free 64 ≡ full → RowsRun β p mark m (n + 1) (free - length t) left lines rest
          → RowsRun β p mark m n free ls (line ∷ lines)
          (cond full (record { rows = n; text = []; lanes = ls; end = ReportFull }) (joined t rest))
      go true full run = none_run n free ls (line ∷ lines) _ refl (omega arith) (grind (arith, nat_tests))
      go false full run =
          row_run n free ls left line lines t rest
          (line_tells mark (n + 1) (row_answer β p mark m ls line) t marked refl) refl (grind (arith, nat_tests)) run
