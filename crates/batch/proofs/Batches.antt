-- What a batch is told to be: of its rows by induction, and of a text that is too long by its one case.
use Rattle.std.proofs.Common.{◌≡◌, ◌≢◌, ℕ, ◌<◌, ◌≤◌, inl, inr, List, [], ◌∷◌, length, take, nat_lt}
use Rattle.std.proofs.Common.{Bool, true, false, cond, Ok, Err, Result, IfOk, refl, sym, ap, ◌∙◌, subst, arith}
use Rattle.std.proofs.lemmas.Bool.Decides.{nat_tests}
use Rattle.std.specs.List.{enumerate_from}
use Rattle.kinds.specs.Kinds.{IsKind, IsMark}
use Rattle.bounds.specs.Methods.{Function, IsReliable}
use Rattle.lanes.specs.declared.Lane.{Lane}
use Rattle.histories.specs.declared.Call.{Call}
use Rattle.histories.specs.Histories.{History}
use Rattle.histories.specs.Tracking.{TrackHistory}
use Rattle.lines.specs.Texts.{lines_of, numbered_lines}
use Rattle.requests.specs.Faults.{Stop, and_then}
use Rattle.requests.specs.Requests.{request_of}
use Rattle.runs.specs.declared.Answer.{Answer}
use Rattle.runs.specs.Answers.{answer_to, lanes_after}
use Rattle.runs.specs.Entries.{lanes_after_all}
use Rattle.runs.proofs.Following.{call_law}
use Rattle.runs.proofs.Keeping.{all_keep_track}
use Rattle.reports.specs.Tells.{HasShort}
use Rattle.reports.proofs.Figures.{answers_short}
use Rattle.batch.specs.declared.ending.End.{End}
use Rattle.batch.specs.declared.ending.End.TheVariants.{Done, ReportFull, TextTooLong}
use Rattle.batch.specs.Rows.{located, lanes_left}
use Rattle.batch.specs.Batches.{Ran, run_rows, refused_text, run_batch}
use Rattle.batch.specs.Telling.{calls_in, RowsTold, FiguresRead, BatchTells}
use Rattle.batch.proofs.Telling.{RowsRun, rows_run}

module _ (β p mark : ℕ) (kind : IsKind β p) (marked : IsMark mark) (N D : ℕ) (m : Function)
    (law : IsReliable β p N D m) where
  -- the figures that answer a call after a history have few digits, with or without the place of a word at fault
  located_short : (ls : List Lane) (call : Call) (h : History) → TrackHistory β p N D h ls
      → IfOk (located β p call (answer_to β p m ls call)) HasShort
  located_short ls call h tracked = go (answer_to β p m ls call) refl
    where
      go : (r : Result Answer ℕ) → answer_to β p m ls call ≡ r → IfOk (located β p call r) HasShort
      go (Ok answer) is =
          answers_short β p kind N D m law h (answer_to β p m ls call) answer is call
          ((call_law β p kind N D m law ls call).follows.follows h tracked)
      go (Err e) is = tt

  figures_read : (ls : List Lane) (lines : List (List ℕ)) (h : History) → TrackHistory β p N D h ls
      → FiguresRead β p mark m ls lines
  figures_read ls [] h tracked = tt
  figures_read ls (line ∷ lines) h tracked =
      go (request_of mark line) (λ call. figures_read (lanes_after β p m ls call) lines _
      ((call_law β p kind N D m law ls call).track.keeps h tracked))
      (figures_read ls lines h tracked)
    where
      go : (request : Result Call Stop)
          → ((call : Call) → FiguresRead β p mark m (lanes_left β p m ls (Ok call)) lines)
          → FiguresRead β p mark m ls lines
          → IfOk (and_then request (λ call. located β p call (answer_to β p m ls call))) HasShort
          × FiguresRead β p mark m (lanes_left β p m ls request) lines
      go (Ok call) next same = (located_short ls call h tracked, next call)
      go (Err stop) next same = (tt, same)

  module _ (size : ℕ) (ls : List Lane) (text : List ℕ) where
    -- a text that is not too long
    short_tells : (r : Ran) → length text ≤ 65536 → RowsRun β p mark m 0 size ls (lines_of text) r
        → BatchTells β p mark N D m size ls text r
    short_tells r short run =
        let all : run.k ≡ r.rows = omega (arith, run.rows) in
        record {
          within = omega (arith, run.within, all);
          told = subst (λ k. RowsTold β p mark m 1 ls (take k (lines_of text)) (lines_of r.text)) all run.told;
          closed = run.closed;
          lanes = run.lanes ∙ ap (λ k. lanes_after_all β p m ls (calls_in mark (take k (lines_of text)))) all;
          track = all_keep_track β p kind N D m law ls (calls_in mark (take r.rows (lines_of text)));
          read = λ h tracked. figures_read ls (take r.rows (lines_of text)) h tracked;
          room = λ i before. run.room i (omega (arith, before, all));
          done = λ is. elim run.ended [
            | inl done ↦ (short, sym all ∙ done.1)
            | inr full ↦ let e = full.0 in cc
          ];
          full = λ is. elim run.ended [
            | inl done ↦ let e = done.0 in cc
            | inr full ↦ (omega (arith, full.1, all), full.2)
          ];
          long = λ long. absurd (omega (arith, long, short));
          too_long = λ is. elim run.ended [
            | inl done ↦ let e = done.0 in cc
            | inr full ↦ let e = full.0 in cc
          ];
        }

    -- no row of a text that is too long
    none_told : (e : End) → 65536 < length text → e ≢ Done
        → (e ≡ ReportFull → (0 < length (lines_of text)) × (size < 64))
        → BatchTells β p mark N D m size ls text (record { rows = 0; text = []; lanes = ls; end = e })
    none_told e long some full = record {
      within = omega arith;
      told = tt;
      closed = refl;
      lanes = refl;
      track = all_keep_track β p kind N D m law ls (calls_in mark (take 0 (lines_of text)));
      read = λ h tracked. tt;
      room = λ i before. absurd (omega (arith, before));
      done = λ is. absurd (some is);
      full = full;
      long = λ more. refl;
      too_long = λ is. long;
    }

    long_tells : (lines : List (List ℕ)) → lines_of text ≡ lines → 65536 < length text
        → BatchTells β p mark N D m size ls text (refused_text size ls (enumerate_from 1 lines))
    long_tells [] is long = none_told TextTooLong long (λ e. cc) (λ e. cc)
    long_tells (line ∷ lines) is long = go (nat_lt size 64) refl
      where
        go : (b : Bool) → nat_lt size 64 ≡ b
            → BatchTells β p mark N D m size ls text
            (record { rows = 0; text = []; lanes = ls; end = cond b ReportFull TextTooLong })
        go true small = none_told ReportFull long (λ e. cc) (λ e. (rw is (omega arith), grind (arith, nat_tests)))
        go false large = none_told TextTooLong long (λ e. cc) (λ e. cc)

    pub batch_tells : BatchTells β p mark N D m size ls text (run_batch β p mark m size ls text)
    unfolding run_batch
    batch_tells = go (nat_lt 65536 (length text)) refl
      where
        go : (b : Bool) → nat_lt 65536 (length text) ≡ b
            → BatchTells β p mark N D m size ls text
            (cond b (refused_text size ls (numbered_lines text)) (run_rows β p mark m 0 size ls (numbered_lines text)))
        go true is = long_tells (lines_of text) refl (grind (arith, nat_tests))
        go false is = short_tells _ (grind (arith, nat_tests)) (rows_run β p mark marked m 0 size ls (lines_of text))
