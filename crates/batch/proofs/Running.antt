-- A batch in the middle of its rows: what was told and what is left to tell are what the whole batch tells.
use Rattle.std.proofs.Common.{◌≡◌, ℕ, ◌+◌, ◌-◌, ◌<◌, ◌≤◌, ◌++◌, List, [], ◌∷◌, length, take, drop, true, false}
use Rattle.std.proofs.Common.{nat_lt}
use Rattle.std.proofs.Common.{refl, sym, ap, subst, ◌∙◌, arith, append_assoc, append-nil, length-append, length-drop}
use Rattle.std.proofs.lemmas.Bool.Decides.{nat_tests}
use Rattle.std.proofs.lemmas.List.{length-take-le, take-append-drop, drop-drop, take_at, drop_at}
use Rattle.std.specs.List.{AllByRecursion}
use Rattle.bounds.specs.Methods.{Function}
use Rattle.lanes.specs.declared.Lane.{Lane}
use Rattle.reports.specs.Reports.{report_line}
use Rattle.batch.specs.Rows.{row_answer, row_lanes}
use Rattle.batch.specs.Batches.{Ran, joined, run_rows, reported}

pub record Running (β p mark : ℕ) (m : Function) (from : List Lane) (all : List (ℕ × List ℕ)) (old : List ℕ)
    (rows used : ℕ) (ls : List Lane) (now : List ℕ) (rest : List (ℕ × List ℕ)) : Type 0 where
  pub run : joined (take used now) (run_rows β p mark m rows (length now - used) ls rest)
      ≡ run_rows β p mark m 0 (length old) from all
  pub behind : drop used now ≡ drop used old
  pub within : used ≤ length now
  pub size : length now ≡ length old
  pub small : AllByRecursion (λ line. line.0 < 100000) rest

module _ (β p mark : ℕ) (m : Function) (from : List Lane) (all : List (ℕ × List ℕ)) (old : List ℕ) where
  -- nothing told before what a run tells changes nothing
  untold : (n free : ℕ) (ls : List Lane) (rest : List (ℕ × List ℕ))
      → joined [] (run_rows β p mark m n free ls rest) ≡ run_rows β p mark m n free ls rest
  untold n free ls rest = go (run_rows β p mark m n free ls rest)
    where
      go : (r : Ran) → joined [] r ≡ r
      go r = refl

  -- before the first row
  pub running_begun : AllByRecursion (λ (line : ℕ × List ℕ). line.0 < 100000) all
      → Running β p mark m from all old 0 0 from old all
  running_begun small = record {
    run = ap (λ (free : ℕ). joined [] (run_rows β p mark m 0 free from all)) (omega arith)
        ∙ untold 0 (length old) from all;
    behind = refl;
    within = omega arith;
    size = refl;
    small = small;
  }

  -- more is told behind what was told
  joined_twice : (told more : List ℕ) (r : Ran) → joined (told ++ more) r ≡ joined told (joined more r)
  joined_twice told more r =
      ap (λ (text : List ℕ). run_of text) (append_assoc told more r.text)
    where
      run_of : List ℕ → Ran
      run_of text = record { rows = r.rows; text = text; lanes = r.lanes; end = r.end }

  module _ (rows used : ℕ) (ls : List Lane) (now : List ℕ) where
    -- where all that is told was written, the report holds it, and behind it what stood there
    whole : (r : Ran) → r.text ≡ take used now ++ [] → drop used now ≡ drop used old → used ≤ length now
        → now ≡ reported r old
    whole r text same within =
        let told : r.text ≡ take used now = text ∙ append-nil (take used now) in
        rw told (
        rw (length-take-le used now within)
        (sym (take-append-drop used now) ∙ ap (λ (l : List ℕ). take used now ++ l) same)
        )

    -- at a row for which there is no room
    stopped_run : (free : ℕ) (line : ℕ × List ℕ) (rest : List (ℕ × List ℕ)) → nat_lt free 64 ≡ true
        → (run_rows β p mark m rows free ls (line ∷ rest)).text ≡ []
    stopped_run free line rest none = rw none refl

    pub running_full : (line : ℕ × List ℕ) (rest : List (ℕ × List ℕ))
        → Running β p mark m from all old rows used ls now (line ∷ rest) → length now - used < 64
        → now ≡ reported (run_rows β p mark m 0 (length old) from all) old
    running_full line rest running full =
        let none : nat_lt (length now - used) 64 ≡ true = grind (arith, nat_tests) in
        whole (run_rows β p mark m 0 (length old) from all)
        (ap (λ (r : Ran). r.text) (sym running.run)
        ∙ ap (λ (text : List ℕ). take used now ++ text) (stopped_run (length now - used) line rest none))
        running.behind running.within

    -- a row for which there is room
    run_on : (free : ℕ) (line : ℕ × List ℕ) (rest : List (ℕ × List ℕ)) (told : List ℕ) (left : List Lane)
        → nat_lt free 64 ≡ false → told ≡ report_line mark line.0 (row_answer β p mark m ls line.1)
        → left ≡ row_lanes β p mark m ls line.1
        → run_rows β p mark m rows free ls (line ∷ rest)
        ≡ joined told (run_rows β p mark m line.0 (free - length told) left rest)
    run_on free line rest told left some is left_is = rw some rw is rw left_is refl

    -- one row more
    more : (line : ℕ × List ℕ) (rest : List (ℕ × List ℕ)) (told new : List ℕ) (left : List Lane)
        → Running β p mark m from all old rows used ls now (line ∷ rest) → 64 ≤ length now - used
        → told ≡ report_line mark line.0 (row_answer β p mark m ls line.1) → length told ≤ 64
        → left ≡ row_lanes β p mark m ls line.1
        → new ≡ take used now ++ (told ++ drop (used + length told) now)
        → Running β p mark m from all old line.0 (used + length told) left new rest
    more line rest told new left running room is short left_is new_is = record {
      run =
          ap (λ (text : List ℕ). joined text (run_rows β p mark m line.0 (length new - end) left rest)) front
          ∙ ap (λ (free : ℕ). joined (take used now ++ told) (run_rows β p mark m line.0 free left rest))
          (omega (arith, size))
          ∙ joined_twice (take used now) told _
          ∙ ap (joined (take used now)) (sym (run_on (length now - used) line rest told left some is left_is))
          ∙ running.run;
      behind = back ∙ drops now ∙ ap (drop (length told)) running.behind ∙ sym (drops old);
      within = omega (arith, size);
      size = size ∙ running.size;
      small = running.small.1;
    }
      where
        end : ℕ
        end = used + length told

        some : nat_lt (length now - used) 64 ≡ false
        some = grind (arith, nat_tests)

        drops : (l : List ℕ) → drop end l ≡ drop (length told) (drop used l)
        drops l = sym (drop-drop (length told) used l)

        rest_is : new ≡ (take used now ++ told) ++ drop end now
        rest_is = new_is ∙ sym (append_assoc (take used now) told (drop end now))

        kept : length (take used now) ≡ used
        kept = length-take-le used now running.within

        filled : length (take used now ++ told) ≡ end
        filled = length-append (take used now) told ∙ ap (λ (n : ℕ). n + length told) kept

        front : take end new ≡ take used now ++ told
        front = ap (take end) rest_is ∙ take_at (take used now ++ told) (drop end now) end filled

        back : drop end new ≡ drop end now
        back = ap (drop end) rest_is ∙ drop_at (take used now ++ told) (drop end now) end filled

        size : length new ≡ length now
        size =
            let all = ap length rest_is ∙ length-append (take used now ++ told) (drop end now) in
            omega (arith, all, filled, length-drop end now, running.within, room, short)

    -- the same, where the new end is told beside the line
    pub running_more : (line : ℕ × List ℕ) (rest : List (ℕ × List ℕ)) (told new : List ℕ) (left : List Lane) (end : ℕ)
        → Running β p mark m from all old rows used ls now (line ∷ rest) → 64 ≤ length now - used
        → told ≡ report_line mark line.0 (row_answer β p mark m ls line.1) → end ≡ used + length told → end ≤ used + 64
        → left ≡ row_lanes β p mark m ls line.1 → new ≡ take used now ++ (told ++ drop end now)
        → Running β p mark m from all old line.0 end left new rest
    running_more line rest told new left end running room is end_is short left_is new_is =
        subst (λ e. Running β p mark m from all old line.0 e left new rest) (sym end_is)
        (more line rest told new left running room is (omega (arith, end_is, short)) left_is
        (subst (λ e. new ≡ take used now ++ (told ++ drop e now)) end_is new_is))
