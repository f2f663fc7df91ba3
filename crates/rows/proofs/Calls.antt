-- The calls of rows, one after the other: none changes a lane, so that each is answered as if it came first.
use Rattle.std.proofs.Common.{◌≡◌, ℕ, List, [], ◌∷◌, Some, None, Option, map, refl}
use Rattle.std.specs.List.{cons_option}
use Rattle.std.specs.Option.{option_map}
use Rattle.kinds.specs.Kinds.{IsKind}
use Rattle.bounds.specs.Methods.{Function, IsReliable}
use Rattle.lanes.specs.declared.Lane.{Lane}
use Rattle.histories.specs.declared.Call.{Call}
use Rattle.runs.specs.Answers.{answer_to}
use Rattle.runs.specs.Entries.{answers_to, lanes_after_all}
use Rattle.runs.proofs.Keeping.{all_keep_track}
use Rattle.rows.specs.declared.Row.{Row}
use Rattle.rows.specs.declared.verbs.Verb.{Verb}
use Rattle.rows.specs.declared.verbs.Verb.TheVariants.{Sum, Determinant, Product}
use Rattle.rows.specs.Rows.{verb_of, call_by, calls_of_rows}
use Rattle.rows.specs.Calls.{StandForCalls}

module _ (β p : ℕ) (m : Function) (ls : List Lane) where
  -- one call before others, if there is a verb for it
  lanes_stay_before : (r : Row) (v : Option Verb) (cs : List Call) → lanes_after_all β p m ls cs ≡ ls
      → lanes_after_all β p m ls (cons_option (option_map (call_by r) v) cs) ≡ ls
  lanes_stay_before r None cs h = h
  lanes_stay_before r (Some Sum) cs h = h
  lanes_stay_before r (Some Determinant) cs h = h
  lanes_stay_before r (Some Product) cs h = h

  lanes_stay : (rs : List Row) → lanes_after_all β p m ls (calls_of_rows rs) ≡ ls
  lanes_stay [] = refl
  lanes_stay (r ∷ rs) = lanes_stay_before r (verb_of r.code) (calls_of_rows rs) (lanes_stay rs)

  answered_alone_before : (r : Row) (v : Option Verb) (cs : List Call)
      → answers_to β p m ls cs ≡ map (answer_to β p m ls) cs
      → answers_to β p m ls (cons_option (option_map (call_by r) v) cs)
      ≡ map (answer_to β p m ls) (cons_option (option_map (call_by r) v) cs)
  answered_alone_before r None cs h = h
  answered_alone_before r (Some Sum) cs h = cc
  answered_alone_before r (Some Determinant) cs h = cc
  answered_alone_before r (Some Product) cs h = cc

  answered_alone : (rs : List Row)
      → answers_to β p m ls (calls_of_rows rs) ≡ map (answer_to β p m ls) (calls_of_rows rs)
  answered_alone [] = refl
  answered_alone (r ∷ rs) = answered_alone_before r (verb_of r.code) (calls_of_rows rs) (answered_alone rs)

module _ (β p : ℕ) (kind : IsKind β p) (N D : ℕ) (m : Function) (law : IsReliable β p N D m) where
  pub stand_for_calls : (ls : List Lane) (rs : List Row) → StandForCalls β p N D m ls rs
  stand_for_calls ls rs = record {
    track = all_keep_track β p kind N D m law ls (calls_of_rows rs);
    lanes = lanes_stay β p m ls rs;
    answers = answered_alone β p m ls rs;
  }
