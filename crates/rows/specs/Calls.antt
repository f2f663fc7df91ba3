-- What is proved of the calls that rows stand for.
use Rattle.std.specs.Prelude.{◌≡◌, ℕ, List, map}
use Rattle.bounds.specs.Methods.{Function}
use Rattle.lanes.specs.declared.Lane.{Lane}
use Rattle.runs.specs.Answers.{answer_to}
use Rattle.runs.specs.Entries.{answers_to, lanes_after_all, AllKeepTrack}
use Rattle.rows.specs.declared.Row.{Row}
use Rattle.rows.specs.Rows.{calls_of_rows}

-- made in order of a console that holds the lanes ls, the calls of the rows keep track of every history that the lanes
-- tracked; they leave the lanes as they are; and each answers what it would answer alone
pub record StandForCalls (β p N D : ℕ) (m : Function) (ls : List Lane) (rs : List Row) : Type 0 where
  pub track : AllKeepTrack β p N D m ls (calls_of_rows rs)
  pub lanes : lanes_after_all β p m ls (calls_of_rows rs) ≡ ls
  pub answers : answers_to β p m ls (calls_of_rows rs) ≡ map (answer_to β p m ls) (calls_of_rows rs)
