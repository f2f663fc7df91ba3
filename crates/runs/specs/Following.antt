-- What an answer says of the calls before it.
use Rattle.std.specs.Prelude.{◌≡◌, ℕ, ◌+◌, if◌then◌else◌, ◌⊎◌, List, Some, None, Ok, Err, Option, Result, nat_lt}
use Rattle.rounding.specs.declared.Figure.{Figure}
use Rattle.rounding.specs.declared.Refusal.TheVariants.{LaneFull, PhasorRange}
use Rattle.rounding.specs.Refusals.{number, first, unless}
use Rattle.figures.specs.Figures.{opposite}
use Rattle.bounds.specs.Fours.{fault, faults}
use Rattle.bounds.specs.Methods.{Function}
use Rattle.lanes.specs.declared.Lane.{Lane}
use Rattle.lanes.specs.Turning.{no_lane}
use Rattle.histories.specs.declared.Call.{Call}
use Rattle.histories.specs.declared.Call.TheVariants.{Sum, Determinant, Product, Turn, Restart, Read}
use Rattle.histories.specs.Histories.{History, Course, course}
use Rattle.histories.specs.Tracking.{Tracks, TrackHistory, event, KeepsTrack}
use Rattle.console.specs.declared.Reading.{Reading}
use Rattle.console.specs.Readings.{shown_lane}
use Rattle.runs.specs.declared.Answer.{Answer}
use Rattle.runs.specs.declared.Answer.TheVariants.{Value, Count, Shown}
use Rattle.runs.specs.Answers.{mapped, parts, answer_to, lanes_after}

-- what is at fault with a turn of the lane i by c + di before its product is formed, after so many turns of that lane
abbrev pub foreseen : ℕ → ℕ → ℕ → ℕ → Figure → Figure → Option ℕ
foreseen β p turns i c d =
    first (no_lane i) (first (fault β p c) (first (fault β p d)
    (if nat_lt turns 1000000 then None else Some (number LaneFull))))

-- a turn is refused by what the calls before it foresee; else it answers the number of the lane's turns with this one,
-- or it is refused since the new phasor has strayed
pub record TurnFollows (β p : ℕ) (s : Course) (i : ℕ) (c d : Figure) (r : Result Answer ℕ) : Type 0 where
  pub refused : (e : ℕ) → foreseen β p s.turns i c d ≡ Some e → r ≡ Err e
  pub accepted : foreseen β p s.turns i c d ≡ None
      → (r ≡ Ok (Count (s.turns + 1))) ⊎ (r ≡ Err (number PhasorRange))

-- a reading shows a lane that tracks its course, unless there is no such lane
pub record ReadingFollows (β p N D : ℕ) (s : Course) (i : ℕ) (r : Result Answer ℕ) : Type 0 where
  pub refused : (e : ℕ) → no_lane i ≡ Some e → r ≡ Err e
  pub accepted : no_lane i ≡ None → (shown : Reading) × ((r ≡ Ok (Shown shown)) × Tracks β p N D s (shown_lane shown))

-- the answer r to a call, after the history h
abbrev pub Follows : ℕ → ℕ → ℕ → ℕ → Function → History → Call → Result Answer ℕ → Type 0
Follows β p N D m h (Sum a b c d) r = r ≡ mapped Value (unless (faults β p a b c d) (m a b c d))
Follows β p N D m h (Determinant a b c d) r = r ≡ mapped Value (unless (faults β p a b c d) (m a d (opposite b) c))
Follows β p N D m h (Product a b c d) r =
    r ≡ mapped parts (unless (faults β p a b c d) (m a c (opposite b) d, m a d b c))
Follows β p N D m h (Turn i c d) r = TurnFollows β p (course β i h) i c d r
Follows β p N D m h (Restart i) r = r ≡ mapped Count (unless (no_lane i) 0)
Follows β p N D m h (Read i) r = ReadingFollows β p N D (course β i h) i r

-- whatever history the lanes track, the answer follows from it
pub record FollowsTrack (β p N D : ℕ) (m : Function) (ls : List Lane) (call : Call) (r : Result Answer ℕ) : Type 0 where
  pub follows : (h : History) → TrackHistory β p N D h ls → Follows β p N D m h call r

-- what is proved of a call
pub record CallLaw (β p N D : ℕ) (m : Function) (ls : List Lane) (call : Call) : Type 0 where
  pub track : KeepsTrack β p N D (event call (answer_to β p m ls call)) ls (lanes_after β p m ls call)
  pub follows : FollowsTrack β p N D m ls call (answer_to β p m ls call)
