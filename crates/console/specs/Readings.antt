-- What a reading shows of a lane, and what it says of the calls before it.
use Rattle.std.specs.Prelude.{◌≡◌, ℕ, List, Ok, Result}
use Rattle.lanes.specs.declared.Lane.{Lane}
use Rattle.histories.specs.Histories.{History, course}
use Rattle.histories.specs.Tracking.{Tracks, TrackHistory}
use Rattle.console.specs.declared.Reading.{Reading}

abbrev pub reading_of : Lane → Reading
reading_of l = record { count = l.count; real = l.phasor.real; imaginary = l.phasor.imaginary }

-- a reading, as the lane that it shows
abbrev pub shown_lane : Reading → Lane
shown_lane r = record { phasor = record { real = r.real; imaginary = r.imaginary }; count = r.count }

-- whatever history the lanes track, a reading of the lane i that is not refused shows a lane that tracks its course
pub record ReportsTrack (β p N D : ℕ) (ls : List Lane) (i : ℕ) (answer : Result Reading ℕ) : Type 0 where
  pub reports : (h : History) → TrackHistory β p N D h ls → (r : Reading) → answer ≡ Ok r
      → Tracks β p N D (course β i h) (shown_lane r)
