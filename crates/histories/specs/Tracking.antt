-- The law of the lanes: after every history each lane counts the turns that were accepted since it was last fresh, and
-- its phasor is as near to the exact product of their factors as so many turns allow.
use Rattle.std.specs.Prelude.{◌≡◌, ℕ, ◌<◌, Bool, true, false, List, ◌∷◌, length, None, Ok, Err, Result}
use Rattle.bounds.specs.Fours.{fault}
use Rattle.phasors.specs.Distances.{NearAfter}
use Rattle.lanes.specs.declared.Lane.{Lane}
use Rattle.lanes.specs.Lanes.{at}
use Rattle.histories.specs.declared.Call.{Call}
use Rattle.histories.specs.Histories.{Event, History, Course, course}

-- a lane tracks its course, with the allowance N/D for each turn: its count is the number of the turns, its phasor is a
-- pair of figures that a method accepts, and |phasor - product| ≤ ((1 + N/D)^turns - 1) |product|
pub record Tracks (β p N D : ℕ) (s : Course) (l : Lane) : Type 0 where
  pub count : l.count ≡ s.turns
  pub real : fault β p l.phasor.real ≡ None
  pub imaginary : fault β p l.phasor.imaginary ≡ None
  pub near : NearAfter β N D s.turns l.phasor s.product

-- ten lanes track a history: each tracks its course
pub record TrackHistory (β p N D : ℕ) (h : History) (ls : List Lane) : Type 0 where
  pub ten : length ls ≡ 10
  pub each : (i : ℕ) → i < 10 → Tracks β p N D (course β i h) (at ls i)

abbrev pub is_refused : {X : Type 0} → Result X ℕ → Bool
is_refused (Ok x) = false
is_refused (Err e) = true

-- a call with what it answered, as an event
abbrev pub event : {X : Type 0} → Call → Result X ℕ → Event
event call r = record { call = call; refused = is_refused r }

-- whatever history the lanes tracked before the event, afterwards they track that history with the event
pub record KeepsTrack (β p N D : ℕ) (e : Event) (before after : List Lane) : Type 0 where
  pub keeps : (h : History) → TrackHistory β p N D h before → TrackHistory β p N D (e ∷ h) after
