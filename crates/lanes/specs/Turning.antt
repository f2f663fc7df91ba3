-- What a turn and a restart make of the lanes, and what stops them.
use Rattle.std.specs.Prelude.{ℕ, ◌+◌, ◌≤◌, if◌then◌else◌, List, Some, None, Option, nat_lt}
use Rattle.rounding.specs.declared.Figure.{Figure}
use Rattle.rounding.specs.declared.Refusal.TheVariants.{NoLane, LaneFull, PhasorRange}
use Rattle.rounding.specs.Operations.{reaches}
use Rattle.rounding.specs.Refusals.{number, first, kept}
use Rattle.bounds.specs.Fours.{fault, faults}
use Rattle.bounds.specs.Methods.{Function}
use Rattle.phasors.specs.declared.Phasor.{Phasor}
use Rattle.phasors.specs.Phasors.{product_by}
use Rattle.lanes.specs.declared.Lane.{Lane}
use Rattle.lanes.specs.Lanes.{at, put, fresh_lane}

-- the lane is not 0 to 9
abbrev pub no_lane : ℕ → Option ℕ
no_lane i = if nat_lt i 10 then None else Some (number NoLane)

-- no lane has been turned more than 1,000,000 times
abbrev pub FewTurns : List Lane → Type 0
FewTurns ls = (i : ℕ) → (at ls i).count ≤ 1000000

-- the lane has been turned 1,000,000 times
abbrev pub full : Lane → Option ℕ
full l = if nat_lt l.count 1000000 then None else Some (number LaneFull)

-- the exponent of a part is outside -200..200
abbrev pub far : Figure → Option ℕ
far f = if reaches 200 f then None else Some (number PhasorRange)

abbrev pub strayed : Phasor → Option ℕ
strayed w = first (far w.real) (far w.imaginary)

-- the lane l turned by c + di
abbrev pub turned_by : Function → Lane → Figure → Figure → Lane
turned_by m l c d = record { phasor = product_by m l.phasor c d; count = l.count + 1 }

-- what stops a turn of l by c + di once its operands are accepted: a full lane; a phasor that the method does not
-- accept, which no run of calls leaves; a new phasor that has strayed
abbrev pub lane_fault : ℕ → ℕ → Function → Lane → Figure → Figure → Option ℕ
lane_fault β p m l c d =
    first (full l)
    (first (faults β p l.phasor.real l.phasor.imaginary c d) (strayed (product_by m l.phasor c d)))

-- what stops a turn of the lane numbered i by c + di
unfoldable pub turn_fault : ℕ → ℕ → Function → List Lane → ℕ → Figure → Figure → Option ℕ
turn_fault β p m ls i c d =
    first (no_lane i) (first (fault β p c) (first (fault β p d) (lane_fault β p m (at ls i) c d)))

-- the lanes after a turn, and after a restart
unfoldable pub after_turn : ℕ → ℕ → Function → List Lane → ℕ → Figure → Figure → List Lane
after_turn β p m ls i c d = kept (turn_fault β p m ls i c d) ls (put ls i (turned_by m (at ls i) c d))

unfoldable pub after_restart : ℕ → ℕ → List Lane → ℕ → List Lane
after_restart β p ls i = kept (no_lane i) ls (put ls i (fresh_lane β p))
