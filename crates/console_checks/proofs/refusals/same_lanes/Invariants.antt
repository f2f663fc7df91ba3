-- The lanes before this one show the same.
use Rattle.std.proofs.Common.{◌≡◌, ℕ, ◌<◌}
use Rattle.lanes.specs.Lanes.{at}
use Rattle.console.specs.Readings.{reading_of}
use Rattle.console_checks.proofs.refusals.same_lanes.Given as goal

abbrev pub invariant-loop-lane : goal.invariant-loop-lane
invariant-loop-lane g l = (i : ℕ) → i < l.lane
    → reading_of (at l.one.lanes i) ≡ reading_of (at l.other.lanes i)
