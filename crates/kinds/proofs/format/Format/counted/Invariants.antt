-- The power of the digits counted so far has not passed the number, and the loop ends where the next would.
use Rattle.std.proofs.Common.{◌+◌, ◌-◌}
use Rattle.kinds.proofs.Words.{Counting}
use Rattle.kinds.proofs.format.Format.counted.Given as goal

abbrev pub invariant-loop-power : goal.invariant-loop-power
invariant-loop-power l = Counting l.self.radix l.n l.power l.count

abbrev pub decreases-loop-power : goal.decreases-loop-power
decreases-loop-power l = l.last + 1 - l.power
