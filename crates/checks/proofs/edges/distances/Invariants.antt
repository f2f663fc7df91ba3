-- What is added only shrinks, so that every sum of the loop fits.
use Rattle.std.proofs.Common.{◌≤◌, ◌/◌}
use Rattle.checks.proofs.edges.distances.Given as goal

abbrev pub invariant-loop-d : goal.invariant-loop-d
invariant-loop-d g l = l.finer ≤ l.format.top / 2
