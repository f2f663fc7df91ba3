-- The calls before the index are made, by the method that the console had.
use Rattle.std.proofs.Common.{◌≡◌}
use Rattle.runs.specs.Entries.{calls_of}
use Rattle.runs.proofs.Entries.{MadeBefore}
use Rattle.runs.proofs.make_all.Given as goal

abbrev pub invariant-loop-entry : goal.invariant-loop-entry
invariant-loop-entry g l =
    MadeBefore g.M.Arith.Kind.RADIX g.M.Arith.Kind.PRECISION (g.M.Method.answer l.initial.console.method)
    l.initial.console.lanes (calls_of l.initial.entries) l.entry-index l.entries
    l.console.lanes
    × (l.console.method ≡ l.initial.console.method)
