-- The rows before the index are filled, and the others are yet to be.
use Rattle.std.proofs.Common.{◌≡◌, ◌++◌, map, take, drop}
use Rattle.rows.specs.Filling.{filled}
use Rattle.rows.proofs.fill.Given as goal

abbrev pub invariant-loop-row : goal.invariant-loop-row
invariant-loop-row g l =
    let fill = filled g.M.Arith.Kind.RADIX g.M.Arith.Kind.PRECISION (g.M.Method.answer l.console.method)
    l.console.lanes in
    take l.row-index l.rows ++ map fill (drop l.row-index l.rows) ≡ map fill l.initial.rows
