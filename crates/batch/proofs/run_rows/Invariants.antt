use Rattle.std.proofs.Common.{◌≡◌}
use Rattle.lines.specs.Texts.{numbered_lines}
use Rattle.batch.proofs.Running.{Running}
use Rattle.batch.proofs.run_rows.Given as goal

abbrev pub invariant-loop-line : goal.invariant-loop-line
invariant-loop-line g l = record {
  running : Running g.M.Arith.Kind.RADIX g.M.Arith.Kind.PRECISION g.M.Arith.Kind.MARK
      (g.M.Method.answer l.fn.console.method) l.fn.console.lanes (numbered_lines l.text) l.fn.report l.rows l.used
      l.console.lanes l.report l.line-iterator;
  method : l.console.method ≡ l.fn.console.method;
}
