use Rattle.std.proofs.Common.{◌≡◌, ◌++◌}
use Rattle.operations.specs.Operations.{answer_lines}
use Rattle.operations.proofs.Lines.{answers_to}
use Rattle.operations.proofs.answer_lines.Given as goal

-- what was answered, and the answers to the lines that are left
abbrev pub invariant-loop-line : goal.invariant-loop-line
invariant-loop-line l = l.answers.items ++ answers_to l.line-iterator ≡ answer_lines l.text
