-- The answer that was found is the row's.
use Rattle.std.proofs.Common.{sym, ap, ◌∙◌}
use Rattle.rounding.specs.Refusals.{coded}
use Rattle.console_checks.proofs.Sameness.{same_outcome}
use Rattle.console_checks.proofs.tables.row_stands.Goals as goal

pub returns-then-eq : goal.returns-then-eq
returns-then-eq g c = sym c.perform-got.ensures.answer ∙ ap coded (same_outcome _ _ c.if-eq.ensures)
