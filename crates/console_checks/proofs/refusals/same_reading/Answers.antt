-- Readings that compare as equal are the same.
use Rattle.std.proofs.Common.{sym}
use Rattle.console_checks.proofs.Sameness as sameness
use Rattle.console_checks.proofs.refusals.same_reading.Goals as goal

pub returns-then-eq : goal.returns-then-eq
returns-then-eq c = sameness.same_reading c.args.one c.args.other (sym c.if-eq.ensures)
