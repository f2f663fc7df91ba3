-- The refusal of the sum tells the fault.
use Rattle.std.proofs.Common.{sym, ap, ◌∙◌}
use Rattle.rounding.specs.Refusals.{coded}
use Rattle.checks.proofs.Outcomes.{fault_of}
use Rattle.checks.proofs.fours.four_refused.Goals as goal

pub returns : goal.returns
returns g c = fault_of _ _ _ (sym c.sum.ensures ∙ ap coded c.in_ok-refuses.ensures)
