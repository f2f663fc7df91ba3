-- The thirteen answers, computed from the definitions.
use Rattle.checked_calls.proofs.Computed.{examples_hold}
use Rattle.checked_calls.proofs.definitions_give.Goals as goal

pub returns : goal.returns
returns c = examples_hold
