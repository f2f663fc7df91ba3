-- The theorem on rounding.
use Rattle.rounding.proofs.Meaning.{rounds_to_nearest}
use Rattle.checked_calls.proofs.rounding_is_nearest.Goals as goal

pub returns : goal.returns
returns c = rounds_to_nearest
