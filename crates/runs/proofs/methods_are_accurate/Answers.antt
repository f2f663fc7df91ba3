-- The theorems on rounding, on the unit in the last place and on both methods.
use Rattle.rounding.proofs.LastPlaces.{ulp_is_last_place}
use Rattle.rounding.proofs.Meaning.{rounds_to_nearest}
use Rattle.bounds.proofs.Accuracy.{kahan_is_accurate, symmetric_is_accurate}
use Rattle.runs.proofs.methods_are_accurate.Goals as goal

pub returns : goal.returns
returns c = record {
  rounding = rounds_to_nearest;
  place = ulp_is_last_place;
  kahan = kahan_is_accurate;
  symmetric = symmetric_is_accurate;
}
