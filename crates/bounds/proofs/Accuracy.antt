-- The methods' promises, gathered.
use Rattle.bounds.specs.Accuracy.{KahanIsAccurate, SymmetricIsAccurate}
use Rattle.bounds.proofs.Answers.{kahan_within, kahan_places, symmetric_limit, symmetric_exchanged}
use Rattle.bounds.proofs.Chains.{kahan_steps_lem, symmetric_steps_lem}

pub kahan_is_accurate : KahanIsAccurate
kahan_is_accurate β p kind a b c d accepted = record {
  answer = kahan_steps_lem β p kind a b c d accepted;
  within = kahan_within β p kind a b c d accepted;
  places = kahan_places β p kind a b c d accepted;
}

pub symmetric_is_accurate : SymmetricIsAccurate
symmetric_is_accurate p kind a b c d accepted = record {
  answer = symmetric_steps_lem 2 p kind a b c d accepted;
  within = symmetric_limit 2 p kind a b c d accepted;
  exchanged = symmetric_exchanged 2 p a b c d;
}
