-- The thirteen examples, computed from the definitions.
use Rattle.std.proofs.Common.{refl}
use Rattle.rounding.specs.Digits.{digits}
use Rattle.rounding.specs.Rounding.{rounded}
use Rattle.bounds.specs.Kahan.{kahan}
use Rattle.bounds.specs.Symmetric.{symmetric}
use Rattle.checked_calls.specs.Calls.{answered}
use Rattle.checked_calls.specs.Examples.{ExamplesHold}

pub examples_hold : ExamplesHold
unfolding answered rounded digits kahan symmetric
examples_hold =
    (refl, (refl, (refl, (refl, (refl, (refl, (refl, (refl, (refl, (refl, (refl, (refl, (refl, tt)))))))))))))
