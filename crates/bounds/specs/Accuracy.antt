-- What is promised of the methods' answers to accepted fours, for every radix and precision of an arithmetic.
use Rattle.std.specs.Prelude.{◌≡◌, ℕ, ◌+◌, ◌-◌, ◌^◌, Ok}
use Rattle.rounding.specs.declared.Figure.{Figure}
use Rattle.rounding.specs.Exact.{value}
use Rattle.rounding.specs.Errors.{Within, WithinPlaces}
use Rattle.kinds.specs.Kinds.{IsKind}
use Rattle.bounds.specs.Fours.{Accepted, exact_sum, limit_num, limit_den}
use Rattle.bounds.specs.Kahan.{kahan, kahan_steps}
use Rattle.bounds.specs.Symmetric.{symmetric, symmetric_steps}

-- Kahan's four operations are not refused, and their answer is within 1/B of ab + cd, and within (β + 1)/2 units of its
-- last place
pub record KahanAccurate (β p : ℕ) (a b c d : Figure) : Type 0 where
  pub answer : kahan_steps β p a b c d ≡ Ok (kahan β p a b c d)
  pub within : Within β 1 (β ^ (p - 1)) (value (kahan β p a b c d)) (exact_sum β a b c d)
  pub places : WithinPlaces β p (β + 1) 2 (value (kahan β p a b c d)) (exact_sum β a b c d)

abbrev pub KahanIsAccurate : Type 0
KahanIsAccurate =
    (β p : ℕ) → IsKind β p → (a b c d : Figure) → Accepted β p a b c d → KahanAccurate β p a b c d

-- the symmetric method's seven operations are not refused, their answer is within (4B² + 7B + 3)/(4B³) of ab + cd, and
-- with the two products exchanged it is the same figure
pub record SymmetricAccurate (β p : ℕ) (a b c d : Figure) : Type 0 where
  pub answer : symmetric_steps β p a b c d ≡ Ok (symmetric β p a b c d)
  pub within : Within β (limit_num (β ^ (p - 1))) (limit_den (β ^ (p - 1)))
      (value (symmetric β p a b c d)) (exact_sum β a b c d)
  pub exchanged : symmetric β p a b c d ≡ symmetric β p c d a b

abbrev pub SymmetricIsAccurate : Type 0
SymmetricIsAccurate = (p : ℕ) → IsKind 2 p → (a b c d : Figure) → Accepted 2 p a b c d → SymmetricAccurate 2 p a b c d
