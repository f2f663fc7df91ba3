-- What it is to be a number or a lane: to be the text that is written for one.
use Rattle.std.specs.Prelude.{◌≡◌, ◌↔◌, ◌⊎◌, Option, Some, ℕ, ◌<◌, ◌^◌, List, decimal, unsigned_abs}
use Rattle.spelling.specs.Spelled.{spelled}
use Rattle.reading.specs.declared.Numeral.{Numeral}

-- the word is the text of the number n: a significand below 10^8, an exponent below 10^4 and p or e between them
pub record IsSpelled (word : List ℕ) (n : Numeral) : Type 0 where
  pub text : word ≡ spelled n.mark n.figure.s n.figure.q
  pub significand : unsigned_abs n.figure.s < 10 ^ 8
  pub exponent : unsigned_abs n.figure.q < 10 ^ 4
  pub mark : (n.mark ≡ 112) ⊎ (n.mark ≡ 101)

-- the word is the text of the lane n
pub record IsLane (word : List ℕ) (n : ℕ) : Type 0 where
  pub text : word ≡ decimal n
  pub below : n < 100

-- r is the one x with P x, and None where there is none
unfoldable pub IsTheOne : {X : Type 0} → (X → Type 0) → Option X → Type 0
IsTheOne {X} P r = (x : X) → (r ≡ Some x) ↔ P x
