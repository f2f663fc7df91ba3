-- What a refused call tells: its fault.
use Rattle.std.proofs.Common.{◌≡◌, ℕ, Some, None, Err, Option}
use Rattle.rounding.specs.Refusals.{unless}

-- a call is refused with n only where n is what is at fault
pub fault_of : {X : Type 0} (o : Option ℕ) (x : X) (n : ℕ) → unless o x ≡ Err n → o ≡ Some n
fault_of (Some e) x n h = cc
fault_of None x n h = cc
