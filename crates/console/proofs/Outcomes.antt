-- What an outcome, a refusal or a value, says of the fault that decided it.
use Rattle.std.proofs.Common.{◌≡◌, ℕ, Some, None, Ok, Err, Option, Result, refl}
use Rattle.rounding.specs.Refusals.{unless, kept}

pub refused : {X : Type 0} (o : Option ℕ) (x : X) (n : ℕ) → ◌≡◌ {A = Result X ℕ} (Err n) (unless o x) → o ≡ Some n
refused (Some e) x n h = cc
refused None x n h = cc

pub answered : {X : Type 0} (o : Option ℕ) (x y : X) → ◌≡◌ {A = Result X ℕ} (Ok y) (unless o x)
    → (o ≡ None) × (y ≡ x)
answered (Some e) x y h = cc
answered None x y h = (refl, cc)

-- another call with the same fault is refused alike, and leaves the state as it was
pub refused_alike : {X : Type 0} (o : Option ℕ) (x : X) (n : ℕ) → o ≡ Some n → Err n ≡ unless o x
refused_alike o x n none = rw none refl

pub refused_keeps : {X : Type 0} (o : Option ℕ) (old new : X) (n : ℕ) → o ≡ Some n → old ≡ kept o old new
refused_keeps o old new n none = rw none refl

-- and with nothing at fault answers its value, and leaves the new state
pub answered_alike : {X : Type 0} (o : Option ℕ) (x : X) → o ≡ None → Ok x ≡ unless o x
answered_alike o x none = rw none refl

pub answered_sets : {X : Type 0} (o : Option ℕ) (old new : X) → o ≡ None → new ≡ kept o old new
answered_sets o old new none = rw none refl
