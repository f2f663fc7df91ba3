-- What it says that nothing was at fault with a call.
use Rattle.std.proofs.Common.{◌≡◌, ℕ, ◌<◌, Bool, true, false, cond, nat_lt, Some, None, refl, ap₂, arith}
use Rattle.std.proofs.lemmas.Bool.Decides.{nat_tests}
use Rattle.rounding.specs.declared.Figure.{Figure}
use Rattle.rounding.specs.declared.Refusal.TheVariants.{OperandNoFigure, OperandRange}
use Rattle.rounding.specs.Operations.{is_figure, reaches}
use Rattle.rounding.specs.Refusals.{number, first}
use Rattle.bounds.specs.Fours.{fault, faults, Accepted}
use Rattle.bounds.proofs.Operands.{none_first}
use Rattle.bounds.specs.Methods.{Function}
use Rattle.phasors.specs.Phasors.{product_by}
use Rattle.lanes.specs.declared.Lane.{Lane}
use Rattle.lanes.specs.Turning.{no_lane, full, far, strayed, lane_fault}

-- a test that names a fault unless it holds
passed : (b : Bool) (n : ℕ) → cond b None (Some n) ≡ None → b ≡ true
passed true n h = refl
passed false n h = cc

pub lane_there : (i : ℕ) → no_lane i ≡ None → i < 10
lane_there i h = let t : nat_lt i 10 ≡ true = passed (nat_lt i 10) _ h in grind (arith, nat_tests)

-- a figure of the kind that has not strayed is one that a method accepts
near_accepted : (β p : ℕ) (f : Figure) → is_figure β p f ≡ true → far f ≡ None → fault β p f ≡ None
near_accepted β p f is h = ap₂ (λ (a b : Bool).
    cond a (cond b None (Some (number OperandRange))) (Some (number OperandNoFigure))) is (passed (reaches 200 f) _ h)

-- an accepted turn of the lane l by c + di: the method's two fours are accepted, and the new parts are near
pub record Turnable (β p : ℕ) (m : Function) (l : Lane) (c d : Figure) : Type 0 where
  pub accepted : Accepted β p l.phasor.real l.phasor.imaginary c d
  pub real : is_figure β p (product_by m l.phasor c d).real ≡ true
      → fault β p (product_by m l.phasor c d).real ≡ None
  pub imaginary : is_figure β p (product_by m l.phasor c d).imaginary ≡ true
      → fault β p (product_by m l.phasor c d).imaginary ≡ None

pub turnable : (β p : ℕ) (m : Function) (l : Lane) (c d : Figure) → lane_fault β p m l c d ≡ None
    → Turnable β p m l c d
turnable β p m l c d h =
    let w = product_by m l.phasor c d in
    let taken = faults β p l.phasor.real l.phasor.imaginary c d in
    let rest = (none_first (full l) (first taken (strayed w)) h).1 in
    let strays = none_first (far w.real) (far w.imaginary) (none_first taken (strayed w) rest).1 in
    record {
      accepted = (none_first taken (strayed w) rest).0;
      real = λ is. near_accepted β p w.real is strays.0;
      imaginary = λ is. near_accepted β p w.imaginary is strays.1;
    }
