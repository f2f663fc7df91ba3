-- An accepted four is accepted in any order, and with an operand's sign turned.
use Rattle.std.proofs.Common.{◌≡◌, ℕ, ◌-◌, ◌^◌, ◌<◌, Bool, true, cond, ◌&&◌, ◌==◌, nat_lt, nat_le, unsigned_abs, Some}
use Rattle.std.proofs.Common.{None, Option, ap, ◌∙◌, inl, inr, arith}
use Rattle.std.proofs.lemmas.Bool.Decides.{nat_tests}
use Rattle.whole.proofs.Integers.{unsigned_abs_neg}
use Rattle.rounding.specs.declared.Figure.{Figure}
use Rattle.rounding.specs.declared.Refusal.TheVariants.{OperandNoFigure, OperandRange}
use Rattle.rounding.specs.Operations.{reaches}
use Rattle.rounding.specs.Refusals.{number, first}
use Rattle.figures.specs.Figures.{opposite, flipped}
use Rattle.kinds.specs.Kinds.{IsKind}
use Rattle.bounds.specs.Fours.{fault, Accepted}
use Rattle.bounds.proofs.Operands.{normal_of, none_first, four}

-- the faults of an accepted four
record Faultless (β p : ℕ) (a b c d : Figure) : Type 0 where
  of_a : fault β p a ≡ None
  of_b : fault β p b ≡ None
  of_c : fault β p c ≡ None
  of_d : fault β p d ≡ None

faultless : (β p : ℕ) (a b c d : Figure) → Accepted β p a b c d → Faultless β p a b c d
faultless β p a b c d h =
    let x = none_first (fault β p a) (first (fault β p b) (first (fault β p c) (fault β p d))) h in
    let y = none_first (fault β p b) (first (fault β p c) (fault β p d)) x.1 in
    let z = none_first (fault β p c) (fault β p d) y.1 in
    record { of_a = x.0; of_b = y.0; of_c = z.0; of_d = z.1 }

-- figures that are each accepted, as a four
pub together : (β p : ℕ) (a b c d : Figure) → fault β p a ≡ None → fault β p b ≡ None → fault β p c ≡ None
    → fault β p d ≡ None → Accepted β p a b c d
together β p a b c d ea eb ec ed =
    ap (λ (o : Option ℕ). first o (first (fault β p b) (first (fault β p c) (fault β p d)))) ea
    ∙ ap (λ (o : Option ℕ). first o (first (fault β p c) (fault β p d))) eb
    ∙ ap (λ (o : Option ℕ). first o (fault β p d)) ec ∙ ed

-- the sign plays no part in the test
fault_opposite : (β p : ℕ) (f : Figure) → fault β p (opposite f) ≡ fault β p f
fault_opposite β p f = ap (λ (s : ℕ).
    cond (cond (s == 0) (unsigned_abs f.q == 0) (nat_le (β ^ (p - 1)) s && (nat_lt s (β ^ p) && reaches 2000 f)))
    (cond (reaches 200 f) None (Some (number OperandRange))) (Some (number OperandNoFigure))) (unsigned_abs_neg f.s)

module _ (β p : ℕ) (kind : IsKind β p) (a b c d : Figure) (accepted : Accepted β p a b c d) where
  all : Faultless β p a b c d
  all = faultless β p a b c d accepted

  turned : fault β p (opposite b) ≡ None
  turned = fault_opposite β p b ∙ all.of_b

  pub flipped_opposite : flipped b ≡ opposite b
  flipped_opposite =
      let small : unsigned_abs b.s < 2 ^ 31 = word in
      let t : nat_lt (unsigned_abs b.s) (2 ^ 31) ≡ true = grind (arith, nat_tests) in
      ap (λ (x : Bool). cond x (opposite b) b) t
    where
      word : unsigned_abs b.s < 2 ^ 31
      word = elim (normal_of β p b (four β p a b c d accepted).b_in.figure) [
        | inl z ↦ omega (arith, ap unsigned_abs z.0)
        | inr n ↦ omega (arith, n.1, kind.3)
      ]

  pub determinant_accepted : Accepted β p a d (opposite b) c
  determinant_accepted = together β p a d (opposite b) c all.of_a all.of_d turned all.of_c

  pub real_accepted : Accepted β p a c (opposite b) d
  real_accepted = together β p a c (opposite b) d all.of_a all.of_c turned all.of_d

  pub imaginary_accepted : Accepted β p a d b c
  imaginary_accepted = together β p a d b c all.of_a all.of_d all.of_b all.of_c
