-- One and zero: both are figures that a method accepts, and they stand for the exact number one.
use Rattle.std.proofs.Common.{◌≡◌, ℕ, ◌+◌, ◌-◌, ◌*◌, ◌^◌, ◌<◌, ◌≤◌, Bool, true, cond, if◌then◌else◌, ◌&&◌, ◌==◌}
use Rattle.std.proofs.Common.{nat_lt, nat_le, ℤ, pos, ◌-ℤ◌, unsigned_abs, ◌≤ℤ◌, Some, None, sym, ap, ◌∙◌, subst, ap₂}
use Rattle.std.proofs.Common.{arith, pow-add}
use borrow.Author.Differences.{ints}
use Rattle.std.proofs.lemmas.Bool.Decides.{nat_tests}
use Rattle.whole.proofs.Comparisons.{size_same}
use Rattle.whole.proofs.Integers.{one_left}
use Rattle.whole.proofs.Powers.{power_pos}
use Rattle.rounding.specs.declared.Refusal.TheVariants.{OperandNoFigure, OperandRange}
use Rattle.rounding.specs.Exact.{value, units, distance}
use Rattle.rounding.specs.Refusals.{number}
use Rattle.rounding.specs.Rounding.{zero_figure}
use Rattle.figures.specs.Figures.{one_figure}
use Rattle.kinds.specs.Kinds.{IsKind}
use Rattle.kinds.proofs.Sizes.{radix_two, few_digits, least_below}
use Rattle.bounds.specs.Fours.{fault}
use Rattle.phasors.specs.Complex.{real_part, imaginary_part, unity}
use Rattle.phasors.specs.Phasors.{unit}
use Rattle.phasors.specs.Distances.{square, length², NearAfter}

module _ (β p : ℕ) (kind : IsKind β p) where
  -- the exponent of one is at least -23
  low : unsigned_abs (pos 1 -ℤ pos p) ≤ 23
  low = plain p kind.1 (few_digits β p kind)
    where
      plain : (p : ℕ) → 2 ≤ p → p ≤ 24 → unsigned_abs (pos 1 -ℤ pos p) ≤ 23
      plain p h g = omega (arith, ints)

  pub one_accepted : fault β p (one_figure β p) ≡ None
  one_accepted = plain (β ^ (p - 1)) (β ^ p) (unsigned_abs (pos 1 -ℤ pos p)) (power_pos β (p - 1) (radix_two β p kind))
      (least_below β p kind) low
    where
      plain : (B P n : ℕ) → 1 ≤ B → B < P → n ≤ 23
          → (if (if B == 0 then n == 0 else (nat_le B B && (nat_lt B P && nat_le n 2000)))
          then (if nat_le n 200 then None else Some (number OperandRange)) else Some (number OperandNoFigure)) ≡ None
      plain B P n some below near = ap₂ (λ (f r : Bool).
          cond f (cond r None (Some (number OperandRange))) (Some (number OperandNoFigure))) (is some below near) reach
        where
          is : 1 ≤ B → B < P → n ≤ 23
              → (if B == 0 then n == 0 else (nat_le B B && (nat_lt B P && nat_le n 2000))) ≡ true
          is h g l = grind (arith, nat_tests)

          reach : nat_le n 200 ≡ true
          reach = grind (arith, nat_tests)

  one_is : (k : ℤ) → k ≤ℤ (one_figure β p).q → units β k (value (one_figure β p)) ≡ units β k (real_part unity)
  one_is k h =
      ap pos (sym (pow-add β (p - 1) (unsigned_abs ((pos 1 -ℤ pos p) -ℤ k)))
      ∙ ap (λ (n : ℕ). β ^ n) (far p kind.1 h)) ∙ sym (one_left (pos (β ^ unsigned_abs (pos 0 -ℤ k))))
    where
      far : (p : ℕ) → 2 ≤ p → k ≤ℤ (pos 1 -ℤ pos p)
          → (p - 1) + unsigned_abs ((pos 1 -ℤ pos p) -ℤ k) ≡ unsigned_abs (pos 0 -ℤ k)
      far p some h = omega (arith, ints)

  pub unit_near : (N D : ℕ) → NearAfter β N D 0 (unit β p) unity
  unit_near N D k kr ki kz =
      nothing (distance β k (value (one_figure β p)) (real_part unity))
      (distance β k (value zero_figure) (imaginary_part unity))
      (D ^ (2 * 0)) (square ((D + N) ^ 0 - D ^ 0) * length² β k unity)
      (ap (λ (x : ℤ). unsigned_abs (x -ℤ units β k (real_part unity))) (one_is k kr)
      ∙ size_same (units β k (real_part unity)))
      (size_same (units β k (imaginary_part unity)))
    where
      nothing : (a b F W : ℕ) → a ≡ 0 → b ≡ 0 → (a * a + b * b) * F ≤ W
      nothing a b F W e f = subst (λ (n : ℕ). (n * n + b * b) * F ≤ W) (sym e)
          (subst (λ (n : ℕ). (0 * 0 + n * n) * F ≤ W) (sym f) (omega arith))
