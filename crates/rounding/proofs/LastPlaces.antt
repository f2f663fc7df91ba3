-- The unit in the last place is the power of the radix in which a number has p digits.
use Rattle.std.proofs.Common.{◌≡◌, ℕ, ◌+◌, ◌-◌, ◌*◌, ◌^◌, ◌<◌, ◌≤◌, Bool, true, false, cond, ◌==◌, ℤ, pos, ◌+ℤ◌, ◌-ℤ◌}
use Rattle.std.proofs.Common.{unsigned_abs, ◌≤ℤ◌, sym, refl, ap, ◌∙◌, subst, mul-le-mul_right, mul-lt-mul_of_pos_right}
use Rattle.std.proofs.Common.{arith}
use borrow.Author.Differences.{ints}
use Rattle.std.proofs.lemmas.Bool.Decides.{nat_tests}
use Rattle.std.proofs.lemmas.Int.{unsigned_abs-mul}
use Rattle.whole.proofs.Powers.{power_pos, power_parts}
use Rattle.rounding.specs.Exact.{Exact, units}
use Rattle.rounding.specs.Digits.{digits}
use Rattle.rounding.specs.Errors.{ulp, UlpIsLastPlace}
use Rattle.rounding.proofs.Digits.{digits_some, digits_low, digits_high}

abbrev none : Exact
none = record { m = pos 0; e = pos 0 }

abbrev place : ℕ → ℕ → Exact → Exact
place β p x = record { m = pos 1; e = x.e +ℤ pos (digits β (unsigned_abs x.m)) -ℤ pos p }

ulp_zero : (β p : ℕ) (x : Exact) → unsigned_abs x.m ≡ 0 → ulp β p x ≡ none
unfolding ulp
ulp_zero β p x h =
    let t : (unsigned_abs x.m == 0) ≡ true = grind (arith, nat_tests) in ap (λ (b : Bool). cond b none (place β p x)) t

ulp_full : (β p : ℕ) (x : Exact) → 0 < unsigned_abs x.m → ulp β p x ≡ place β p x
unfolding ulp
ulp_full β p x h =
    let t : (unsigned_abs x.m == 0) ≡ false = grind (arith, nat_tests) in ap (λ (b : Bool). cond b none (place β p x)) t

-- one unit of β^e, in units of β^k
pub units_one : (β : ℕ) (k e : ℤ) → unsigned_abs (units β k (record { m = pos 1; e = e })) ≡ β ^ unsigned_abs (e -ℤ k)
units_one β k e = unsigned_abs-mul (pos 1) (pos (β ^ unsigned_abs (e -ℤ k))) ∙ omega arith

module _ (β p : ℕ) (two : 2 ≤ β) (some : 1 ≤ p) (x : Exact) (full : 0 < unsigned_abs x.m) where
  -- |x| has D digits, so in units of β^k it has D + i, which is p + l
  module _ (k : ℤ) (kx : k ≤ℤ x.e) (ku : k ≤ℤ (place β p x).e) where
    D : ℕ
    D = digits β (unsigned_abs x.m)

    i : ℕ
    i = unsigned_abs (x.e -ℤ k)

    l : ℕ
    l = unsigned_abs ((place β p x).e -ℤ k)

    counts : (e : ℤ) (D : ℕ) → k ≤ℤ e → k ≤ℤ (e +ℤ pos D -ℤ pos p)
        → D + unsigned_abs (e -ℤ k) ≡ p + unsigned_abs (e +ℤ pos D -ℤ pos p -ℤ k)
    counts e D a b = omega (arith, ints)

    size : unsigned_abs (units β k x) ≡ unsigned_abs x.m * β ^ i
    unfolding i
    size = unsigned_abs-mul x.m (pos (β ^ unsigned_abs (x.e -ℤ k)))

    pub least : β ^ (p - 1) * unsigned_abs (units β k (place β p x)) ≤ unsigned_abs (units β k x)
    unfolding D i l
    least =
        let lo : β ^ (D - 1) * β ^ i ≤ unsigned_abs x.m * β ^ i =
        mul-le-mul_right (β ^ i) (digits_low β (unsigned_abs x.m) two full) in
        let e : β ^ (D - 1) * β ^ i ≡ β ^ (p - 1) * β ^ l = sym (power_parts β (D - 1) i (D - 1 + i) refl)
        ∙ power_parts β (p - 1) l (D - 1 + i)
        (less D i l (digits_some β (unsigned_abs x.m) two) (counts x.e D kx ku)) in
        subst (λ (n : ℕ). β ^ (p - 1) * n ≤ unsigned_abs (units β k x)) (sym (units_one β k (place β p x).e))
        (subst (λ (n : ℕ). β ^ (p - 1) * β ^ l ≤ n) (sym size) (omega arith))
      where
        less : (D i l : ℕ) → 1 ≤ D → D + i ≡ p + l → p - 1 + l ≡ D - 1 + i
        less D i l a b = omega arith

    pub most : unsigned_abs (units β k x) < β ^ p * unsigned_abs (units β k (place β p x))
    unfolding D i l
    most =
        let hi : unsigned_abs x.m * β ^ i < β ^ D * β ^ i =
        mul-lt-mul_of_pos_right (digits_high β (unsigned_abs x.m) two) (power_pos β i two) in
        let e : β ^ D * β ^ i ≡ β ^ p * β ^ l = sym (power_parts β D i (D + i) refl)
        ∙ power_parts β p l (D + i) (sym (counts x.e D kx ku)) in
        subst (λ (n : ℕ). unsigned_abs (units β k x) < β ^ p * n) (sym (units_one β k (place β p x).e))
        (subst (λ (n : ℕ). n < β ^ p * β ^ l) (sym size) (omega arith))

pub ulp_is_last_place : UlpIsLastPlace
ulp_is_last_place β p two some x = record {
  zero = λ z. ap (λ (u : Exact). u.m) (ulp_zero β p x z);
  power = λ z. ap (λ (u : Exact). u.m) (ulp_full β p x z);
  least = λ z. subst (λ (u : Exact). (k : ℤ) → k ≤ℤ x.e → k ≤ℤ u.e
      → β ^ (p - 1) * unsigned_abs (units β k u) ≤ unsigned_abs (units β k x)) (sym (ulp_full β p x z))
      (least β p two some x z);
  most = λ z. subst (λ (u : Exact). (k : ℤ) → k ≤ℤ x.e → k ≤ℤ u.e
      → unsigned_abs (units β k x) < β ^ p * unsigned_abs (units β k u)) (sym (ulp_full β p x z))
      (most β p two some x z);
}
