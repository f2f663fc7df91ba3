-- Numbers of d digits brought to p digits: by zeros appended, or by digits dropped.
use Rattle.std.proofs.Common.{◌≡◌, ℕ, ◌+◌, ◌-◌, ◌*◌, ◌/◌, ◌%◌, ◌^◌, ◌<◌, ◌≤◌, sym, subst, mul-le-mul_right, mod-lt}
use Rattle.std.proofs.Common.{div-lt_iff_lt-mul, div-add-mod', le-div_iff_mul-le, arith}
use Rattle.whole.proofs.Powers.{power_pos, power_order, power_even, power_parts}
use Rattle.rounding.specs.Digits.{digits}
use Rattle.rounding.proofs.Digits.{digits_some, digits_high, digits_low}
use Rattle.kinds.specs.Kinds.{IsKind}
use Rattle.kinds.proofs.Sizes.{radix_two}

-- n, which is not zero, has d digits
pub record Length (β n d : ℕ) : Type 0 where
  pub some : 1 ≤ d
  pub low : β ^ (d - 1) ≤ n
  pub high : n < β ^ d

pub length_of : (β n d : ℕ) → 2 ≤ β → 0 < n → d ≡ digits β n → Length β n d
length_of β n d two z e = subst (λ (k : ℕ). Length β n k) (sym e) (record {
  some = digits_some β n two;
  low = digits_low β n two z;
  high = digits_high β n two;
})

pub length_le : (β n d m : ℕ) → 2 ≤ β → Length β n d → n < β ^ m → d ≤ m
length_le β n d m two l h = omega (arith, l.some, power_order β (d - 1) m two (omega (arith, l.low)))

-- k zeros appended to d digits
pub appended_high : (β n d k m : ℕ) → 2 ≤ β → Length β n d → d + k ≡ m → n * β ^ k < β ^ m
appended_high β n d k m two l e =
    step (β ^ d) (β ^ k) (β ^ m) l.high (power_pos β k two) (power_parts β d k m e)
  where
    step : (D K M : ℕ) → n < D → 1 ≤ K → M ≡ D * K → n * K < M
    step D K M h some e = let m : (n + 1) * K ≤ D * K = mul-le-mul_right K (omega arith) in omega arith

pub appended_low : (β n d k m : ℕ) → Length β n d → d - 1 + k ≡ m → β ^ m ≤ n * β ^ k
appended_low β n d k m l e = omega (arith, mul-le-mul_right (β ^ k) l.low, power_parts β (d - 1) k m e)

-- the unit of the last of p digits, the quotient and the remainder of a number that has more
pub record Shortened (β p n k : ℕ) : Type 0 where
  pub unit_le : β ^ k ≤ n
  pub even : β ^ k % 2 ≡ 0
  pub is : n ≡ n / β ^ k * β ^ k + n % β ^ k
  pub rem : n % β ^ k < β ^ k
  pub lo : β ^ (p - 1) ≤ n / β ^ k
  pub hi : n / β ^ k < β ^ p

pub shortened : (β p n d : ℕ) → IsKind β p → Length β n d → p < d → Shortened β p n (d - p)
shortened β p n d kind l past = record {
  unit_le = once (β ^ (p - 1)) U (power_pos β (p - 1) two) least;
  even = power_even β (d - p) kind.0 (omega arith);
  is = sym (div-add-mod' n U);
  rem = mod-lt n (power_pos β (d - p) two);
  lo = (le-div_iff_mul-le (power_pos β (d - p) two)).1 least;
  hi = (div-lt_iff_lt-mul (power_pos β (d - p) two)).1 top;
}
  where
    two : 2 ≤ β
    two = radix_two β p kind

    U : ℕ
    U = β ^ (d - p)

    least : β ^ (p - 1) * β ^ (d - p) ≤ n
    least =
        let e : p - 1 + (d - p) ≡ d - 1 = omega (arith, kind.1) in
        omega (arith, l.low, power_parts β (p - 1) (d - p) (d - 1) e)

    top : n < β ^ p * β ^ (d - p)
    top =
        let e : p + (d - p) ≡ d = omega arith in
        omega (arith, l.high, power_parts β p (d - p) d e)

    once : (B V : ℕ) → 1 ≤ B → B * V ≤ n → V ≤ n
    once B V some h = omega (arith, mul-le-mul_right V some)

-- n with zeros appended up to p digits is below β^p
pub appended_below : (β p n d : ℕ) → 2 ≤ β → 0 < n → d ≡ digits β n → d ≤ p → n * β ^ (p - d) < β ^ p
appended_below β p n d two some e le = appended_high β n d (p - d) p two (length_of β n d two some e) (omega arith)

-- where digits are dropped down to p, their unit is at most n
pub dropped_unit : (β p n d : ℕ) → IsKind β p → 0 < n → d ≡ digits β n → p < d → β ^ (d - p) ≤ n
dropped_unit β p n d kind some e past =
    (shortened β p n d kind (length_of β n d (radix_two β p kind) some e) past).unit_le

-- and what is left is below β^p
pub dropped_quotient : (β p n d : ℕ) → IsKind β p → 0 < n → d ≡ digits β n → p < d → n / β ^ (d - p) < β ^ p
dropped_quotient β p n d kind some e past =
    (shortened β p n d kind (length_of β n d (radix_two β p kind) some e) past).hi

pub ruleset brought_to_precision = (appended_below, dropped_unit, dropped_quotient)
