-- What the radix and the precision of a kind say of its powers: how large they are, and that words have room for them.
use Rattle.std.proofs.Common.{◌≡◌, ℕ, zero, suc, ◌+◌, ◌-◌, ◌*◌, ◌^◌, ◌<◌, ◌≤◌, sym, ap, ◌∙◌, mul-le-mul_right}
use Rattle.std.proofs.Common.{mul-le-mul, pow-suc, mul-zero, sub-add_cancel, add-one, arith}
use native.Mathlib.Nat.{two-mul}
use Rattle.whole.proofs.Comparisons.{root}
use Rattle.whole.proofs.Powers.{power_pos, power_le, power_below, power_one, power_split, power_parts}
use Rattle.kinds.specs.Kinds.{IsKind}

pub radix_two : (β p : ℕ) → IsKind β p → 2 ≤ β
radix_two zero p kind = absurd (omega (arith, none, kind.2))
  where
    some : 1 ≤ p - 1
    some = omega (arith, kind.1)

    none : 0 ^ (p - 1) ≡ 0
    none =
        ap (λ (n : ℕ). 0 ^ n) (sym (sub-add_cancel some) ∙ add-one (p - 1 - 1))
        ∙ pow-suc 0 (p - 1 - 1) ∙ mul-zero (0 ^ (p - 1 - 1))
radix_two (suc zero) p kind = absurd (let odd : ◌≡◌ {A = ℕ} 1 0 = kind.0 in omega arith)
radix_two (suc (suc n)) p kind = omega arith

pub few_digits : (β p : ℕ) → IsKind β p → p ≤ 24
few_digits β p kind = omega (arith, power_below β p 25 (radix_two β p kind) (omega (arith, kind.3)))

pub least_below : (β p : ℕ) → IsKind β p → β ^ (p - 1) < β ^ p
least_below β p kind =
    let one : 1 ≤ p = omega (arith, kind.1) in
    step (β ^ (p - 1)) (β ^ p) (power_split β p one) (power_pos β (p - 1) (radix_two β p kind))
  where
    step : (B P : ℕ) → P ≡ β * B → 1 ≤ B → B < P
    step B P e some = omega (arith, mul-le-mul_right B (radix_two β p kind))

pub least_small : (β p : ℕ) → IsKind β p → β ^ (p - 1) ≤ 16777216
least_small β p kind = omega (arith, least_below β p kind, kind.3)

-- the radix is at most 2^12, since its square is at most 2^24
pub small_radix : (β p : ℕ) → IsKind β p → β ≤ 4096
small_radix β p kind =
    root β 4096 (omega (arith, power_le β 2 p (radix_two β p kind) kind.1, square β, kind.3))
  where
    square : (b : ℕ) → b ^ 2 ≡ b * b
    square b = power_parts b 1 1 2 (omega arith) ∙ ap (λ (n : ℕ). n * n) (power_one b)

pub double_power : (β p : ℕ) → β ^ (2 * p) ≡ β ^ p * β ^ p
double_power β p = power_parts β p p (2 * p) (sym (two-mul p))

-- a product of two significands fits 48 bits
pub products_small : (β p : ℕ) → IsKind β p
    → (β ^ p ≤ β ^ p * β ^ p) × (β ^ p * β ^ p ≤ 281474976710656)
products_small β p kind = step (β ^ p) (power_pos β p (radix_two β p kind)) kind.3
  where
    step : (P : ℕ) → 1 ≤ P → P ≤ 16777216 → (P ≤ P * P) × (P * P ≤ 281474976710656)
    step P some small = (omega (arith, mul-le-mul_right P some), omega (arith, mul-le-mul small small))

-- a number of 2 p digits fits 48 bits
pub double_small : (β p : ℕ) → IsKind β p → β ^ (2 * p) ≤ 281474976710656
double_small β p kind = omega (arith, (products_small β p kind).1, double_power β p)

-- a number of 2 p + 1 digits fits 60 bits
pub room_small : (β p : ℕ) → IsKind β p → β ^ (2 * p + 1) ≤ 1152921504606846976
room_small β p kind =
    product (β ^ (2 * p)) (β ^ (2 * p + 1)) β (double_small β p kind) (small_radix β p kind)
    (power_parts β (2 * p) 1 (2 * p + 1) (omega arith) ∙ ap (λ (n : ℕ). β ^ (2 * p) * n) (power_one β))
  where
    product : (Q R b : ℕ) → Q ≤ 281474976710656 → b ≤ 4096 → R ≡ Q * b → R ≤ 1152921504606846976
    product Q R b h g e = omega (arith, mul-le-mul h g)
