-- Powers of a radix: positive, ordered as their exponents are, even where the radix is.
use Rattle.std.proofs.Common.{◌≡◌, ℕ, suc, ◌+◌, ◌-◌, ◌*◌, ◌/◌, ◌%◌, ◌^◌, ◌<◌, ◌≤◌, sym, ap, ◌∙◌, inl, inr, pow-suc}
use Rattle.std.proofs.Common.{arith, pow-add}
use native.Mathlib.Nat.{one-le-pow, pow-le-pow_right, pow-le-pow_left, pow-zero, pow-succ', one-mul}
use Rattle.std.proofs.lemmas.Bool.{cases_lt}

pub power_pos : (β k : ℕ) → 2 ≤ β → 1 ≤ β ^ k
power_pos β k two = one-le-pow k β (omega arith)

pub power_le : (β i j : ℕ) → 2 ≤ β → i ≤ j → β ^ i ≤ β ^ j
power_le β i j two h = let some : 0 < β = omega arith in pow-le-pow_right some h

pub power_order : (β i j : ℕ) → 2 ≤ β → β ^ i < β ^ j → i < j
power_order β i j two h = elim (cases_lt i j) [
  | inl l ↦ l
  | inr l ↦ absurd (omega (arith, power_le β j i two l))
]

-- a power below 2^n has an exponent below n
pub power_below : (β k n : ℕ) → 2 ≤ β → β ^ k < 2 ^ n → k < n
power_below β k n two h = power_order 2 k n (omega arith) (omega (arith, pow-le-pow_left two k))

pub power_one : (β : ℕ) → β ^ 1 ≡ β
power_one β = rw (pow-suc, pow-zero) (one-mul β)

-- β^p is β times the power before it
pub power_split : (β p : ℕ) → 1 ≤ p → β ^ p ≡ β * β ^ (p - 1)
power_split β p some = ap (λ (n : ℕ). β ^ n) (there p some) ∙ pow-succ' β (p - 1)
  where
    there : (p : ℕ) → 1 ≤ p → p ≡ suc (p - 1)
    there p h = omega arith

-- a power taken in two parts
pub power_parts : (β i j k : ℕ) → i + j ≡ k → β ^ k ≡ β ^ i * β ^ j
power_parts β i j k e = ap (λ (n : ℕ). β ^ n) (sym e) ∙ pow-add β i j

even_product : (b n : ℕ) → b % 2 ≡ 0 → (b * n) % 2 ≡ 0
even_product b n e = by_half (b / 2) (omega arith)
  where
    by_half : (h : ℕ) → b ≡ 2 * h → (b * n) % 2 ≡ 0
    by_half h f = let g : b * n ≡ 2 * (h * n) = ap (λ (m : ℕ). m * n) f ∙ omega arith in omega arith

pub power_even : (β k : ℕ) → β % 2 ≡ 0 → 1 ≤ k → β ^ k % 2 ≡ 0
power_even β k even some =
    ap (λ (n : ℕ). n % 2) (power_split β k some) ∙ even_product β (β ^ (k - 1)) even
