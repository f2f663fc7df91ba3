-- How powers that outgrow a word divide what a word holds, and what the loop that counts digits keeps.
use Rattle.std.proofs.Common.{◌≡◌, ℕ, ◌+◌, ◌-◌, ◌*◌, ◌/◌, ◌%◌, ◌^◌, ◌<◌, ◌≤◌, ◌⊎◌, sym, ap, ◌∙◌, subst, inl, inr}
use Rattle.std.proofs.Common.{mul_comm, div-lt_iff_lt-mul, mul-le-mul_left, pow-suc, le-div_iff_mul-le, add-one, arith}
use native.Mathlib.Nat.{pow-zero, mul-mod_left, mul_assoc, add-sub_cancel}
use Rattle.std.proofs.lemmas.Bool.{cases_lt}
use Rattle.rounding.specs.Digits.{digits}
use Rattle.rounding.proofs.Digits.{digits_zero, digits_is}
use Rattle.whole.proofs.Powers.{power_pos, power_below, power_split, power_parts}

-- what fits a word is whole in it
pub in_word : (u r : ℕ) → r ≡ (1 * u) % 2 ^ 64 → u ≤ 16777216 → r ≡ u
in_word u r e h = omega arith

-- a product with a factor that is a multiple of the word leaves nothing in it
pub past_word : (n k : ℕ) → 64 ≤ k → 0 ≡ (n * 2 ^ k) % 2 ^ 64
past_word n k h =
    sym (ap (λ (m : ℕ). m % 2 ^ 64)
    (ap (λ (m : ℕ). n * m) (power_parts 2 (k - 64) 64 k (omega arith)) ∙ sym (mul_assoc n (2 ^ (k - 64)) (2 ^ 64)))
    ∙ mul-mod_left (n * 2 ^ (k - 64)) (2 ^ 64))

-- what the loop that counts the digits of n keeps: the power of the digits counted so far has not passed n
pub record Counting (β n power count : ℕ) : Type 0 where
  pub some : 1 ≤ count
  pub few : count ≤ 64
  pub is : power ≡ β ^ (count - 1)
  pub low : (count ≡ 1) ⊎ (power ≤ n)

pub counting_grows : (β n power count : ℕ) → 2 ≤ β → Counting β n power count → power < power * β
counting_grows β n power count two c =
    let some : 1 ≤ power = rw c.is (power_pos β (count - 1) two) in
    omega (arith, mul-le-mul_left power two)

pub counting_more : (β n power count : ℕ) → 2 ≤ β → n < 2 ^ 64 → power ≤ n / β → Counting β n power count
    → Counting β n (power * β) (count + 1)
counting_more β n power count two word h c = record {
  some = omega arith;
  few = omega (arith, power_below β count 64 two (omega (arith, next, past)));
  is = next ∙ ap (λ (m : ℕ). β ^ m) (sym (add-sub_cancel count 1));
  low = inr past;
}
  where
    past : power * β ≤ n
    past = (le-div_iff_mul-le (omega arith)).0 h

    next : power * β ≡ β ^ count
    next = ap (λ (m : ℕ). m * β) c.is ∙ mul_comm (β ^ (count - 1)) β ∙ sym (power_split β count c.some)

pub counting_end : (β n power count : ℕ) → 2 ≤ β → n / β < power → Counting β n power count → count ≡ digits β n
counting_end β n power count two h c = go c.low (cases_lt 0 n)
  where
    one : 1 ≤ power
    one = subst (λ (m : ℕ). 1 ≤ m) (sym c.is) (power_pos β (count - 1) two)

    high : n < β ^ count
    high = subst (λ (m : ℕ). n < m) (next (power_split β count c.some)) ((div-lt_iff_lt-mul (omega arith)).0 h)
      where
        next : β ^ count ≡ β * β ^ (count - 1) → power * β ≡ β ^ count
        next e = ap (λ (m : ℕ). m * β) c.is ∙ mul_comm (β ^ (count - 1)) β ∙ sym e

    go : (count ≡ 1) ⊎ (power ≤ n) → (0 < n) ⊎ (n ≤ 0) → count ≡ digits β n
    go (inl e) (inr z) = e ∙ sym (digits_zero β) ∙ ap (digits β) (omega arith)
    go (inr l) (inr z) = absurd (omega (arith, one))
    go (inl e) (inl z) =
        sym (digits_is β n count two c.some (subst (λ (m : ℕ). β ^ m ≤ n) (first count e) whole) high)
      where
        first : (k : ℕ) → k ≡ 1 → 0 ≡ k - 1
        first k e = omega arith

        whole : β ^ 0 ≤ n
        whole = rw (pow-zero β) z
    go (inr l) (inl z) = sym (digits_is β n count two c.some (subst (λ (m : ℕ). m ≤ n) c.is l) high)

-- at radix 2 the logarithm tells the digits
pub binary_digits : (n k : ℕ) → 2 ^ k ≤ n → n < 2 * 2 ^ k → k + 1 ≡ digits 2 n
binary_digits n k low high =
    sym (digits_is 2 n (k + 1) (omega arith) (omega arith) (subst (λ (m : ℕ). 2 ^ m ≤ n) (sym (add-sub_cancel k 1)) low)
    (omega (arith, high, pow-suc 2 k, ap (λ (m : ℕ). 2 ^ m) (add-one k))))
