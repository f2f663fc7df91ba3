-- A number n > 0 has the one number of digits d with β^(d-1) ≤ n < β^d.
use Rattle.std.proofs.Common.{◌≡◌, ℕ, zero, suc, ◌-◌, ◌*◌, ◌/◌, ◌^◌, ◌<◌, ◌≤◌, Bool, true, false, nat_lt, ◌⊎◌, sym}
use Rattle.std.proofs.Common.{refl, ap, subst, inl, inr, le_refl, div-lt_iff_lt-mul, pow-suc, le-div_iff_mul-le, arith}
use native.Mathlib.Nat.{pow-zero, div-lt_self}
use Rattle.std.proofs.lemmas.Bool.{ltb-true, ltb-false}
use Rattle.whole.proofs.Powers.{power_pos, power_order, power_one}
use Rattle.rounding.specs.Digits.{digits_within, digits}

-- n has d = k + 1 digits
record Length (β n d : ℕ) : Type 0 where
  k : ℕ
  is : d ≡ suc k
  high : n < β ^ suc k
  low : (k ≡ 0) ⊎ (β ^ k ≤ n)

module _ (β : ℕ) (two : 2 ≤ β) where
  single : (n : ℕ) → n < β → Length β n 1
  single n h = record { k = 0; is = refl; high = rw (power_one β) h; low = inl refl }

  -- the digits before the last one, and the last one
  longer : (n d : ℕ) → β ≤ n → Length β (n / β) d → Length β n (suc d)
  longer n d h l = record {
    k = suc l.k;
    is = ap suc l.is;
    high = rw (pow-suc β (suc l.k)) ((div-lt_iff_lt-mul β-pos).0 l.high);
    low = inr (rw (pow-suc β l.k) (bottom l.low));
  }
    where
      β-pos : 0 < β
      β-pos = omega arith

      bottom : (l.k ≡ 0) ⊎ (β ^ l.k ≤ n / β) → β ^ l.k * β ≤ n
      bottom (inr g) = (le-div_iff_mul-le β-pos).0 g
      bottom (inl z) = rw (z, pow-zero β) (omega arith)

  within_length : (t n : ℕ) → n ≤ t → Length β n (digits_within t β n)
  within_length zero n h = single n (omega arith)
  within_length (suc t) n h = go (within_length t) (nat_lt n β) refl
    where
      go : ((n : ℕ) → n ≤ t → Length β n (digits_within t β n)) → (b : Bool) → nat_lt n β ≡ b
          → Length β n (elim b [ true ↦ 1 | false ↦ suc (digits_within t β (n / β)) ])
      go rest true e = single n (ltb-true n β e)
      go rest false e =
          let past : β ≤ n = ltb-false n β e in
          let fewer : n / β < n = div-lt_self (omega arith) two in
          longer n (digits_within t β (n / β)) past (rest (n / β) (omega arith))

  length_of : (n : ℕ) → Length β n (digits β n)
  unfolding digits
  length_of n = within_length n n (le_refl n)

pub digits_some : (β n : ℕ) → 2 ≤ β → 1 ≤ digits β n
digits_some β n two = omega (arith, (length_of β two n).is)

pub digits_high : (β n : ℕ) → 2 ≤ β → n < β ^ digits β n
digits_high β n two = let l = length_of β two n in subst (λ (d : ℕ). n < β ^ d) (sym l.is) l.high

pub digits_low : (β n : ℕ) → 2 ≤ β → 1 ≤ n → β ^ (digits β n - 1) ≤ n
digits_low β n two some =
    let l = length_of β two n in
    subst (λ (d : ℕ). β ^ d ≤ n) (before l.k l.is) (elim l.low [
      | inl z ↦ rw (z, pow-zero β) some
      | inr g ↦ g
    ])
  where
    before : (k : ℕ) → digits β n ≡ suc k → k ≡ digits β n - 1
    before k e = omega arith

pub digits_is : (β n d : ℕ) → 2 ≤ β → 1 ≤ d → β ^ (d - 1) ≤ n → n < β ^ d → digits β n ≡ d
digits_is β n d two some lo hi =
    let full : 1 ≤ n = omega (arith, power_pos β (d - 1) two) in
    let above : d - 1 < digits β n = power_order β (d - 1) (digits β n) two (omega (arith, digits_high β n two)) in
    let below : digits β n - 1 < d = power_order β (digits β n - 1) d two (omega (arith, digits_low β n two full)) in
    omega arith

pub digits_zero : (β : ℕ) → digits β 0 ≡ 1
unfolding digits
digits_zero β = refl
