-- How far a number is brought up: it stays in a word, and where it stops short it has more than 2 p digits.
use Rattle.std.proofs.Common.{◌≡◌, ℕ, ◌+◌, ◌-◌, ◌*◌, ◌^◌, ◌<◌, ◌≤◌, min, sym, refl, ◌∙◌, subst, ap₂, inl, inr}
use Rattle.std.proofs.Common.{mul-le-mul_left, arith}
use native.Mathlib.Nat.{min-le_left, min-le_right, min-eq_left, min-eq_right}
use Rattle.std.proofs.lemmas.Bool.{cases_lt}
use Rattle.whole.proofs.Powers.{power_le}
use Rattle.rounding.specs.Digits.{digits}
use Rattle.kinds.specs.Kinds.{IsKind}
use Rattle.kinds.proofs.Sizes.{radix_two, double_power, room_small}
use Rattle.integers.specs.Sums.{rise}
use Rattle.integers.proofs.Lengths.{Length, length_of, length_le, appended_high, appended_low}

-- n is brought up by i of d digits
pub record Rise (β p n d i : ℕ) : Type 0 where
  pub le : i ≤ d
  pub word : n * β ^ i < 1152921504606846976
  pub long : i < d → β ^ (2 * p) ≤ n * β ^ i

-- a number below the square of β^p has 2 p digits at most
pub below_double : (β p top n : ℕ) → top ≡ β ^ p → n < top * top → n < β ^ (2 * p)
below_double β p top n e h =
    subst (λ (m : ℕ). n < m) (ap₂ (λ (a b : ℕ). a * b) e e ∙ sym (double_power β p)) h

pub rise_of : (β p n d i : ℕ) → IsKind β p → 0 < n → n < β ^ (2 * p) → i ≡ rise β p n d → Rise β p n d i
rise_of β p n d i kind some short e = subst (λ (k : ℕ). Rise β p n d k) (sym e) (record {
  le = min-le_left d room;
  word = omega (
    arith,
    mul-le-mul_left n (power_le β (min d room) room two (min-le_right d room)),
    full,
    room_small β p kind,
  );
  long = λ less. subst (λ (k : ℕ). β ^ (2 * p) ≤ n * β ^ k) (sym (stopped less)) past;
})
  where
    two : 2 ≤ β
    two = radix_two β p kind

    g : ℕ
    g = digits β n

    room : ℕ
    room = 2 * p + 1 - digits β n

    l : Length β n (digits β n)
    l = length_of β n (digits β n) two some refl

    few : digits β n ≤ 2 * p
    few = length_le β n (digits β n) (2 * p) two l short

    full : n * β ^ (2 * p + 1 - digits β n) < β ^ (2 * p + 1)
    full = appended_high β n (digits β n) (2 * p + 1 - digits β n) (2 * p + 1) two l (there (digits β n) few)
      where
        there : (g : ℕ) → g ≤ 2 * p → g + (2 * p + 1 - g) ≡ 2 * p + 1
        there g h = omega arith

    past : β ^ (2 * p) ≤ n * β ^ (2 * p + 1 - digits β n)
    past = appended_low β n (digits β n) (2 * p + 1 - digits β n) (2 * p) l (there (digits β n) l.some few)
      where
        there : (g : ℕ) → 1 ≤ g → g ≤ 2 * p → g - 1 + (2 * p + 1 - g) ≡ 2 * p
        there g a b = omega arith

    stopped : min d (2 * p + 1 - digits β n) < d → min d (2 * p + 1 - digits β n) ≡ 2 * p + 1 - digits β n
    stopped less = elim (cases_lt (2 * p + 1 - digits β n) d) [
      | inl h ↦ min-eq_right (omega arith)
      | inr h ↦ absurd (omega (arith, min-eq_left h))
    ]

-- brought up as far as there is room, a number of 2 p digits fits a word
pub risen_below : (β p n d top : ℕ) → IsKind β p → 0 < n → top ≡ β ^ p → n < top * top
    → n * β ^ rise β p n d < 1152921504606846976
risen_below β p n d top kind some e h = (rise_of β p n d _ kind some (below_double β p top n e h) refl).word
