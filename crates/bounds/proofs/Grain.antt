-- The errors of two products, added and rounded: what that rounding loses is small beside the sum of the products.
use Rattle.std.proofs.Common.{◌≡◌, ℕ, suc, ◌+◌, ◌-◌, ◌*◌, ◌^◌, ◌<◌, ◌≤◌, ℤ, ◌+ℤ◌, ◌-ℤ◌, unsigned_abs, sym, ap, ◌∙◌}
use Rattle.std.proofs.Common.{inl, inr, arith}
use native.Mathlib.Nat.{dvd_trans, pow-succ'}
use borrow.Author.Differences.{ints}
use Rattle.std.proofs.lemmas.Bool.{cases_lt}
use Rattle.whole.proofs.Powers.{power_le, power_order, power_parts}
use Rattle.bounds.proofs.Divisors.{divides_sum, divides_power}
use Rattle.bounds.proofs.Laws.{Ground, Laws}
use Rattle.bounds.proofs.Cases.{fine_grain}
use Rattle.bounds.proofs.Steps.{no_error}
use Rattle.bounds.proofs.Products.{Parts}

module _ (β B : ℕ) (ground : Ground β B) (rn : ℤ → ℤ) (law : Laws β B rn) where
  -- β B is the power after B
  pub top_power : β * B ≡ β ^ suc ground.q
  top_power = ap (λ (n : ℕ). β * n) ground.power ∙ sym (pow-succ' β ground.q)

  -- the product with the larger unit first
  pub grain : (X Y : ℤ) (i j : ℕ) (a : Parts β B ground rn law X i) (b : Parts β B ground rn law Y j) → b.k ≤ a.k
      → let E = X -ℤ rn X +ℤ (Y -ℤ rn Y) in let t = unsigned_abs (rn E -ℤ E) in
      2 * (B * t) + t ≤ unsigned_abs (X +ℤ Y)
  grain X Y i j a b h = elim (cases_lt (β * B * β ^ j) (β ^ a.k)) [
    -- both errors are whole in the finer grain, and few enough to be kept
    | inr near ↦ (let z : t ≡ 0 = no_error β B ground rn law E (kept near) in omega (arith, ap (λ (n : ℕ). B * n) z))
    -- the second product is too fine to cancel the first
    | inl far ↦
        let W : ℕ = β ^ (a.k - suc q) in
        let apart : suc q + j < a.k = power_order β (suc q + j) a.k ground.two
        (omega (arith, far, power_parts β (suc q) j (suc q + j) (omega arith), ap (λ (n : ℕ). n * β ^ j) top_power)) in
        let VW : β ^ a.k ≡ β * B * W = power_parts β (suc q) (a.k - suc q) a.k (omega arith)
        ∙ ap (λ (n : ℕ). n * W) (sym top_power) in
        let tw : 2 * t ≤ W = law.half E (a.k - suc q) (omega (arith, size)) in
        let gw : β * β ^ j ≤ W = omega (
          arith,
          power_le β (suc j) (a.k - suc q) ground.two (omega arith),
          pow-succ' β j,
        ) in
        let xb : B * (ground.c * W + W) ≤ unsigned_abs X = omega (
          arith,
          a.lo,
          ap (λ (n : ℕ). B * n) VW,
          ap (λ (n : ℕ). B * (n * W)) ground.top,
        ) in
        fine_grain β B ground.c W (β ^ j) (unsigned_abs X) (unsigned_abs Y) (unsigned_abs (X +ℤ Y)) t ground.two
        (omega (arith, ground.eight)) ground.top xb b.most (triangle X Y) gw tw
  ]
    where
      q : ℕ
      q = ground.q

      E : ℤ
      E = X -ℤ rn X +ℤ (Y -ℤ rn Y)

      t : ℕ
      t = unsigned_abs (rn E -ℤ E)

      size : unsigned_abs E ≤ β ^ a.k
      size = sums (X -ℤ rn X) (Y -ℤ rn Y) (β ^ b.k) (β ^ a.k) a.error_half b.error_half
          (power_le β b.k a.k ground.two h)
        where
          sums : (e f : ℤ) (v w : ℕ) → 2 * unsigned_abs e ≤ w → 2 * unsigned_abs f ≤ v → v ≤ w
              → unsigned_abs (e +ℤ f) ≤ w
          sums e f v w a b c = omega (arith, ints)

      kept : β ^ a.k ≤ β * B * β ^ j → rn E ≡ E
      kept near = elim (cases_lt j i) [
        | inr l ↦ law.fixed E i (divides_sum (β ^ i) (X -ℤ rn X) (Y -ℤ rn Y) a.error_grain
            (dvd_trans (β ^ i) (divides_power β i j l) b.error_grain)) (omega (arith, size, a.unit_le))
        | inl l ↦ law.fixed E j (divides_sum (β ^ j) (X -ℤ rn X) (Y -ℤ rn Y)
            (dvd_trans (β ^ j) (divides_power β j i (omega arith)) a.error_grain) b.error_grain)
            (omega (arith, size))
      ]

      triangle : (X Y : ℤ) → unsigned_abs X ≤ unsigned_abs (X +ℤ Y) + unsigned_abs Y
      triangle X Y = omega (arith, ints)
