-- The symmetric method: both products rounded, then rn (rn (rn X + rn Y) + rn (both errors)) is within 1/B of X + Y.
use Rattle.std.proofs.Common.{◌≡◌, ℕ, suc, ◌+◌, ◌*◌, ◌^◌, ◌<◌, ◌≤◌, ◌⊎◌, ℤ, pos, negsuc, ◌+ℤ◌, ◌-ℤ◌, neg_ℤ}
use Rattle.std.proofs.Common.{unsigned_abs, ◌≤ℤ◌, ◌<ℤ◌, sym, ap, ◌∙◌, subst, inl, inr, mul-le-mul_right, mul-le-mul}
use Rattle.std.proofs.Common.{mul-le-mul_left, arith}
use native.Mathlib.Nat.{dvd_trans, pow-succ'}
use lib.IntN.{+ℤ_comm}
use borrow.Author.Differences.{ints}
use Rattle.std.proofs.lemmas.Bool.{cases_lt}
use Rattle.whole.proofs.Distances.{gap}
use Rattle.whole.proofs.Integers.{unsigned_abs_neg}
use Rattle.whole.proofs.Powers.{power_pos, power_le}
use Rattle.bounds.proofs.Divisors.{divides_sum, divides_power}
use Rattle.bounds.proofs.Laws.{Ground, Coarse, Laws}
use Rattle.bounds.proofs.Cases.{from, under, below_near}
use Rattle.bounds.proofs.Steps.{V_small, last_of, key, Close, near_close, exact_first, flip_close, flip_coarse, r_half}
use Rattle.bounds.proofs.Steps.{Shaped, shaped}
use Rattle.bounds.proofs.Products.{Parts}
use Rattle.bounds.proofs.Grain.{grain}

module _ (β B : ℕ) (ground : Ground β B) (rn : ℤ → ℤ) (law : Laws β B rn) where
  -- how large E is against the unit V of P: at most 5/4 of it, or at most (β + 1)/2 of it where P is 3 B V and more
  abbrev Sizes : ℕ → ℕ → ℕ → Type 0
  Sizes P E V = (4 * E ≤ 5 * V) ⊎ ((3 * (B * V) ≤ P) × (2 * E ≤ β * V + V))

  near_bound : (P : ℕ) (E : ℤ) (co : Coarse β B (pos P) (rn (pos P))) → 4 * unsigned_abs E ≤ 5 * β ^ suc co.k
      → Close β B ground rn law (pos P) E
  near_bound P E co small = s.done (elim (cases_lt s.x K) [
    | inr b ↦ from B V P r s.x s.y a t s.shape tiny b
    | inl b ↦ elim (cases_lt s.y K) [
      | inl c ↦ below_near B V P r s.x s.y a t s.shape tiny b c (x_near s.x s.x_is)
      | inr c ↦ under B V P r s.x s.y a t s.shape tiny b c (not_over b)
    ]
  ])
    where
      V : ℕ
      V = β ^ suc co.k

      K : ℕ
      K = B * β ^ suc co.k

      r : ℕ
      r = unsigned_abs (rn (pos P))

      t : ℕ
      t = unsigned_abs (rn E -ℤ E)

      lost : 2 * (B * t) ≤ unsigned_abs E
      lost = law.relative E

      t_small : 8 * t ≤ B * t
      t_small = mul-le-mul_right t ground.eight

      tiny : 8 * (B * t) ≤ 5 * β ^ suc co.k
      tiny = omega (arith, lost)

      s : Shaped β B ground rn law P E co t
      s = shaped β B ground rn law P E co (omega (arith, V_small β B ground rn law (suc co.k)))
          (rounded_small (rn E) E (B * t) (V_small β B ground rn law (suc co.k)) lost t_small)
        where
          rounded_small : (e f : ℤ) (bt : ℕ) → 8 * β ^ suc co.k ≤ B * β ^ suc co.k → 2 * bt ≤ unsigned_abs E
              → 8 * unsigned_abs (rn E -ℤ E) ≤ bt → 2 * unsigned_abs (rn E) ≤ B * β ^ suc co.k
          rounded_small e f bt a b c = omega (arith, ints)

      a : ℕ
      a = unsigned_abs (rn (pos s.y))

      x_near : (x : ℕ) → pos P +ℤ E ≡ pos x → 4 * gap x P ≤ 5 * β ^ suc co.k
      x_near x e = omega (arith, ints)

      -- y is at most in the middle above K, and there the tie goes to K
      y_top : (y : ℕ) → s.x < K → rn (pos P) +ℤ rn E ≡ pos y → 2 * y ≤ (2 * B + 1) * β ^ suc co.k
      y_top y b e =
          let H : ℕ = ground.h * β ^ co.k in
          let VH : β ^ suc co.k ≡ H + H =
          pow-succ' β co.k ∙ ap (λ (n : ℕ). n * β ^ co.k) ground.even ∙ omega arith in
          let top : rn E ≤ℤ (pos K +ℤ pos H -ℤ rn (pos P)) = key β B ground rn law P co.k E co.lo co.hi
          co.multiple (omega (arith, V_small β B ground rn law (suc co.k))) (x_below s.x s.x_is b) in
          let yt : y ≤ K + H = sum_top (rn (pos P)) (rn E) K H y e top in
          omega (arith, yt, VH)
        where
          x_below : (x : ℕ) → pos P +ℤ E ≡ pos x → x < B * β ^ suc co.k
              → (pos P +ℤ E) <ℤ (pos (B * β ^ suc co.k))
          x_below x e h = omega (arith, ints)

          sum_top : (r e : ℤ) (K H y : ℕ) → r +ℤ e ≡ pos y → e ≤ℤ (pos K +ℤ pos H -ℤ r) → y ≤ K + H
          sum_top r e K H y a b = omega (arith, ints)

      not_over : s.x < K → unsigned_abs (rn (pos s.y)) ≤ B * β ^ suc co.k
      not_over b = elim (cases_lt (2 * s.y) ((2 * B + 1) * β ^ suc co.k)) [
        | inl d ↦ (last_of β B ground rn law co.k s.y).low d
        | inr d ↦ (
            let tied : rn (pos s.y) ≡ pos (B * β ^ suc co.k) =
            law.tie s.y co.k (omega (arith, d, y_top s.y b s.y_is)) in
            omega (arith, ap unsigned_abs tied))
      ]

  far_bound : (P : ℕ) (E : ℤ) (co : Coarse β B (pos P) (rn (pos P))) → 3 * (B * β ^ suc co.k) ≤ P
      → 2 * unsigned_abs E ≤ β * β ^ suc co.k + β ^ suc co.k → Close β B ground rn law (pos P) E
  far_bound P E co big small =
      let V : ℕ = β ^ suc co.k in
      let t : ℕ = unsigned_abs (rn E -ℤ E) in
      let lost : 2 * (B * t) ≤ unsigned_abs E = law.relative E in
      let t_small : 8 * t ≤ B * t = mul-le-mul_right t ground.eight in
      let bv : β * V ≤ B * V = mul-le-mul_right V ground.wide in
      let vk : 8 * V ≤ B * V = V_small β B ground rn law (suc co.k) in
      let d : ℕ = unsigned_abs (rn (pos P) +ℤ rn E -ℤ (pos P +ℤ E)) in
      let hf : 2 * unsigned_abs (rn (pos P) -ℤ pos P) ≤ V = r_half β B ground rn law P E co in
      let dd : 2 * d ≤ V + 2 * t = omega (arith, ints) in
      let bd : B * (2 * d) ≤ B * (V + 2 * t) = mul-le-mul_left B dd in
      near_close β B ground rn law (pos P) E (omega (arith, ints))

  coarse_close : (P E : ℤ) (co : Coarse β B P (rn P)) → Sizes (unsigned_abs P) (unsigned_abs E) (β ^ suc co.k)
      → Close β B ground rn law P E
  coarse_close (pos P) E co (inl a) = near_bound P E co a
  coarse_close (pos P) E co (inr a) = far_bound P E co a.0 a.1
  coarse_close (negsuc P) E co z = flip_close β B ground rn law (negsuc P) E
      (turned (subst (λ (n : ℕ). Sizes (suc P) n (β ^ suc co.k)) (sym (unsigned_abs_neg E)) z))
    where
      turned : Sizes (suc P) (unsigned_abs (neg_ℤ E)) (β ^ suc co.k) → Close β B ground rn law (pos (suc P)) (neg_ℤ E)
      turned (inl a) = near_bound (suc P) (neg_ℤ E) (flip_coarse β B ground rn law P co) a
      turned (inr a) = far_bound (suc P) (neg_ℤ E) (flip_coarse β B ground rn law P co) a.0 a.1

  -- the first product's unit u is not above V, or it is β V; the second one's, v, is finer
  small_sizes : (p e p' f : ℤ) (u v V : ℕ) → u ≤ V → 2 * v ≤ V → 2 * unsigned_abs e ≤ u → 2 * unsigned_abs f ≤ v
      → Sizes (unsigned_abs (p +ℤ p')) (unsigned_abs (e +ℤ f)) V
  small_sizes p e p' f u v V a b c d = inl (omega (arith, ints))

  large_sizes : (p e p' f : ℤ) (u v V : ℕ) → β * V ≤ u → u ≤ β * V → β * v ≤ V → B * u ≤ unsigned_abs p
      → unsigned_abs p' ≤ β * B * v → 2 * unsigned_abs e ≤ u → 2 * unsigned_abs f ≤ v
      → Sizes (unsigned_abs (p +ℤ p')) (unsigned_abs (e +ℤ f)) V
  large_sizes p e p' f u v V lo hi fine pl ph ee ff =
      let double : 2 * v ≤ β * v = mul-le-mul_right v ground.two in
      elim (cases_lt 2 β) [
        | inr m ↦ (let bv : β * V ≤ 2 * V = mul-le-mul_right V m in inl (omega (arith, ints)))
        | inl m ↦
            let four : 4 ≤ β = omega (arith, ground.even) in
            let k4 : 4 * (B * V) ≤ β * (B * V) = mul-le-mul_right (B * V) four in
            let p1 : B * (β * V) ≤ B * u = mul-le-mul_left B lo in
            let p2 : B * (β * v) ≤ B * V = mul-le-mul_left B fine in
            inr (omega (arith, ints), omega (arith, ints))
      ]

  -- a unit of β² V would make the sum too large
  not_larger : (p p' : ℤ) (u v V : ℕ) → 1 ≤ V → β * (β * V) ≤ u → β * v ≤ V → B * u ≤ unsigned_abs p
      → unsigned_abs p' ≤ β * B * v
      → unsigned_abs (p +ℤ p') < β * B * V → ⊥
  not_larger p p' u v V some lo fine pl ph small =
      let K : ℕ = B * V in
      let full : 8 * 1 ≤ B * V = mul-le-mul ground.eight some in
      let p1 : B * (β * (β * V)) ≤ B * u = mul-le-mul_left B lo in
      let p2 : B * (β * v) ≤ B * V = mul-le-mul_left B fine in
      let k2 : 2 * K ≤ β * K = mul-le-mul_right K ground.two in
      let kb : 2 * (β * K) ≤ β * (β * K) = mul-le-mul_right (β * K) ground.two in
      omega (arith, ints)

  -- two products, the one with the larger unit first
  module _ (X Y : ℤ) (i j : ℕ) (a : Parts β B ground rn law X i) (b : Parts β B ground rn law Y j)
      (le : b.k ≤ a.k) where
    abbrev P : ℤ
    P = rn X +ℤ rn Y

    abbrev E : ℤ
    E = X -ℤ rn X +ℤ (Y -ℤ rn Y)

    sizes : (co : Coarse β B (rn X +ℤ rn Y) (rn (rn X +ℤ rn Y))) → β * B * β ^ b.k < unsigned_abs (rn X +ℤ rn Y)
        → Sizes (unsigned_abs (rn X +ℤ rn Y)) (unsigned_abs (X -ℤ rn X +ℤ (Y -ℤ rn Y))) (β ^ suc co.k)
    sizes co big = elim (cases_lt m a.k) [
      | inr g ↦ small_sizes (rn X) (X -ℤ rn X) (rn Y) (Y -ℤ rn Y) (β ^ a.k) (β ^ b.k) (β ^ m)
          (power_le β a.k m ground.two g) (omega (arith, fine, mul-le-mul_right (β ^ b.k) ground.two))
          a.error_half b.error_half
      | inl g ↦ large_sizes (rn X) (X -ℤ rn X) (rn Y) (Y -ℤ rn Y) (β ^ a.k) (β ^ b.k) (β ^ m)
          (omega (arith, next m, power_le β (suc m) a.k ground.two g))
          (omega (arith, next m, power_le β a.k (suc m) ground.two (at_most g)))
          fine a.rounded_lo b.rounded_hi a.error_half b.error_half
    ]
      where
        m : ℕ
        m = suc co.k

        next : (n : ℕ) → β ^ suc n ≡ β * β ^ n
        next n = pow-succ' β n

        finer : b.k < m
        finer = elim (cases_lt b.k m) [
          | inl g ↦ g
          | inr g ↦ absurd (omega (arith, big, co.hi, mul-le-mul_left (β * B) (power_le β m b.k ground.two g)))
        ]

        fine : β * β ^ b.k ≤ β ^ m
        fine = omega (arith, power_le β (suc b.k) m ground.two finer, next b.k)

        at_most : m < a.k → a.k ≤ suc m
        at_most g = elim (cases_lt (suc m) a.k) [
          | inr l ↦ l
          | inl l ↦ absurd (not_larger (rn X) (rn Y) (β ^ a.k) (β ^ b.k) (β ^ m) (power_pos β m ground.two)
              (omega (
                arith,
                next (suc m),
                ap (λ (n : ℕ). β * n) (next m),
                power_le β (suc (suc m)) a.k ground.two l,
              ))
              fine a.rounded_lo b.rounded_hi co.hi)
        ]

    ordered_close : Close β B ground rn law (rn X +ℤ rn Y) (X -ℤ rn X +ℤ (Y -ℤ rn Y))
    ordered_close = elim (law.unit P) [
      | inl z ↦ exact_first β B ground rn law P E z lost
      | inr co ↦ elim (cases_lt (β * B * β ^ b.k) (unsigned_abs P)) [
        | inl big ↦ coarse_close P E co (sizes co big)
        | inr few ↦ exact_first β B ground rn law P E (law.fixed P b.k (divides_sum (β ^ b.k) (rn X) (rn Y)
            (dvd_trans (β ^ b.k) (divides_power β b.k a.k le) a.multiple) b.multiple) few) lost
      ]
    ]
      where
        sum : X +ℤ Y ≡ rn X +ℤ rn Y +ℤ (X -ℤ rn X +ℤ (Y -ℤ rn Y))
        sum = mixed X Y (rn X) (rn Y)
          where
            mixed : (x y r s : ℤ) → x +ℤ y ≡ r +ℤ s +ℤ (x -ℤ r +ℤ (y -ℤ s))
            mixed x y r s = omega (arith, ints)

        lost : 2 * (B * unsigned_abs (rn E -ℤ E)) + unsigned_abs (rn E -ℤ E) ≤ unsigned_abs (P +ℤ E)
        lost = subst (λ (z : ℤ). 2 * (B * unsigned_abs (rn E -ℤ E)) + unsigned_abs (rn E -ℤ E) ≤ unsigned_abs z) sum
            (grain β B ground rn law X Y i j a b le)

  pub close : (X Y : ℤ) (i j : ℕ) → Parts β B ground rn law X i → Parts β B ground rn law Y j
      → Close β B ground rn law (rn X +ℤ rn Y) (X -ℤ rn X +ℤ (Y -ℤ rn Y))
  close X Y i j a b = elim (cases_lt a.k b.k) [
    | inr le ↦ ordered_close X Y i j a b le
    | inl lt ↦ subst (λ (z : ℤ). Close β B ground rn law z (X -ℤ rn X +ℤ (Y -ℤ rn Y))) (+ℤ_comm (rn Y) (rn X))
        (subst (Close β B ground rn law (rn Y +ℤ rn X)) (+ℤ_comm (Y -ℤ rn Y) (X -ℤ rn X))
        (ordered_close Y X j i b a (omega arith)))
  ]
