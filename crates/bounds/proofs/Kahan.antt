-- Kahan's method: w = rn Y, then rn (rn (X + w) + rn (Y - w)) is within 1/B of X + Y.
use Rattle.std.proofs.Common.{◌≡◌, ℕ, suc, ◌+◌, ◌*◌, ◌^◌, ◌<◌, ◌≤◌, ◌⊎◌, ℤ, pos, negsuc, ◌+ℤ◌, ◌-ℤ◌, neg_ℤ}
use Rattle.std.proofs.Common.{unsigned_abs, sym, refl, ap, ◌∙◌, subst, inl, inr, mul-le-mul_right, mul-le-mul_left}
use Rattle.std.proofs.Common.{arith}
use Prim.Native.Nat.{◌∣◌}
use native.Mathlib.Nat.{dvd_trans, pow-succ'}
use borrow.Author.Differences.{ints}
use Rattle.std.proofs.lemmas.Bool.{cases_lt}
use Rattle.whole.proofs.Integers.{unsigned_abs_neg}
use Rattle.whole.proofs.Powers.{power_pos, power_le, power_parts}
use Rattle.bounds.proofs.Divisors.{divides_sum, divides_power}
use Rattle.bounds.proofs.Laws.{Ground, Coarse, Laws}
use Rattle.bounds.proofs.Cases.{Shape, from, under, below_exact, fine_grain}
use Rattle.bounds.proofs.Steps.{last_of, Close, near_close, no_error, exact_both, flip_close, flip_coarse, r_half}
use Rattle.bounds.proofs.Steps.{Shaped, shaped}
use Rattle.bounds.proofs.Products.{Parts}
use Rattle.bounds.proofs.Grain.{top_power}

module _ (β B : ℕ) (ground : Ground β B) (rn : ℤ → ℤ) (law : Laws β B rn) where
  -- E is at most half of B V, and at most a quarter of it or a multiple of V / β
  pub record Small (k : ℕ) (E : ℤ) : Type 0 where
    pub half : 2 * unsigned_abs E ≤ B * β ^ suc k
    pub finer : (4 * unsigned_abs E ≤ B * β ^ suc k) ⊎ (β ^ k ∣ unsigned_abs E)

  -- P + E is at least B V and half a V
  abbrev pub Far : ℕ → ℤ → Type 0
  Far k x = 2 * (B * (ground.h * β ^ k)) + ground.h * β ^ k ≤ unsigned_abs x

  -- how P and E can stand to one another, where E is the error of a product
  abbrev pub Situation : ℤ → ℤ → Type 0
  Situation P E = (rn P ≡ P) ⊎ ((co : Coarse β B P (rn P)) × (Small co.k E ⊎ Far co.k (P +ℤ E)))

  pub half_unit : (k : ℕ) → 2 * (ground.h * β ^ k) ≡ β ^ suc k
  half_unit k = sym (pow-succ' β k ∙ ap (λ (n : ℕ). n * β ^ k) ground.even ∙ omega arith)

  -- X is a multiple of the grain β^i, at most c c grains; Y a product
  pub situation : (X Y : ℤ) (i j : ℕ) → β ^ i ∣ unsigned_abs X → unsigned_abs X ≤ ground.c * ground.c * β ^ i
      → Parts β B ground rn law Y j → Situation (X +ℤ rn Y) (Y -ℤ rn Y)
  situation X Y i j gx tx w = elim (law.unit P) [
    | inl z ↦ inl z
    | inr co ↦ elim (cases_lt (q + suc co.k) w.k) [
      | inr near ↦ inr (co, inl (small co near))
      | inl far ↦ elim (cases_lt i w.k) [
        | inr b ↦ inl (law.fixed P w.k (divides_sum (β ^ w.k) X (rn Y)
            (dvd_trans (β ^ w.k) (divides_power β w.k i b) gx) w.multiple) (few co w.k (omega arith)))
        | inl b ↦ elim (cases_lt (β * B * β ^ i) (unsigned_abs P)) [
          | inr m ↦ inl (law.fixed P i (divides_sum (β ^ i) X (rn Y) gx
              (dvd_trans (β ^ i) (divides_power β i w.k (omega arith)) w.multiple)) m)
          | inl m ↦ inr (co, inr (coarse_far co far m))
        ]
      ]
    ]
  ]
    where
      q : ℕ
      q = ground.q

      P : ℤ
      P = X +ℤ rn Y

      E : ℤ
      E = Y -ℤ rn Y

      sum : P +ℤ E ≡ X +ℤ Y
      sum = mixed X (rn Y) Y
        where
          mixed : (a b f : ℤ) → a +ℤ b +ℤ (f -ℤ b) ≡ a +ℤ f
          mixed a b f = omega (arith, ints)

      -- B units, as a power
      K_power : (k : ℕ) → β ^ (q + k) ≡ B * β ^ k
      K_power k = power_parts β q k (q + k) refl ∙ ap (λ (n : ℕ). n * β ^ k) (sym ground.power)

      few : (co : Coarse β B P (rn P)) (l : ℕ) → suc co.k ≤ l → unsigned_abs P ≤ β * B * β ^ l
      few co l h = omega (arith, co.hi, mul-le-mul_left (β * B) (power_le β (suc co.k) l ground.two h))

      small : (co : Coarse β B P (rn P)) → w.k ≤ q + suc co.k → Small co.k E
      small co h = record {
        half = omega (
          arith,
          w.error_half,
          K_power (suc co.k),
          power_le β w.k (q + suc co.k) ground.two h,
        );
        finer = elim (cases_lt w.k (q + suc co.k)) [
          | inl l ↦ inl (omega (
            arith,
            w.error_half,
            K_power (suc co.k),
            power_le β (suc w.k) (q + suc co.k) ground.two l,
            pow-succ' β w.k,
            mul-le-mul_right (β ^ w.k) ground.two,
          ))
          | inr l ↦ inr (dvd_trans (β ^ co.k) (divides_power β co.k j (grain_above co l)) w.error_grain)
        ];
      }
        where
          grain_above : (co : Coarse β B P (rn P)) → q + suc co.k ≤ w.k → co.k ≤ j
          grain_above co l = elim (cases_lt j co.k) [
            | inr m ↦ m
            | inl m ↦ absurd (
                let less : suc q + j < q + suc co.k = omega arith in
                let a : β ^ suc (suc q + j) ≤ β ^ w.k =
                power_le β (suc (suc q + j)) w.k ground.two (omega arith) in
                let b : β ^ (suc q + j) ≡ β * B * β ^ j = power_parts β (suc q) j (suc q + j) refl
                ∙ ap (λ (n : ℕ). n * β ^ j) (sym (top_power β B ground rn law)) in
                let two : 2 * β ^ (suc q + j) ≤ β * β ^ (suc q + j) =
                mul-le-mul_right (β ^ (suc q + j)) ground.two in
                omega (
                  arith,
                  w.unit_le,
                  pow-succ' β (suc q + j),
                  power_pos β (suc q + j) ground.two,
                ))
          ]

      coarse_far : (co : Coarse β B P (rn P)) → q + suc co.k < w.k → β * B * β ^ i < unsigned_abs P
          → Far co.k (P +ℤ E)
      coarse_far co far m =
          let k : ℕ = co.k in
          let V : ℕ = β ^ suc k in
          let finer : i < suc k = elim (cases_lt i (suc k)) [
            | inl n ↦ n
            | inr n ↦ absurd (omega (arith, few co i n))
          ] in
          let gw : β * β ^ i ≤ V =
          omega (arith, pow-succ' β i, power_le β (suc i) (suc k) ground.two finer) in
          let big : β * (B * V) ≤ β ^ w.k = omega (
            arith,
            pow-succ' β (q + suc k),
            ap (λ (n : ℕ). β * n) (K_power (suc k)),
            power_le β (suc (q + suc k)) w.k ground.two far,
          ) in
          let yb : B * (ground.c * V + V) ≤ unsigned_abs Y = omega (
            arith,
            w.lo,
            mul-le-mul_left B big,
            ap (λ (n : ℕ). B * (n * V)) ground.top,
          ) in
          subst (λ (z : ℤ). 2 * (B * (ground.h * β ^ k)) + ground.h * β ^ k ≤ unsigned_abs z) (sym sum)
          (fine_grain β B ground.c V (β ^ i) (unsigned_abs Y) (unsigned_abs X) (unsigned_abs (X +ℤ Y))
          (ground.h * β ^ k) ground.two
          (omega (arith, ground.eight)) ground.top yb tx (triangle X Y) gw (omega (arith, half_unit k)))
        where
          triangle : (X Y : ℤ) → unsigned_abs Y ≤ unsigned_abs (X +ℤ Y) + unsigned_abs X
          triangle X Y = omega (arith, ints)

  -- the sum that the last rounding is given lies within half a unit of P + E
  pub within_half : (P E : ℤ) (co : Coarse β B P (rn P)) → rn E ≡ E
      → 2 * unsigned_abs (rn P +ℤ rn E -ℤ (P +ℤ E)) ≤ β ^ suc co.k
  within_half P E co kept = off (rn P) (rn E) (law.half P (suc co.k) (omega (arith, co.hi))) kept
    where
      off : (p e : ℤ) → 2 * unsigned_abs (p -ℤ P) ≤ β ^ suc co.k → e ≡ E
          → 2 * unsigned_abs (p +ℤ e -ℤ (P +ℤ E)) ≤ β ^ suc co.k
      off p e a b = omega (arith, ints)

  far_close : (P E : ℤ) (co : Coarse β B P (rn P)) → rn E ≡ E → Far co.k (P +ℤ E) → Close β B ground rn law P E
  far_close P E co kept far =
      let d : ℕ = unsigned_abs (rn P +ℤ rn E -ℤ (P +ℤ E)) in
      let dh : d ≤ ground.h * β ^ co.k = omega (arith, within_half P E co kept, half_unit co.k) in
      near_close β B ground rn law P E (omega (arith, far, mul-le-mul_left B dh))

  small_close : (P : ℕ) (E : ℤ) (co : Coarse β B (pos P) (rn (pos P))) → rn E ≡ E → Small co.k E
      → Close β B ground rn law (pos P) E
  small_close P E co kept small = s.done (elim (cases_lt s.x K) [
    | inr b ↦ from B V P r s.x s.y a 0 sh (omega arith) b
    | inl b ↦ elim (cases_lt s.y K) [
      | inr c ↦ under B V P r s.x s.y a 0 sh (omega arith) b c
          ((last_of β B ground rn law co.k s.y).low (below_middle b))
      | inl c ↦ below_exact B V P r s.x s.y a 0 sh refl b c (elim small.finer [
        | inl m ↦ inr (three_quarters m)
        | inr m ↦ inl (y_kept c m, half_left)
      ])
    ]
  ])
    where
      V : ℕ
      V = β ^ suc co.k

      K : ℕ
      K = B * β ^ suc co.k

      r : ℕ
      r = unsigned_abs (rn (pos P))

      none : unsigned_abs (rn E -ℤ E) ≡ 0
      none = no_error β B ground rn law E kept

      E_size : unsigned_abs (rn E) ≡ unsigned_abs E
      E_size = ap unsigned_abs kept

      s : Shaped β B ground rn law P E co 0
      s = subst (Shaped β B ground rn law P E co) none (shaped β B ground rn law P E co small.half
          (omega (arith, small.half, E_size)))

      a : ℕ
      a = unsigned_abs (rn (pos s.y))

      sh : Shape B V P r s.x s.y a 0
      sh = s.shape

      half_left : B * β ^ suc co.k ≤ 2 * s.x
      half_left = left s.x s.x_is small.half co.lo
        where
          left : {K : ℕ} (x : ℕ) → pos P +ℤ E ≡ pos x → 2 * unsigned_abs E ≤ K → K ≤ P → K ≤ 2 * x
          left x e h g = omega (arith, ints)

      three_quarters : 4 * unsigned_abs E ≤ B * β ^ suc co.k → 3 * (B * β ^ suc co.k) ≤ 4 * s.x
      three_quarters m = left s.x s.x_is m co.lo
        where
          left : {K : ℕ} (x : ℕ) → pos P +ℤ E ≡ pos x → 4 * unsigned_abs E ≤ K → K ≤ P → 3 * K ≤ 4 * x
          left x e h g = omega (arith, ints)

      below_middle : s.x < K → 2 * s.y < (2 * B + 1) * β ^ suc co.k
      below_middle b = y_below s.x s.y s.x_is s.y_is b (r_half β B ground rn law P E co)
        where
          y_below : (x y : ℕ) → pos P +ℤ E ≡ pos x → rn (pos P) +ℤ rn E ≡ pos y → x < B * β ^ suc co.k
              → 2 * unsigned_abs (rn (pos P) -ℤ pos P) ≤ β ^ suc co.k → 2 * y < (2 * B + 1) * β ^ suc co.k
          y_below x y xe ye b h = omega (arith, ints, none)

      -- both parts of y are multiples of V / β, so y is kept
      y_kept : s.y < K → β ^ co.k ∣ unsigned_abs E → unsigned_abs (rn (pos s.y)) ≡ s.y
      y_kept c m = ap unsigned_abs (law.fixed (pos s.y) co.k
          (subst (λ (z : ℤ). β ^ co.k ∣ unsigned_abs z) s.y_is (divides_sum (β ^ co.k) (rn (pos P)) (rn E)
          (dvd_trans (β ^ co.k) (divides_power β co.k (suc co.k) (omega arith)) co.multiple)
          (subst (λ (n : ℕ). β ^ co.k ∣ n) (sym E_size) m)))
          (omega (arith, c, ap (λ (n : ℕ). B * n) (pow-succ' β co.k))))

  coarse_close : (P E : ℤ) (co : Coarse β B P (rn P)) → rn E ≡ E → Small co.k E → Close β B ground rn law P E
  coarse_close (pos P) E co kept small = small_close P E co kept small
  coarse_close (negsuc P) E co kept small = flip_close β B ground rn law (negsuc P) E
      (small_close (suc P) (neg_ℤ E) (flip_coarse β B ground rn law P co) (law.odd E ∙ ap neg_ℤ kept)
      (record {
        half = subst (λ (n : ℕ). 2 * n ≤ B * β ^ suc co.k) (sym (unsigned_abs_neg E)) small.half;
        finer = turned;
      }))
    where
      turned : (4 * unsigned_abs (neg_ℤ E) ≤ B * β ^ suc co.k) ⊎ (β ^ co.k ∣ unsigned_abs (neg_ℤ E))
      turned = subst (λ (n : ℕ). (4 * n ≤ B * β ^ suc co.k) ⊎ (β ^ co.k ∣ n)) (sym (unsigned_abs_neg E)) small.finer

  pub situation_close : (P E : ℤ) → rn E ≡ E → Situation P E → Close β B ground rn law P E
  situation_close P E kept (inl z) = exact_both β B ground rn law P E z kept
  situation_close P E kept (inr (co, inl small)) = coarse_close P E co kept small
  situation_close P E kept (inr (co, inr far)) = far_close P E co kept far
