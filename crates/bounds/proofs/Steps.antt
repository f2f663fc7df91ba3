-- The last two roundings of a method: P is rounded, E is rounded, and their sum is rounded. Where the answer lies
-- within 1/B of P + E, from the laws of rounding alone.
use Rattle.std.proofs.Common.{◌≡◌, ℕ, suc, ◌+◌, ◌*◌, ◌^◌, ◌<◌, ◌≤◌, ℤ, pos, negsuc, ◌+ℤ◌, ◌-ℤ◌, neg_ℤ, unsigned_abs}
use Rattle.std.proofs.Common.{◌≤ℤ◌, ◌<ℤ◌, sym, ap, ◌∙◌, subst, ap₂, mul-le-mul_right, arith}
use Prim.Native.Nat.{◌∣◌}
use native.Mathlib.Nat.{dvd_trans, dvd-mul_left, dvd-zero, pow-succ'}
use lib.IntN.{neg_ℤ-+ℤ}
use borrow.Author.Differences.{ints}
use Rattle.whole.proofs.Distances.{gap, pos_gap}
use Rattle.whole.proofs.Integers.{unsigned_abs_neg}
use Rattle.bounds.proofs.Divisors.{divides_sum, divides_power}
use Rattle.bounds.proofs.Laws.{Ground, Coarse, Laws}
use Rattle.bounds.proofs.Cases.{Last, Shape, near_sum}

neg_gap : (s x y : ℤ) → unsigned_abs (neg_ℤ s -ℤ (neg_ℤ x +ℤ neg_ℤ y)) ≡ unsigned_abs (s -ℤ (x +ℤ y))
neg_gap s x y = omega (arith, ints)

module _ (β B : ℕ) (ground : Ground β B) (rn : ℤ → ℤ) (law : Laws β B rn) where
  two : 2 ≤ β
  two = ground.two

  pub V_small : (k : ℕ) → 8 * β ^ k ≤ B * β ^ k
  V_small k = mul-le-mul_right (β ^ k) ground.eight

  pub zero_fixed : rn (pos 0) ≡ pos 0
  zero_fixed = law.fixed (pos 0) 0 (dvd-zero (β ^ 0)) (omega arith)

  -- the rounding of a number that is not negative is not negative
  pub kept_sign : (t : ℕ) → rn (pos t) ≡ pos (unsigned_abs (rn (pos t)))
  kept_sign t =
      let a : rn (pos 0) ≤ℤ rn (pos t) = law.ordered (pos 0) (pos t) (omega (arith, ints)) in
      let b : pos 0 ≤ℤ rn (pos t) = subst (λ (z : ℤ). z ≤ℤ rn (pos t)) zero_fixed a in
      omega (arith, ints)

  -- B units are kept, so no rounding crosses them
  pub edge : (k : ℕ) → rn (pos (B * β ^ suc k)) ≡ pos (B * β ^ suc k)
  edge k = law.fixed (pos (B * β ^ suc k)) (suc k) (dvd-mul_left (β ^ suc k) B)
      (omega (arith, mul-le-mul_right (B * β ^ suc k) two))

  pub not_under : (t k : ℕ) → B * β ^ suc k ≤ t → pos (B * β ^ suc k) ≤ℤ rn (pos t)
  not_under t k h = subst (λ (z : ℤ). z ≤ℤ rn (pos t)) (edge k)
      (law.ordered (pos (B * β ^ suc k)) (pos t) (omega (arith, ints)))

  pub last_of : (k y : ℕ) → Last B (β ^ suc k) y (unsigned_abs (rn (pos y)))
  last_of k y =
      let s : ℕ = unsigned_abs (rn (pos y)) in
      let V : ℕ = β ^ suc k in
      let i : rn (pos y) ≡ pos s = kept_sign y in
      let off : unsigned_abs (rn (pos y) -ℤ pos y) ≡ gap s y =
      ap (λ (z : ℤ). unsigned_abs (z -ℤ pos y)) i ∙ pos_gap s y in
      let room : B < β * B = omega (arith, ground.eight, mul-le-mul_right B two) in
      record {
        relative = omega (arith, law.relative (pos y), ap (λ (n : ℕ). B * n) off);
        half = λ h. omega (arith, law.half (pos y) (suc k) (omega (arith, mul-le-mul_right (B * V) two)), off);
        floor = λ h. let a : pos (B * V) ≤ℤ rn (pos y) = not_under y k h in omega (arith, ints);
        middle = λ h. let a : rn (pos y) ≤ℤ pos ((B + 1) * V) = law.middle y (suc k) (B + 1) (omega arith)
            (omega (arith, ground.eight, mul-le-mul_right B two)) (omega arith) in omega (arith, ints);
        low = λ h. let a : rn (pos y) ≤ℤ pos (B * V) = law.middle y (suc k) B (omega arith) room h in
            omega (arith, ints);
        quarter = λ h.
            let a : 2 * unsigned_abs (rn (pos y) -ℤ pos y) ≤ β ^ k =
            law.half (pos y) k (omega (arith, ap (λ (n : ℕ). B * n) (pow-succ' β k))) in
            let b : 2 * β ^ k ≤ V = omega (arith, pow-succ' β k, mul-le-mul_right (β ^ k) two) in
            omega (arith, off);
      }

  -- where P + E is below B V, the rounded E does not bring the rounded P past the middle above B V
  pub key : (P k : ℕ) (E : ℤ) → B * β ^ suc k ≤ P → P < β * B * β ^ suc k → β ^ suc k ∣ unsigned_abs (rn (pos P))
      → unsigned_abs E ≤ B * β ^ suc k → (pos P +ℤ E) <ℤ (pos (B * β ^ suc k))
      → rn E ≤ℤ (pos (B * β ^ suc k) +ℤ pos (ground.h * β ^ k) -ℤ rn (pos P))
  key P k E lo hi multiple small below =
      let V : ℕ = β ^ suc k in
      let K : ℕ = B * V in
      let H : ℕ = ground.h * β ^ k in
      let VH : V ≡ H + H = pow-succ' β k ∙ ap (λ (n : ℕ). n * β ^ k) ground.even ∙ omega arith in
      let i : rn (pos P) ≡ pos (unsigned_abs (rn (pos P))) = kept_sign P in
      let M : ℤ = pos K +ℤ pos H -ℤ rn (pos P) in
      let hf : 2 * unsigned_abs (rn (pos P) -ℤ pos P) ≤ V = law.half (pos P) (suc k) (omega arith) in
      let r_k : pos K ≤ℤ rn (pos P) = not_under P k lo in
      let vk : 8 * V ≤ K = V_small (suc k) in
      let finer : β ^ k ∣ V = divides_power β k (suc k) (omega arith) in
      let d1 : β ^ k ∣ K = dvd_trans (β ^ k) finer (dvd-mul_left V B) in
      let d2 : β ^ k ∣ unsigned_abs (pos K +ℤ pos H) =
      divides_sum (β ^ k) (pos K) (pos H) d1 (dvd-mul_left (β ^ k) ground.h) in
      let d3 : β ^ k ∣ unsigned_abs (neg_ℤ (rn (pos P))) =
      subst (λ (m : ℕ). β ^ k ∣ m) (sym (unsigned_abs_neg (rn (pos P)))) (dvd_trans (β ^ k) finer multiple) in
      let d4 : β ^ k ∣ unsigned_abs M = divides_sum (β ^ k) (pos K +ℤ pos H) (neg_ℤ (rn (pos P))) d2 d3 in
      let Mk : unsigned_abs M ≤ β * B * β ^ k = omega (arith, ints, ap (λ (m : ℕ). B * m) (pow-succ' β k)) in
      let EM : E ≤ℤ M = omega (arith, ints) in
      subst (λ (z : ℤ). rn E ≤ℤ z) (law.fixed M k d4 Mk) (law.ordered E M EM)

  -- the answer to P and E is within 1/B of P + E
  abbrev pub Close : ℤ → ℤ → Type 0
  Close P E = B * unsigned_abs (rn (rn P +ℤ rn E) -ℤ (P +ℤ E)) ≤ unsigned_abs (P +ℤ E)

  -- the sum that the last rounding is given lies near enough
  pub near_close : (P E : ℤ) → let y = rn P +ℤ rn E in let x = P +ℤ E in
      2 * (B * unsigned_abs (y -ℤ x)) + unsigned_abs (y -ℤ x) ≤ unsigned_abs x → Close P E
  near_close P E h =
      let y : ℤ = rn P +ℤ rn E in
      let x : ℤ = P +ℤ E in
      let a : unsigned_abs y ≤ unsigned_abs x + unsigned_abs (y -ℤ x) = omega (arith, ints) in
      let b : unsigned_abs (rn y -ℤ x) ≤ unsigned_abs (rn y -ℤ y) + unsigned_abs (y -ℤ x) = omega (arith, ints) in
      near_sum B (unsigned_abs x) (unsigned_abs y) (unsigned_abs (rn y -ℤ x)) (unsigned_abs (rn y -ℤ y))
      (unsigned_abs (y -ℤ x)) a b
      (law.relative y) h

  -- P is kept, and the error of E is small beside P + E
  pub exact_first : (P E : ℤ) → rn P ≡ P
      → 2 * (B * unsigned_abs (rn E -ℤ E)) + unsigned_abs (rn E -ℤ E) ≤ unsigned_abs (P +ℤ E) → Close P E
  exact_first P E e h =
      let off : unsigned_abs (rn P +ℤ rn E -ℤ (P +ℤ E)) ≡ unsigned_abs (rn E -ℤ E) =
      ap (λ (z : ℤ). unsigned_abs (z +ℤ rn E -ℤ (P +ℤ E))) e ∙ same P (rn E) E in
      near_close P E (subst (λ (n : ℕ). 2 * (B * n) + n ≤ unsigned_abs (P +ℤ E)) (sym off) h)
    where
      same : (a b f : ℤ) → unsigned_abs (a +ℤ b -ℤ (a +ℤ f)) ≡ unsigned_abs (b -ℤ f)
      same a b f = omega (arith, ints)

  pub no_error : (E : ℤ) → rn E ≡ E → unsigned_abs (rn E -ℤ E) ≡ 0
  no_error E e = ap (λ (z : ℤ). unsigned_abs (z -ℤ E)) e ∙ omega (arith, ints)

  pub exact_both : (P E : ℤ) → rn P ≡ P → rn E ≡ E → Close P E
  exact_both P E p e =
      exact_first P E p (omega (arith, no_error E e, ap (λ (n : ℕ). B * n) (no_error E e)))

  -- all signs turned
  pub flip_close : (P E : ℤ) → Close (neg_ℤ P) (neg_ℤ E) → Close P E
  flip_close P E c =
      let a : rn (rn (neg_ℤ P) +ℤ rn (neg_ℤ E)) ≡ neg_ℤ (rn (rn P +ℤ rn E)) =
      ap rn (ap₂ (λ (a b : ℤ). a +ℤ b) (law.odd P) (law.odd E) ∙ sym (neg_ℤ-+ℤ (rn P) (rn E)))
      ∙ law.odd (rn P +ℤ rn E) in
      let far : unsigned_abs (rn (rn (neg_ℤ P) +ℤ rn (neg_ℤ E)) -ℤ (neg_ℤ P +ℤ neg_ℤ E))
      ≡ unsigned_abs (rn (rn P +ℤ rn E) -ℤ (P +ℤ E)) =
      ap (λ (z : ℤ). unsigned_abs (z -ℤ (neg_ℤ P +ℤ neg_ℤ E))) a ∙ neg_gap (rn (rn P +ℤ rn E)) P E in
      let size : unsigned_abs (neg_ℤ P +ℤ neg_ℤ E) ≡ unsigned_abs (P +ℤ E) =
      ap unsigned_abs (sym (neg_ℤ-+ℤ P E)) ∙ unsigned_abs_neg (P +ℤ E) in
      subst (λ (w : ℕ). B * unsigned_abs (rn (rn P +ℤ rn E) -ℤ (P +ℤ E)) ≤ w) size
      (subst (λ (w : ℕ). B * w ≤ unsigned_abs (neg_ℤ P +ℤ neg_ℤ E)) far c)

  abbrev pub flip_coarse : (P : ℕ) → Coarse β B (negsuc P) (rn (negsuc P))
      → Coarse β B (pos (suc P)) (rn (pos (suc P)))
  flip_coarse P co = record {
    k = co.k;
    lo = co.lo;
    hi = co.hi;
    multiple = subst (λ (n : ℕ). β ^ suc co.k ∣ n)
        (sym (ap unsigned_abs (law.odd (negsuc P)) ∙ unsigned_abs_neg (rn (negsuc P)))) co.multiple;
  }

  -- P > 0 is cut at the unit V = β^(k+1)
  module _ (P : ℕ) (E : ℤ) (co : Coarse β B (pos P) (rn (pos P))) where
    pub r_half : 2 * unsigned_abs (rn (pos P) -ℤ pos P) ≤ β ^ suc co.k
    r_half = law.half (pos P) (suc co.k) (omega (arith, co.hi))

    pub r_low : pos (B * β ^ suc co.k) ≤ℤ rn (pos P)
    r_low = not_under P co.k co.lo

    -- what the rounded P and E come to: y = rn P + rn E and x = P + E are not negative
    pub record Shaped (t : ℕ) : Type 0 where
      pub x : ℕ
      pub y : ℕ
      pub x_is : pos P +ℤ E ≡ pos x
      pub y_is : rn (pos P) +ℤ rn E ≡ pos y
      pub shape : Shape B (β ^ suc co.k) P (unsigned_abs (rn (pos P))) x y (unsigned_abs (rn (pos y))) t
      pub done : B * gap (unsigned_abs (rn (pos y))) x ≤ x → Close (pos P) E

    pub shaped : 2 * unsigned_abs E ≤ B * β ^ suc co.k → 2 * unsigned_abs (rn E) ≤ B * β ^ suc co.k
        → Shaped (unsigned_abs (rn E -ℤ E))
    shaped small small' =
        let K : ℕ = B * β ^ suc co.k in
        let x : ℕ = unsigned_abs (pos P +ℤ E) in
        let y : ℕ = unsigned_abs (rn (pos P) +ℤ rn E) in
        let s : ℕ = unsigned_abs (rn (pos y)) in
        let x_is : pos P +ℤ E ≡ pos x = omega (arith, ints, co.lo) in
        let y_is : rn (pos P) +ℤ rn E ≡ pos y = omega (arith, ints, r_low) in
        let s_is : rn (rn (pos P) +ℤ rn E) ≡ pos s = ap rn y_is ∙ kept_sign y in
        let far : unsigned_abs (rn (rn (pos P) +ℤ rn E) -ℤ (pos P +ℤ E)) ≡ gap s x =
        ap₂ (λ (a b : ℤ). unsigned_abs (a -ℤ b)) s_is x_is ∙ pos_gap s x in
        let r_is : rn (pos P) ≡ pos (unsigned_abs (rn (pos P))) = kept_sign P in
        record {
          x = x;
          y = y;
          x_is = x_is;
          y_is = y_is;
          shape = record {
            eight = ground.eight;
            from_B = co.lo;
            r_half = omega (arith, ints, r_half);
            t_is = omega (arith, ints);
            last = last_of co.k y;
          };
          done = λ h. omega (arith, ap (λ (n : ℕ). B * n) far, ap unsigned_abs x_is);
        }
