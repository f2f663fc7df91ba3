-- Kahan's method is within (β + 1)/2 units of the last place of X + Y.
use Rattle.std.proofs.Common.{◌≡◌, ℕ, suc, ◌+◌, ◌*◌, ◌^◌, ◌<◌, ◌≤◌, ℤ, pos, negsuc, ◌+ℤ◌, ◌-ℤ◌, neg_ℤ, unsigned_abs}
use Rattle.std.proofs.Common.{◌≤ℤ◌, sym, ap, subst, ap₂, inl, inr, mul-le-mul_right, mul-le-mul_left, arith}
use borrow.Author.Differences.{ints}
use Rattle.std.proofs.lemmas.Bool.{cases_lt}
use native.Mathlib.Nat.{pow-succ'}
use Rattle.whole.proofs.Powers.{power_le}
use Rattle.bounds.proofs.Laws.{Ground, Coarse, Laws}
use Rattle.bounds.proofs.Steps.{not_under}
use Rattle.bounds.proofs.Kahan.{Situation, half_unit, within_half}

module _ (β B : ℕ) (ground : Ground β B) (rn : ℤ → ℤ) (law : Laws β B rn) where
  -- the last rounding, of a y within half of β^(v+1) of x, where x has its last place at β^v or below
  last_pos : (y v : ℕ) (x : ℤ) → unsigned_abs x < β * B * β ^ v → 2 * unsigned_abs (pos y -ℤ x) ≤ β ^ suc v
      → 2 * unsigned_abs (rn (pos y) -ℤ x) ≤ β ^ suc v + β ^ v
  last_pos y v x lx ly = elim (cases_lt (β * B * β ^ v) y) [
    | inr a ↦ (let hf : 2 * unsigned_abs (rn (pos y) -ℤ pos y) ≤ β ^ v = law.half (pos y) v a in omega (arith, ints))
    | inl a ↦
        let K : ℕ = B * β ^ suc v in
        let KB : β * B * β ^ v ≡ K = omega (arith, ap (λ (n : ℕ). B * n) (pow-succ' β v)) in
        let lo : pos K ≤ℤ rn (pos y) = not_under β B ground rn law y v (omega arith) in
        let hi : rn (pos y) ≤ℤ pos K = law.middle y (suc v) B (omega arith)
        (omega (arith, ground.eight, mul-le-mul_right B ground.two)) (omega (arith, ints)) in
        omega (arith, ints)
  ]

  last : (y : ℤ) (v : ℕ) (x : ℤ) → unsigned_abs x < β * B * β ^ v → 2 * unsigned_abs (y -ℤ x) ≤ β ^ suc v
      → 2 * unsigned_abs (rn y -ℤ x) ≤ β ^ suc v + β ^ v
  last (pos y) v x lx ly = last_pos y v x lx ly
  last (negsuc y) v x lx ly =
      back (rn (pos (suc y))) (rn (negsuc y)) x (law.odd (negsuc y))
      (last_pos (suc y) v (neg_ℤ x) (turned x lx) (turned' y x ly))
    where
      turned : (x : ℤ) → unsigned_abs x < β * B * β ^ v → unsigned_abs (neg_ℤ x) < β * B * β ^ v
      turned x h = omega (arith, ints)

      turned' : (y : ℕ) (x : ℤ) → 2 * unsigned_abs (negsuc y -ℤ x) ≤ β ^ suc v
          → 2 * unsigned_abs (pos (suc y) -ℤ neg_ℤ x) ≤ β ^ suc v
      turned' y x h = omega (arith, ints)

      back : (a b x : ℤ) → a ≡ neg_ℤ b → 2 * unsigned_abs (a -ℤ neg_ℤ x) ≤ β ^ suc v + β ^ v
          → 2 * unsigned_abs (b -ℤ x) ≤ β ^ suc v + β ^ v
      back a b x e h = omega (arith, ints)

  -- the answer to P and E lies within (β + 1)/2 units β^v of P + E, where P + E has at most p digits in these units
  abbrev pub Placed : ℤ → ℤ → Type 0
  Placed P E = (v : ℕ) → unsigned_abs (P +ℤ E) < β * B * β ^ v
      → 2 * unsigned_abs (rn (rn P +ℤ rn E) -ℤ (P +ℤ E)) ≤ β ^ suc v + β ^ v

  exact : (P E : ℤ) → rn P ≡ P → rn E ≡ E → Placed P E
  exact P E p e v l =
      subst (λ (z : ℤ). 2 * unsigned_abs (rn z -ℤ (P +ℤ E)) ≤ β ^ suc v + β ^ v)
      (ap₂ (λ (a b : ℤ). a +ℤ b) (sym p) (sym e))
      (last (P +ℤ E) v (P +ℤ E) l (none (P +ℤ E)))
    where
      none : (z : ℤ) → 2 * unsigned_abs (z -ℤ z) ≤ β ^ suc v
      none z = omega (arith, ints)

  -- the unit of P is at most β units of the last place
  coarse : (P E : ℤ) (co : Coarse β B P (rn P)) → rn E ≡ E → B * β ^ suc co.k ≤ 2 * unsigned_abs (P +ℤ E) → Placed P E
  coarse P E co kept big v l = last (rn P +ℤ rn E) v (P +ℤ E) l
      (omega (arith, within_half β B ground rn law P E co kept, unit))
    where
      clash : (V V1 V2 U x : ℕ) → V1 ≡ β * V → V2 ≡ β * V1 → V2 ≤ U → B * U ≤ 2 * x → x < β * B * V → ⊥
      clash V V1 V2 U x e f g m n =
          let a : B * V2 ≤ B * U = mul-le-mul_left B g in
          let b : 2 * (B * V1) ≤ β * (B * V1) = mul-le-mul_right (B * V1) ground.two in
          omega (arith, ap (λ (n : ℕ). B * n) e, ap (λ (n : ℕ). B * n) f)

      unit : β ^ suc co.k ≤ β ^ suc v
      unit = elim (cases_lt (suc v) (suc co.k)) [
        | inr a ↦ power_le β (suc co.k) (suc v) ground.two a
        | inl a ↦ absurd (clash (β ^ v) (β ^ suc v) (β ^ suc (suc v)) (β ^ suc co.k) (unsigned_abs (P +ℤ E))
            (pow-succ' β v) (pow-succ' β (suc v))
            (power_le β (suc (suc v)) (suc co.k) ground.two a) big l)
      ]

  pub situation_placed : (P E : ℤ) → rn E ≡ E → Situation β B ground rn law P E → Placed P E
  situation_placed P E kept (inl z) = exact P E z kept
  situation_placed P E kept (inr (co, inl small)) = coarse P E co kept (wide P E co.lo small.half)
    where
      wide : {K : ℕ} (P E : ℤ) → K ≤ unsigned_abs P → 2 * unsigned_abs E ≤ K → K ≤ 2 * unsigned_abs (P +ℤ E)
      wide P E a b = omega (arith, ints)
  situation_placed P E kept (inr (co, inr far)) =
      coarse P E co kept (omega (arith, far, ap (λ (n : ℕ). B * n) (half_unit β B ground rn law co.k)))
