-- Gaussian whole numbers a + bi: lengths of products and sums, and one turn of a phasor.
use Rattle.std.proofs.Common.{◌≡◌, ℕ, ◌+◌, ◌-◌, ◌*◌, ◌≤◌, [], ◌∷◌, ℤ, pos, negsuc, ◌+ℤ◌, ◌-ℤ◌, ◌*ℤ◌, unsigned_abs, sym}
use Rattle.std.proofs.Common.{refl, ap, ◌∙◌, subst, ap₂, arith}
use Rattle.whole.proofs.Linear.{lin}
use Rattle.whole.proofs.Identities.{identity, reads}
use Rattle.phasors.proofs.Lengths.{AtMost, parts_within, turn_within}

-- |a + bi|²
abbrev pub norm : ℤ → ℤ → ℕ
norm a b = unsigned_abs a * unsigned_abs a + unsigned_abs b * unsigned_abs b

-- the size of the inner product of a + bi and c + di
abbrev inner : ℤ → ℤ → ℤ → ℤ → ℕ
inner a b c d = unsigned_abs (a *ℤ c +ℤ b *ℤ d)

pos_norm : (a b : ℤ) → pos (norm a b) ≡ a *ℤ a +ℤ b *ℤ b
pos_norm a b = ap₂ (λ (x y : ℤ). x +ℤ y) (square a) (square b)
  where
    square : (a : ℤ) → pos (unsigned_abs a * unsigned_abs a) ≡ a *ℤ a
    square (pos n) = refl
    square (negsuc n) = refl

-- two numbers whose squared lengths multiply as the identity says
by_identity : (x y a b c d : ℤ) → x *ℤ x +ℤ y *ℤ y ≡ (a *ℤ a +ℤ b *ℤ b) *ℤ (c *ℤ c +ℤ d *ℤ d)
    → norm x y ≡ norm a b * norm c d
by_identity x y a b c d e =
    ap unsigned_abs (pos_norm x y ∙ e ∙ sym (ap₂ (λ (u v : ℤ). u *ℤ v) (pos_norm a b) (pos_norm c d)))

-- the length of a product is the product of the lengths
norm_product : (a b c d : ℤ) → norm (a *ℤ c -ℤ b *ℤ d) (a *ℤ d +ℤ b *ℤ c) ≡ norm a b * norm c d
norm_product a b c d = by_identity (a *ℤ c -ℤ b *ℤ d) (a *ℤ d +ℤ b *ℤ c) a b c d
    (identity (a ∷ b ∷ c ∷ d ∷ []) (search reads depth 12) (search reads depth 12) tt)

-- Cauchy and Schwarz
inner_most : (a b c d : ℤ) → inner a b c d * inner a b c d ≤ norm a b * norm c d
inner_most a b c d = part (unsigned_abs (a *ℤ d -ℤ b *ℤ c)) (inner a b c d) (norm a b * norm c d)
    (by_identity (a *ℤ d -ℤ b *ℤ c) (a *ℤ c +ℤ b *ℤ d) a b c d
    (identity (a ∷ b ∷ c ∷ d ∷ []) (search reads depth 12) (search reads depth 12) tt))
  where
    part : (r m n : ℕ) → r * r + m * m ≡ n → m * m ≤ n
    part r m n h = omega arith

norm_sum : (a b c d : ℤ) → norm (a +ℤ c) (b +ℤ d) ≤ norm a b + 2 * inner a b c d + norm c d
norm_sum a b c d =
    sized (norm (a +ℤ c) (b +ℤ d)) (norm a b) (norm c d) (a *ℤ c +ℤ b *ℤ d)
    (pos_norm (a +ℤ c) (b +ℤ d)
    ∙ identity (a ∷ b ∷ c ∷ d ∷ []) (search reads depth 12) (search reads depth 12) tt
    ∙ sym (ap₂ (λ (u v : ℤ). u +ℤ ((a *ℤ c +ℤ b *ℤ d) +ℤ (a *ℤ c +ℤ b *ℤ d)) +ℤ v) (pos_norm a b) (pos_norm c d)))
  where
    sized : (n u v : ℕ) (i : ℤ) → pos n ≡ pos u +ℤ (i +ℤ i) +ℤ pos v → n ≤ u + 2 * unsigned_abs i + v
    sized n u v i h = omega (arith, lin)

-- One turn of the phasor z = zr + zi i, which stands for the exact x = xr + xi i, by the factor c = cr + ci i, answered
-- by m = mr + mi i.
module _ (zr zi xr xi cr ci mr mi : ℤ) where
  -- the phasor's error, the same turned by the factor, and what the turn adds to it
  abbrev er : ℤ
  er = zr -ℤ xr

  abbrev ei : ℤ
  ei = zi -ℤ xi

  abbrev fr : ℤ
  fr = er *ℤ cr -ℤ ei *ℤ ci

  abbrev fi : ℤ
  fi = er *ℤ ci +ℤ ei *ℤ cr

  abbrev dr : ℤ
  dr = mr -ℤ (zr *ℤ cr -ℤ zi *ℤ ci)

  abbrev di : ℤ
  di = mi -ℤ (zr *ℤ ci +ℤ zi *ℤ cr)

  -- the error after the turn is the sum of the last two
  real_error : dr +ℤ fr ≡ mr -ℤ (xr *ℤ cr -ℤ xi *ℤ ci)
  real_error = identity (mr ∷ zr ∷ zi ∷ xr ∷ xi ∷ cr ∷ ci ∷ []) (search reads depth 16) (search reads depth 16) tt

  imaginary_error : di +ℤ fi ≡ mi -ℤ (xr *ℤ ci +ℤ xi *ℤ cr)
  imaginary_error = identity (mi ∷ zr ∷ zi ∷ xr ∷ xi ∷ cr ∷ ci ∷ []) (search reads depth 16) (search reads depth 16) tt

  phasor_length : norm zr zi ≤ norm xr xi + 2 * inner xr xi er ei + norm er ei
  phasor_length = subst (λ (n : ℕ). n ≤ norm xr xi + 2 * inner xr xi er ei + norm er ei)
      (ap₂ norm (back zr xr) (back zi xi)) (norm_sum xr xi er ei)
    where
      back : (x y : ℤ) → y +ℤ (x -ℤ y) ≡ x
      back x y = omega (arith, lin)

  -- where the answer's parts are within N/D of those of z c, an error of at most A/S - 1 before the turn is at most
  -- A (D + N) / (S D) - 1 after it
  pub turned : (S A D N : ℕ) → S ≤ A → AtMost S (norm er ei) (A - S) (norm xr xi)
      → D * unsigned_abs dr ≤ N * unsigned_abs (zr *ℤ cr -ℤ zi *ℤ ci)
      → D * unsigned_abs di ≤ N * unsigned_abs (zr *ℤ ci +ℤ zi *ℤ cr)
      → AtMost (S * D) (norm (mr -ℤ (xr *ℤ cr -ℤ xi *ℤ ci)) (mi -ℤ (xr *ℤ ci +ℤ xi *ℤ cr))) (A * (D + N) - S * D)
      (norm (xr *ℤ cr -ℤ xi *ℤ ci) (xr *ℤ ci +ℤ xi *ℤ cr))
  turned S A D N some before real imaginary =
      subst (λ (n : ℕ). AtMost (S * D) (norm (mr -ℤ (xr *ℤ cr -ℤ xi *ℤ ci)) (mi -ℤ (xr *ℤ ci +ℤ xi *ℤ cr)))
      (A * (D + N) - S * D) n) (sym (norm_product xr xi cr ci))
      (subst (λ (n : ℕ). AtMost (S * D) n (A * (D + N) - S * D) (norm xr xi * norm cr ci))
      (ap₂ norm real_error imaginary_error)
      (turn_within S A D N (norm cr ci) (norm xr xi) (norm zr zi) (norm er ei) (norm dr di)
      (norm (dr +ℤ fr) (di +ℤ fi)) (inner xr xi er ei) (inner dr di fr fi) some (inner_most xr xi er ei) phasor_length
      (subst (λ (n : ℕ). inner dr di fr fi * inner dr di fr fi ≤ norm dr di * n) (norm_product er ei cr ci)
      (inner_most dr di fr fi))
      (subst (λ (n : ℕ). norm (dr +ℤ fr) (di +ℤ fi) ≤ norm dr di + 2 * inner dr di fr fi + n)
      (norm_product er ei cr ci) (norm_sum dr di fr fi)) before added))
    where
      added : AtMost D (norm dr di) N (norm zr zi * norm cr ci)
      added = subst (λ (n : ℕ). AtMost D (norm dr di) N n) (norm_product zr zi cr ci)
          (parts_within D N (unsigned_abs dr) (unsigned_abs di) (unsigned_abs (zr *ℤ cr -ℤ zi *ℤ ci))
          (unsigned_abs (zr *ℤ ci +ℤ zi *ℤ cr))
          real imaginary)
