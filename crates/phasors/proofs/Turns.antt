-- One turn of a phasor, with exponents: counted in fine units it is a turn on whole numbers.
use Rattle.std.proofs.Common.{◌≡◌, ℕ, ◌+◌, ◌-◌, ◌*◌, ◌^◌, ◌≤◌, [], ◌∷◌, ℤ, pos, ◌+ℤ◌, ◌-ℤ◌, ◌*ℤ◌, unsigned_abs, ◌≤ℤ◌}
use Rattle.std.proofs.Common.{sym, ap, ◌∙◌, subst, ap₂, mul-le-mul, pow-suc, add-one, arith, pow-add}
use native.Mathlib.Nat.{pow-le-pow_left, le-add_right, le_of_mul-le-mul_right}
use Rattle.kinds.proofs.Sizes.{double_power}
use borrow.Author.Differences.{ints}
use Rattle.std.specs.Int.{int_min}
use Rattle.std.proofs.lemmas.Int.{clamps, unsigned_abs-mul}
use Rattle.whole.proofs.Comparisons.{≤ℤ-trans}
use Rattle.whole.proofs.Identities.{identity, reads}
use Rattle.whole.proofs.Integers.{neg_left}
use Rattle.whole.proofs.Powers.{power_pos}
use Rattle.rounding.specs.declared.Figure.{Figure}
use Rattle.rounding.specs.Exact.{Exact, value, product, units, distance}
use Rattle.rounding.specs.Errors.{Within}
use Rattle.rounding.proofs.Units.{units_finer, distance_finer}
use Rattle.figures.specs.Figures.{opposite}
use Rattle.bounds.specs.Fours.{exact_sum}
use Rattle.bounds.proofs.Counts.{units_plus}
use Rattle.phasors.specs.declared.Phasor.{Phasor}
use Rattle.phasors.specs.Complex.{Complex, real_part, imaginary_part, factor, times}
use Rattle.phasors.specs.Distances.{square, distance², length², NearAfter}
use Rattle.phasors.proofs.Lengths.{AtMost}
use Rattle.phasors.proofs.Gaussian.{norm, turned}

-- a product of two figures, counted: the units multiply
units_product : (β : ℕ) (j q : ℤ) (x y : Figure) → j ≤ℤ x.q → q ≤ℤ y.q
    → units β (j +ℤ q) (product x y) ≡ units β j (value x) *ℤ units β q (value y)
units_product β j q x y jx qy =
    ap (λ (n : ℕ). x.s *ℤ y.s *ℤ pos (β ^ n)) (far x.q y.q jx qy)
    ∙ ap (λ (n : ℕ). x.s *ℤ y.s *ℤ pos n) (pow-add β (unsigned_abs (x.q -ℤ j)) (unsigned_abs (y.q -ℤ q)))
    ∙ pairs x.s y.s (pos (β ^ unsigned_abs (x.q -ℤ j))) (pos (β ^ unsigned_abs (y.q -ℤ q)))
  where
    far : (a b : ℤ) → j ≤ℤ a → q ≤ℤ b
        → unsigned_abs ((a +ℤ b) -ℤ (j +ℤ q)) ≡ unsigned_abs (a -ℤ j) + unsigned_abs (b -ℤ q)
    far a b h g = omega (arith, ints)

    pairs : (a b c d : ℤ) → a *ℤ b *ℤ (c *ℤ d) ≡ a *ℤ c *ℤ (b *ℤ d)
    pairs a b c d = identity (a ∷ b ∷ c ∷ d ∷ []) (search reads depth 12) (search reads depth 12) tt

-- an exact product, counted
module _ (β : ℕ) (j : ℤ) (z c : Complex) where
  same_far : unsigned_abs ((z.e +ℤ c.e) -ℤ (j +ℤ c.e)) ≡ unsigned_abs (z.e -ℤ j)
  same_far = plain z.e c.e
    where
      plain : (e q : ℤ) → unsigned_abs ((e +ℤ q) -ℤ (j +ℤ q)) ≡ unsigned_abs (e -ℤ j)
      plain e q = omega (arith, ints)

  units_real : units β (j +ℤ c.e) (real_part (times z c))
      ≡ units β j (real_part z) *ℤ c.re -ℤ units β j (imaginary_part z) *ℤ c.im
  units_real =
      ap (λ (n : ℕ). (real_part (times z c)).m *ℤ pos (β ^ n)) same_far
      ∙ spread z.re z.im c.re c.im (pos (β ^ unsigned_abs (z.e -ℤ j)))
    where
      spread : (a b c d g : ℤ) → (a *ℤ c -ℤ b *ℤ d) *ℤ g ≡ a *ℤ g *ℤ c -ℤ b *ℤ g *ℤ d
      spread a b c d g = identity (a ∷ b ∷ c ∷ d ∷ g ∷ []) (search reads depth 12) (search reads depth 12) tt

  units_imaginary : units β (j +ℤ c.e) (imaginary_part (times z c))
      ≡ units β j (real_part z) *ℤ c.im +ℤ units β j (imaginary_part z) *ℤ c.re
  units_imaginary =
      ap (λ (n : ℕ). (imaginary_part (times z c)).m *ℤ pos (β ^ n)) same_far
      ∙ spread z.re z.im c.re c.im (pos (β ^ unsigned_abs (z.e -ℤ j)))
    where
      spread : (a b c d g : ℤ) → (a *ℤ d +ℤ b *ℤ c) *ℤ g ≡ a *ℤ g *ℤ d +ℤ b *ℤ g *ℤ c
      spread a b c d g = identity (a ∷ b ∷ c ∷ d ∷ g ∷ []) (search reads depth 12) (search reads depth 12) tt

-- what holds in finer units holds
coarser : (β : ℕ) → 2 ≤ β → (j k : ℤ) (w : Phasor) (z : Complex) (S T : ℕ) → j ≤ℤ k
    → k ≤ℤ w.real.q → k ≤ℤ w.imaginary.q → k ≤ℤ z.e
    → AtMost S (distance² β j w z) T (length² β j z) → AtMost S (distance² β k w z) T (length² β k z)
coarser β two j k w z S T jk kr ki kz fine =
    cancel (distance β k (value w.real) (real_part z)) (distance β k (value w.imaginary) (imaginary_part z))
    (unsigned_abs (units β k (real_part z))) (unsigned_abs (units β k (imaginary_part z)))
    (distance β j (value w.real) (real_part z)) (distance β j (value w.imaginary) (imaginary_part z))
    (unsigned_abs (units β j (real_part z))) (unsigned_abs (units β j (imaginary_part z)))
    (β ^ unsigned_abs (k -ℤ j)) (power_pos β (unsigned_abs (k -ℤ j)) two)
    (distance_finer β j k (value w.real) (real_part z) jk kr kz)
    (distance_finer β j k (value w.imaginary) (imaginary_part z) jk ki kz)
    (size_finer (real_part z) kz) (size_finer (imaginary_part z) kz) fine
  where
    size_finer : (x : Exact) → k ≤ℤ x.e
        → unsigned_abs (units β j x) ≡ unsigned_abs (units β k x) * β ^ unsigned_abs (k -ℤ j)
    size_finer x kx =
        ap unsigned_abs (units_finer β j k x jk kx) ∙ unsigned_abs-mul (units β k x) (pos (β ^ unsigned_abs (k -ℤ j)))

    plain : (a b u v g : ℕ) → 1 ≤ g
        → AtMost S (a * g * (a * g) + b * g * (b * g)) T (u * g * (u * g) + v * g * (v * g))
        → AtMost S (a * a + b * b) T (u * u + v * v)
    plain a b u v g some h =
        let square : 1 * 1 ≤ g * g = mul-le-mul some some in
        le_of_mul-le-mul_right {k = g * g} (omega arith) (omega arith)

    cancel : (a b u v a' b' u' v' g : ℕ) → 1 ≤ g → a' ≡ a * g → b' ≡ b * g → u' ≡ u * g → v' ≡ v * g
        → AtMost S (a' * a' + b' * b') T (u' * u' + v' * v') → AtMost S (a * a + b * b) T (u * u + v * v)
    cancel a b u v a' b' u' v' g some ea eb eu ev h = plain a b u v g some
        (subst (λ (n : ℕ). AtMost S (a * g * (a * g) + b * g * (b * g)) T (u * g * (u * g) + n * n)) ev
        (subst (λ (n : ℕ). AtMost S (a * g * (a * g) + b * g * (b * g)) T (n * n + v' * v')) eu
        (subst (λ (n : ℕ). AtMost S (a * g * (a * g) + n * n) T (u' * u' + v' * v')) eb
        (subst (λ (n : ℕ). AtMost S (n * n + b' * b') T (u' * u' + v' * v')) ea h))))

-- the power of one turn more
power_more : (D n : ℕ) → D ^ (n + 1) ≡ D ^ n * D
power_more D n = ap (λ (k : ℕ). D ^ k) (add-one n) ∙ pow-suc D n

-- w stands for z after n turns, and the parts of w' are within N/D of those of w (c + di)
module _ (β : ℕ) (two : 2 ≤ β) (N D n : ℕ) (w w' : Phasor) (c d : Figure) (z : Complex)
    (near : NearAfter β N D n w z)
    (real : Within β N D (value w'.real) (exact_sum β w.real c (opposite w.imaginary) d))
    (imaginary : Within β N D (value w'.imaginary) (exact_sum β w.real d w.imaginary c)) where
  abbrev q : ℤ
  q = int_min c.q d.q

  q_c : q ≤ℤ c.q
  q_c = omega (arith, ints, clamps)

  q_d : q ≤ℤ d.q
  q_d = omega (arith, ints, clamps)

  -- in units of β^j for the phasor, of β^q for the factor, and so of β^(j + q) for their product
  module _ (j : ℤ) (jr : j ≤ℤ w.real.q) (ji : j ≤ℤ w.imaginary.q) (jz : j ≤ℤ z.e)
      (kr : (j +ℤ q) ≤ℤ w'.real.q) (ki : (j +ℤ q) ≤ℤ w'.imaginary.q) where
    abbrev zr : ℤ
    zr = units β j (value w.real)

    abbrev zi : ℤ
    zi = units β j (value w.imaginary)

    abbrev cr : ℤ
    cr = units β q (value c)

    abbrev ci : ℤ
    ci = units β q (value d)

    above : (x y : ℤ) → j ≤ℤ x → q ≤ℤ y → (j +ℤ q) ≤ℤ (x +ℤ y)
    above x y h g = plain x y q h g
      where
        plain : (x y q : ℤ) → j ≤ℤ x → q ≤ℤ y → (j +ℤ q) ≤ℤ (x +ℤ y)
        plain x y q h g = omega (arith, ints)

    lowest : (k x y : ℤ) → k ≤ℤ x → k ≤ℤ y → k ≤ℤ int_min x y
    lowest k x y h g = omega (arith, ints, clamps)

    real_sum : units β (j +ℤ q) (exact_sum β w.real c (opposite w.imaginary) d) ≡ zr *ℤ cr -ℤ zi *ℤ ci
    real_sum =
        units_plus β (j +ℤ q) (product w.real c) (product (opposite w.imaginary) d)
        (above _ _ jr q_c) (above _ _ ji q_d)
        ∙ ap₂ (λ (u v : ℤ). u +ℤ v) (units_product β j q w.real c jr q_c)
        (units_product β j q (opposite w.imaginary) d ji q_d
        ∙ ap (λ (u : ℤ). u *ℤ ci) (neg_left w.imaginary.s (pos (β ^ unsigned_abs (w.imaginary.q -ℤ j))))
        ∙ neg_left zi ci)

    imaginary_sum : units β (j +ℤ q) (exact_sum β w.real d w.imaginary c) ≡ zr *ℤ ci +ℤ zi *ℤ cr
    imaginary_sum =
        units_plus β (j +ℤ q) (product w.real d) (product w.imaginary c)
        (above _ _ jr q_d) (above _ _ ji q_c)
        ∙ ap₂ (λ (u v : ℤ). u +ℤ v) (units_product β j q w.real d jr q_d)
        (units_product β j q w.imaginary c ji q_c)

    fine : (S A : ℕ) → S ≤ A → AtMost S (distance² β j w z) (A - S) (length² β j z)
        → AtMost (S * D) (distance² β (j +ℤ q) w' (times z (factor β c d))) (A * (D + N) - S * D)
        (length² β (j +ℤ q) (times z (factor β c d)))
    fine S A some before =
        subst (λ (x : ℤ). AtMost (S * D)
        (norm (mr -ℤ x) (mi -ℤ units β (j +ℤ q) (imaginary_part (times z (factor β c d))))) (A * (D + N) - S * D)
        (norm x (units β (j +ℤ q) (imaginary_part (times z (factor β c d)))))) (sym (units_real β j z (factor β c d)))
        (subst (λ (y : ℤ). AtMost (S * D) (norm (mr -ℤ (xr *ℤ cr -ℤ xi *ℤ ci)) (mi -ℤ y)) (A * (D + N) - S * D)
        (norm (xr *ℤ cr -ℤ xi *ℤ ci) y)) (sym (units_imaginary β j z (factor β c d)))
        (turned zr zi xr xi cr ci mr mi S A D N some before
        (subst (λ (x : ℤ). D * unsigned_abs (mr -ℤ x) ≤ N * unsigned_abs x) real_sum
        (real (j +ℤ q) kr (lowest _ _ _ (above _ _ jr q_c) (above _ _ ji q_d))))
        (subst (λ (x : ℤ). D * unsigned_abs (mi -ℤ x) ≤ N * unsigned_abs x) imaginary_sum
        (imaginary (j +ℤ q) ki (lowest _ _ _ (above _ _ jr q_d) (above _ _ ji q_c))))))
      where
        xr : ℤ
        xr = units β j (real_part z)

        xi : ℤ
        xi = units β j (imaginary_part z)

        mr : ℤ
        mr = units β (j +ℤ q) (value w'.real)

        mi : ℤ
        mi = units β (j +ℤ q) (value w'.imaginary)

  -- one turn more
  pub near_more : NearAfter β N D (n + 1) w' (times z (factor β c d))
  near_more k kr ki kz =
      subst (λ (m : ℕ). distance² β k w' z' * m ≤ square ((D + N) ^ (n + 1) - D ^ (n + 1)) * length² β k z')
      (sym (double_power D (n + 1) ∙ ap (λ (m : ℕ). m * m) (power_more D n)))
      (subst (λ (m : ℕ). AtMost (D ^ n * D) (distance² β k w' z') m (length² β k z'))
      (sym (ap₂ (λ (u v : ℕ). u - v) (power_more (D + N) n) (power_more D n)))
      (coarser β two (j +ℤ q) k w' z' (D ^ n * D) ((D + N) ^ n * (D + N) - D ^ n * D) jk kr ki kz
      (fine j jr ji jz (≤ℤ-trans _ _ _ jk kr) (≤ℤ-trans _ _ _ jk ki) (D ^ n) ((D + N) ^ n)
      (pow-le-pow_left (le-add_right D N) n)
      (subst (λ (m : ℕ). distance² β j w z * m ≤ square ((D + N) ^ n - D ^ n) * length² β j z) (double_power D n)
      (near j jr ji jz)))))
    where
      z' : Complex
      z' = times z (factor β c d)

      -- fine enough for the phasor, the exact product, and the unit that is asked for
      j : ℤ
      j = int_min (int_min w.real.q w.imaginary.q) (int_min z.e (k -ℤ q))

      finest : (a b e f : ℤ) → let m = int_min (int_min a b) (int_min e f) in
          (m ≤ℤ a) × (m ≤ℤ b) × (m ≤ℤ e) × (m ≤ℤ f)
      finest a b e f = (
        omega (arith, ints, clamps),
        omega (arith, ints, clamps),
        omega (arith, ints, clamps),
        omega (arith, ints, clamps),
      )

      jr : j ≤ℤ w.real.q
      jr = (finest w.real.q w.imaginary.q z.e (k -ℤ q)).0

      ji : j ≤ℤ w.imaginary.q
      ji = (finest w.real.q w.imaginary.q z.e (k -ℤ q)).1

      jz : j ≤ℤ z.e
      jz = (finest w.real.q w.imaginary.q z.e (k -ℤ q)).2

      jk : (j +ℤ q) ≤ℤ k
      jk = over j q (finest w.real.q w.imaginary.q z.e (k -ℤ q)).3
        where
          over : (j q : ℤ) → j ≤ℤ (k -ℤ q) → (j +ℤ q) ≤ℤ k
          over j q h = omega (arith, ints)
