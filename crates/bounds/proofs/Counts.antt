-- The methods' steps, counted in fine units: they are the methods on whole numbers.
use Rattle.std.proofs.Common.{◌≡◌, ℕ, ◌+◌, ◌-◌, ◌*◌, ◌^◌, ◌<◌, ◌≤◌, ℤ, pos, ◌+ℤ◌, ◌-ℤ◌, ◌*ℤ◌, neg_ℤ, unsigned_abs}
use Rattle.std.proofs.Common.{◌≤ℤ◌, sym, ap, ◌∙◌, subst, ap₂, inl, inr, mul-le-mul_right, mul-le-mul, arith}
use Prim.Native.Nat.{◌∣◌}
use native.Mathlib.Nat.{dvd-mul_left}
use lib.IntN.{zero-*ℤ, *ℤ-zero}
use borrow.Author.Differences.{ints}
use Rattle.std.specs.Int.{int_min}
use Rattle.std.proofs.lemmas.Int.{clamps, unsigned_abs-mul}
use Rattle.whole.proofs.Integers.{+ℤ-*ℤ, neg_left}
use Rattle.whole.proofs.Powers.{power_split}
use Rattle.rounding.specs.declared.Figure.{Figure}
use Rattle.rounding.specs.Exact.{Exact, value, product, units, plus}
use Rattle.rounding.specs.Rounding.{rounded}
use Rattle.rounding.specs.Nearest.{Normal}
use Rattle.rounding.proofs.Units.{units_finer}
use Rattle.figures.specs.Figures.{opposite}
use Rattle.kinds.specs.Kinds.{IsKind}
use Rattle.kinds.proofs.Sizes.{radix_two, few_digits}
use Rattle.bounds.specs.Fours.{Accepted, exact_sum}
use Rattle.bounds.specs.Kahan.{rounded_product, product_error, fused_first, kahan}
use Rattle.bounds.specs.Symmetric.{products_sum, errors_sum, symmetric}
use Rattle.bounds.proofs.Laws.{Ground}
use Rattle.bounds.proofs.Products.{Term}
use Rattle.bounds.proofs.Sums.{kahan_whole, symmetric_whole}
use Rattle.bounds.proofs.Whole.{near_z, ground_of, units_rounded}
use Rattle.bounds.proofs.Ranges.{product_low, sum_low, later_low}
use Rattle.bounds.proofs.Operands.{Operand, Four, four}
use Rattle.bounds.proofs.Chains.{w_lies, e_lies, f_lies, r_lies, e_sum}

pub units_plus : (β : ℕ) (k : ℤ) (x y : Exact) → k ≤ℤ x.e → k ≤ℤ y.e
    → units β k (plus β x y) ≡ units β k x +ℤ units β k y
units_plus β k x y kx ky =
    +ℤ-*ℤ (units β l x) (units β l y) (pos (β ^ unsigned_abs (l -ℤ k)))
    ∙ sym (ap₂ (λ (a b : ℤ). a +ℤ b) (units_finer β k l x kl lx) (units_finer β k l y kl ly))
  where
    l : ℤ
    l = int_min x.e y.e

    kl : k ≤ℤ int_min x.e y.e
    kl = omega (arith, ints, clamps)

    lx : int_min x.e y.e ≤ℤ x.e
    lx = omega (arith, ints, clamps)

    ly : int_min x.e y.e ≤ℤ y.e
    ly = omega (arith, ints, clamps)

units_opposite : (β : ℕ) (k : ℤ) (f : Figure) → units β k (value (opposite f)) ≡ neg_ℤ (units β k (value f))
units_opposite β k f = neg_left f.s (pos (β ^ unsigned_abs (f.q -ℤ k)))

module _ (β p : ℕ) (kind : IsKind β p) where
  two : 2 ≤ β
  two = radix_two β p kind

  few : p ≤ 24
  few = few_digits β p kind

  pub ground : Ground β (β ^ (p - 1))
  ground = ground_of β p kind.0 two kind.1 kind.2

  -- a product of two figures of the kind, counted
  pub product_term : (a b : Figure) (k : ℤ) → Normal β p a → Normal β p b
      → Term β (β ^ (p - 1)) ground (units β k (product a b)) (unsigned_abs ((product a b).e -ℤ k))
  product_term a b k (inl z) nb = inl (ap (λ (s : ℤ). s *ℤ b.s *ℤ pos (β ^ unsigned_abs ((product a b).e -ℤ k))) z.0
      ∙ ap (λ (s : ℤ). s *ℤ pos (β ^ unsigned_abs ((product a b).e -ℤ k))) (zero-*ℤ b.s)
      ∙ zero-*ℤ (pos (β ^ unsigned_abs ((product a b).e -ℤ k))))
  product_term a b k (inr na) (inl z) =
      inl (ap (λ (s : ℤ). a.s *ℤ s *ℤ pos (β ^ unsigned_abs ((product a b).e -ℤ k))) z.0
      ∙ ap (λ (s : ℤ). s *ℤ pos (β ^ unsigned_abs ((product a b).e -ℤ k))) (*ℤ-zero a.s)
      ∙ zero-*ℤ (pos (β ^ unsigned_abs ((product a b).e -ℤ k))))
  product_term a b k (inr na) (inr nb) = inr (record {
    grain = subst (λ (n : ℕ). E ∣ n) (sym size) (dvd-mul_left E (unsigned_abs a.s * unsigned_abs b.s));
    most = subst (λ (n : ℕ). n ≤ ground.c * ground.c * E) (sym size)
        (mul-le-mul_right E (mul-le-mul (below na.1) (below nb.1)));
    least = subst (λ (n : ℕ). β ^ (p - 1) * β ^ (p - 1) * E ≤ n) (sym size)
        (mul-le-mul_right E (mul-le-mul na.0 nb.0));
  })
    where
      E : ℕ
      E = β ^ unsigned_abs ((product a b).e -ℤ k)

      size : unsigned_abs (units β k (product a b))
          ≡ unsigned_abs a.s * unsigned_abs b.s * β ^ unsigned_abs ((product a b).e -ℤ k)
      size = unsigned_abs-mul (a.s *ℤ b.s) (pos (β ^ unsigned_abs ((product a b).e -ℤ k)))
          ∙ ap (λ (n : ℕ). n * β ^ unsigned_abs ((product a b).e -ℤ k)) (unsigned_abs-mul a.s b.s)

      below : {n : ℕ} → n < β ^ p → n ≤ ground.c
      below h = omega (arith, power_split β p (omega (arith, kind.1)), ground.top)

  -- units finer than every step needs
  module _ (k : ℤ) (fine : k ≤ℤ neg_ℤ (pos 500)) where
    low : (n : ℕ) (e : ℤ) → n ≤ 3 → neg_ℤ (pos (400 + 23 * n)) ≤ℤ e → k ≤ℤ e
    low n e h g = omega (arith, ints)

    finer : (n : ℕ) (e : ℤ) → n ≤ 3 → neg_ℤ (pos (400 + 23 * n)) ≤ℤ e → k ≤ℤ (e -ℤ pos (p - 1))
    finer n e h g = omega (arith, ints, few)

    rounded_count : (n : ℕ) (x : Exact) → n ≤ 3 → neg_ℤ (pos (400 + 23 * n)) ≤ℤ x.e
        → units β k (value (rounded β p x)) ≡ near_z β p (units β k x)
    rounded_count n x h g = units_rounded β p kind.0 two kind.1 x k (finer n x.e h g)

    sum_count : (n : ℕ) (x y : Exact) → n ≤ 3 → neg_ℤ (pos (400 + 23 * n)) ≤ℤ x.e → neg_ℤ (pos (400 + 23 * n)) ≤ℤ y.e
        → units β k (value (rounded β p (plus β x y))) ≡ near_z β p (units β k x +ℤ units β k y)
    sum_count n x y h gx gy = rounded_count n (plus β x y) h (sum_low n x.e y.e gx gy)
        ∙ ap (near_z β p) (units_plus β k x y (low n x.e h gx) (low n y.e h gy))

    -- a product, its rounding and its error
    module _ (c d : Figure) (c_in : Operand β p c) (d_in : Operand β p d) where
      exact_low : neg_ℤ (pos (400 + 23 * 0)) ≤ℤ (product c d).e
      exact_low = product_low c.q d.q c_in.near d_in.near

      w_count : units β k (value (rounded_product β p c d)) ≡ near_z β p (units β k (product c d))
      w_count = rounded_count 0 (product c d) (omega arith) exact_low

      e_count : units β k (value (product_error β p c d))
          ≡ near_z β p (units β k (product c d) -ℤ near_z β p (units β k (product c d)))
      e_count = sum_count 1 (product c d) (value (opposite (rounded_product β p c d))) (omega arith)
          (later_low 0 (product c d).e exact_low) (w_lies β p kind c d c_in d_in).low
          ∙ ap (λ (z : ℤ). near_z β p (units β k (product c d) +ℤ z))
          (units_opposite β k (rounded_product β p c d) ∙ ap neg_ℤ w_count)

    module _ (a b c d : Figure) (accepted : Accepted β p a b c d) where
      all : Four β p a b c d
      all = four β p a b c d accepted

      pub sum_units : units β k (exact_sum β a b c d) ≡ units β k (product a b) +ℤ units β k (product c d)
      sum_units = units_plus β k (product a b) (product c d)
          (low 0 _ (omega arith) (exact_low a b all.a_in all.b_in))
          (low 0 _ (omega arith) (exact_low c d all.c_in all.d_in))

      f_count : units β k (value (fused_first β p a b c d))
          ≡ near_z β p (units β k (product a b) +ℤ near_z β p (units β k (product c d)))
      f_count = sum_count 1 (product a b) (value (rounded_product β p c d)) (omega arith)
          (later_low 0 (product a b).e (exact_low a b all.a_in all.b_in))
          (w_lies β p kind c d all.c_in all.d_in).low
          ∙ ap (λ (z : ℤ). near_z β p (units β k (product a b) +ℤ z)) (w_count c d all.c_in all.d_in)

      pub kahan_count : units β k (value (kahan β p a b c d))
          ≡ kahan_whole (near_z β p) (units β k (product a b)) (units β k (product c d))
      unfolding kahan
      kahan_count = sum_count 2 (value (fused_first β p a b c d)) (value (product_error β p c d)) (omega arith)
          (f_lies β p kind a b c d accepted).low (e_lies β p kind c d all.c_in all.d_in).low
          ∙ ap₂ (λ (f e : ℤ). near_z β p (f +ℤ e)) f_count (e_count c d all.c_in all.d_in)

      r_count : units β k (value (products_sum β p a b c d))
          ≡ near_z β p (near_z β p (units β k (product a b)) +ℤ near_z β p (units β k (product c d)))
      r_count = sum_count 1 (value (rounded_product β p a b)) (value (rounded_product β p c d)) (omega arith)
          (w_lies β p kind a b all.a_in all.b_in).low (w_lies β p kind c d all.c_in all.d_in).low
          ∙ ap₂ (λ (x y : ℤ). near_z β p (x +ℤ y)) (w_count a b all.a_in all.b_in)
          (w_count c d all.c_in all.d_in)

      errors_count : units β k (value (errors_sum β p a b c d))
          ≡ near_z β p (near_z β p (units β k (product a b) -ℤ near_z β p (units β k (product a b)))
          +ℤ near_z β p (units β k (product c d) -ℤ near_z β p (units β k (product c d))))
      errors_count = sum_count 2 (value (product_error β p a b)) (value (product_error β p c d)) (omega arith)
          (e_lies β p kind a b all.a_in all.b_in).low (e_lies β p kind c d all.c_in all.d_in).low
          ∙ ap₂ (λ (x y : ℤ). near_z β p (x +ℤ y)) (e_count a b all.a_in all.b_in)
          (e_count c d all.c_in all.d_in)

      pub symmetric_count : units β k (value (symmetric β p a b c d))
          ≡ symmetric_whole (near_z β p) (units β k (product a b)) (units β k (product c d))
      unfolding symmetric
      symmetric_count = sum_count 3 (value (products_sum β p a b c d)) (value (errors_sum β p a b c d)) (omega arith)
          (later_low 2 _ (r_lies β p kind a b c d accepted).low) (e_sum β p kind a b c d accepted).low
          ∙ ap₂ (λ (x y : ℤ). near_z β p (x +ℤ y)) r_count errors_count
