-- Where the exponents lie after some roundings of an accepted four: level n is n roundings past the products.
use Rattle.std.proofs.Common.{ℕ, suc, ◌+◌, ◌-◌, ◌*◌, ◌^◌, ◌<◌, ◌≤◌, Bool, ℤ, pos, ◌+ℤ◌, ◌-ℤ◌, neg_ℤ, unsigned_abs}
use Rattle.std.proofs.Common.{◌≤ℤ◌, sym, refl, ap, subst, inl, inr, mul-le-mul_right, mul-le-mul_left}
use Rattle.std.proofs.Common.{mul-lt-mul_of_pos_right, pow-suc, arith}
use borrow.Author.Differences.{ints}
use Rattle.std.specs.Int.{int_min}
use Rattle.std.proofs.lemmas.Int.{clamps, unsigned_abs-mul}
use Rattle.std.proofs.lemmas.Bool.{cases_lt}
use native.Mathlib.Nat.{le_of_mul-le-mul_right}
use Rattle.std.proofs.lemmas.Nat.{mul-lt}
use Rattle.whole.proofs.Integers.{unsigned_abs_neg}
use Rattle.whole.proofs.Powers.{power_pos, power_le, power_order, power_split, power_parts}
use Rattle.rounding.specs.declared.Figure.{Figure}
use Rattle.rounding.specs.Exact.{Exact, value, product, units, plus}
use Rattle.rounding.specs.Rounding.{zero_figure, negative, rounded, widened}
use Rattle.rounding.specs.Nearest.{Normal}
use Rattle.rounding.proofs.Places.{place_lo}
use Rattle.rounding.proofs.Computed.{rounded_zero, Found, found}
use Rattle.rounding.proofs.Signs.{signed_size}
use Rattle.rounding.proofs.Seen.{carried_cases}
use Rattle.figures.specs.Figures.{opposite}

-- x is a multiple of the power at the level's floor, and smaller than that at its ceiling
pub record Spans (β n : ℕ) (x : Exact) : Type 0 where
  pub m : ℕ
  pub small : unsigned_abs x.m < β ^ m
  pub low : neg_ℤ (pos (400 + 23 * n)) ≤ℤ x.e
  pub high : (x.e +ℤ pos m) ≤ℤ pos (448 + 2 * n)

-- f is a normal figure between the two powers
pub record Lies (β p n : ℕ) (f : Figure) : Type 0 where
  pub normal : Normal β p f
  pub low : neg_ℤ (pos (400 + 23 * n)) ≤ℤ f.q
  pub high : (f.q +ℤ pos p) ≤ℤ pos (448 + 2 * n)

-- the floors: that of a product of operands, of a sum, and of the level after
pub product_low : (x y : ℤ) → unsigned_abs x ≤ 200 → unsigned_abs y ≤ 200 → neg_ℤ (pos (400 + 23 * 0)) ≤ℤ (x +ℤ y)
product_low x y a b = omega (arith, ints)

pub sum_low : (n : ℕ) (e f : ℤ) → neg_ℤ (pos (400 + 23 * n)) ≤ℤ e → neg_ℤ (pos (400 + 23 * n)) ≤ℤ f
    → neg_ℤ (pos (400 + 23 * n)) ≤ℤ int_min e f
sum_low n e f g h = omega (arith, ints, clamps)

pub later_low : (n : ℕ) (e : ℤ) → neg_ℤ (pos (400 + 23 * n)) ≤ℤ e → neg_ℤ (pos (400 + 23 * suc n)) ≤ℤ e
later_low n e h = omega (arith, ints)

module _ (β p : ℕ) (two : 2 ≤ β) (some : 2 ≤ p) (few : p ≤ 24) where
  one : 1 ≤ p
  one = omega arith

  pub lies_small : (n : ℕ) (f : Figure) → Lies β p n f → unsigned_abs f.s < β ^ p
  lies_small n f l = elim l.normal [
    | inl z ↦ subst (λ (m : ℤ). unsigned_abs m < β ^ p) (sym z.0) (power_pos β p two)
    | inr z ↦ z.1
  ]

  pub lies_near : (n : ℕ) (f : Figure) → n ≤ 4 → Lies β p n f → unsigned_abs f.q ≤ 500
  lies_near n f h l = go f.q l.low l.high
    where
      go : (q : ℤ) → neg_ℤ (pos (400 + 23 * n)) ≤ℤ q → (q +ℤ pos p) ≤ℤ pos (448 + 2 * n) → unsigned_abs q ≤ 500
      go q a b = omega (arith, ints)

  pub lies_spans : (n : ℕ) (f : Figure) → Lies β p n f → Spans β n (value f)
  lies_spans n f l = record { m = p; small = lies_small n f l; low = l.low; high = l.high }

  pub spans_later : (n : ℕ) (x : Exact) → Spans β n x → Spans β (suc n) x
  spans_later n x s = record {
    m = s.m;
    small = s.small;
    low = later_low n x.e s.low;
    high = higher x.e s.high;
  }
    where
      higher : (e : ℤ) → (e +ℤ pos s.m) ≤ℤ pos (448 + 2 * n) → (e +ℤ pos s.m) ≤ℤ pos (448 + 2 * suc n)
      higher e h = omega (arith, ints)

  pub lies_opposite : (n : ℕ) (f : Figure) → Lies β p n f → Lies β p n (opposite f)
  lies_opposite n f l = record { normal = turn l.normal; low = l.low; high = l.high }
    where
      turn : Normal β p f → Normal β p (opposite f)
      turn (inl z) = inl (ap neg_ℤ z.0, z.1)
      turn (inr z) = inr (
        subst (λ (n : ℕ). β ^ (p - 1) ≤ n) (sym (unsigned_abs_neg f.s)) z.0,
        subst (λ (n : ℕ). n < β ^ p) (sym (unsigned_abs_neg f.s)) z.1,
      )

  -- a product of two figures whose exponents lie in -200..200
  pub product_spans : (x y : Figure) → unsigned_abs x.s < β ^ p → unsigned_abs y.s < β ^ p → unsigned_abs x.q ≤ 200
      → unsigned_abs y.q ≤ 200 → Spans β 0 (product x y)
  product_spans x y sx sy qx qy = record {
    m = p + p;
    small = rw (unsigned_abs-mul x.s y.s, power_parts β p p (p + p) refl)
        (mul-lt (unsigned_abs x.s) (unsigned_abs y.s) (β ^ p) (β ^ p) sx sy);
    low = product_low x.q y.q qx qy;
    high = higher x.q y.q qx qy;
  }
    where
      higher : (x y : ℤ) → unsigned_abs x ≤ 200 → unsigned_abs y ≤ 200 → (x +ℤ y +ℤ pos (p + p)) ≤ℤ pos (448 + 2 * 0)
      higher x y a b = omega (arith, ints)

  -- what is rounded once more lies one level on
  pub rounded_lies : (n : ℕ) (x : Exact) (m : ℕ) → unsigned_abs x.m < β ^ m → neg_ℤ (pos (400 + 23 * n)) ≤ℤ x.e
      → (x.e +ℤ pos m) ≤ℤ pos (449 + 2 * n) → Lies β p (suc n) (rounded β p x)
  rounded_lies n x m small low high = elim (cases_lt 0 (unsigned_abs x.m)) [
    | inr none ↦ subst (Lies β p (suc n)) (sym (rounded_zero β p x (omega arith))) zero_lies
    | inl full ↦ lies full (found β p two one x full)
  ]
    where
      zero_lies : Lies β p (suc n) zero_figure
      zero_lies = record { normal = inl (refl, refl); low = omega (arith, ints); high = omega (arith, ints) }

      lies : 0 < unsigned_abs x.m → Found β p x → Lies β p (suc n) (rounded β p x)
      lies full f = elim (carried_cases β p (negative x.m) (f.d + f.b) q (rounded β p x) f.is) [
        | inl h ↦ subst (Lies β p (suc n)) (sym h.is) (record {
          normal = inr (
            subst (λ (k : ℕ). β ^ (p - 1) ≤ k) (sym (signed_size neg (f.d + f.b)))
                (omega (arith, f.place.d_lo)),
            subst (λ (k : ℕ). k < β ^ p) (sym (signed_size neg (f.d + f.b))) h.fits,
          );
          low = lower x.e f.j low;
          high = higher x.e f.j high j_few;
        })
        | inr h ↦ subst (Lies β p (suc n)) (sym h.is) (record {
          normal = inr (
            subst (λ (k : ℕ). β ^ (p - 1) ≤ k) (sym (signed_size neg (β ^ (p - 1)))) (omega arith),
            subst (λ (k : ℕ). k < β ^ p) (sym (signed_size neg (β ^ (p - 1)))) least_lt,
          );
          low = lower_next x.e f.j low;
          high = higher_next x.e f.j high j_few;
        })
      ]
        where
          neg : Bool
          neg = negative x.m

          q : ℤ
          q = x.e -ℤ pos (p - 1) +ℤ pos f.j

          least_lt : β ^ (p - 1) < β ^ p
          least_lt = omega (arith, power_split β p one, mul-le-mul_right (β ^ (p - 1)) two, power_pos β (p - 1) two)

          -- fewer digits are dropped than x has
          j_few : f.j < m
          j_few =
              let wide : β ^ (p - 1) * β ^ f.j ≤ unsigned_abs x.m * β ^ (p - 1) =
              place_lo β p two one (β ^ f.j) (widened β p x) f.d f.w f.b f.place in
              let less : β ^ f.j ≤ unsigned_abs x.m =
              le_of_mul-le-mul_right {k = β ^ (p - 1)} (omega arith) (power_pos β (p - 1) two) in
              power_order β f.j m two (omega (arith, small))

          lower : (e : ℤ) (j : ℕ) → neg_ℤ (pos (400 + 23 * n)) ≤ℤ e
              → neg_ℤ (pos (400 + 23 * suc n)) ≤ℤ (e -ℤ pos (p - 1) +ℤ pos j)
          lower e j h = omega (arith, ints)

          lower_next : (e : ℤ) (j : ℕ) → neg_ℤ (pos (400 + 23 * n)) ≤ℤ e
              → neg_ℤ (pos (400 + 23 * suc n)) ≤ℤ (e -ℤ pos (p - 1) +ℤ pos j +ℤ pos 1)
          lower_next e j h = omega (arith, ints)

          higher : (e : ℤ) (j : ℕ) → (e +ℤ pos m) ≤ℤ pos (449 + 2 * n) → j < m
              → (e -ℤ pos (p - 1) +ℤ pos j +ℤ pos p) ≤ℤ pos (448 + 2 * suc n)
          higher e j h k = omega (arith, ints)

          higher_next : (e : ℤ) (j : ℕ) → (e +ℤ pos m) ≤ℤ pos (449 + 2 * n) → j < m
              → (e -ℤ pos (p - 1) +ℤ pos j +ℤ pos 1 +ℤ pos p) ≤ℤ pos (448 + 2 * suc n)
          higher_next e j h k = omega (arith, ints)

  -- a rounded sum
  pub sum_lies : (n : ℕ) (x y : Exact) → Spans β n x → Spans β n y → Lies β p (suc n) (rounded β p (plus β x y))
  sum_lies n x y a b =
      rounded_lies n (plus β x y) (suc N)
      (rw (pow-suc β N) (sums (units β k x) (units β k y) (β ^ N) (size x a lower_of.0) (size y b lower_of.1)))
      (sum_low n x.e y.e a.low b.low) (top x.e y.e a.high)
    where
      k : ℤ
      k = int_min x.e y.e

      N : ℕ
      N = unsigned_abs (pos (448 + 2 * n) -ℤ int_min x.e y.e)

      lower_of : (int_min x.e y.e ≤ℤ x.e) × (int_min x.e y.e ≤ℤ y.e)
      lower_of = (omega (arith, ints, clamps), omega (arith, ints, clamps))

      top : (e f : ℤ) → (e +ℤ pos a.m) ≤ℤ pos (448 + 2 * n)
          → (int_min e f +ℤ pos (suc (unsigned_abs (pos (448 + 2 * n) -ℤ int_min e f)))) ≤ℤ pos (449 + 2 * n)
      top e f h = omega (arith, ints, clamps)

      size : (z : Exact) → Spans β n z → int_min x.e y.e ≤ℤ z.e
          → unsigned_abs (units β (int_min x.e y.e) z) < β ^ unsigned_abs (pos (448 + 2 * n) -ℤ int_min x.e y.e)
      size z s h =
          let i : ℕ = unsigned_abs (z.e -ℤ int_min x.e y.e) in
          let fits : s.m + i ≤ unsigned_abs (pos (448 + 2 * n) -ℤ int_min x.e y.e) =
          count z.e (int_min x.e y.e) s.m s.high h in
          let a : unsigned_abs z.m * β ^ i < β ^ s.m * β ^ i = mul-lt-mul_of_pos_right s.small (power_pos β i two) in
          rw (unsigned_abs-mul z.m (pos (β ^ i)))
          (omega (arith, a, power_parts β s.m i (s.m + i) refl, power_le β (s.m + i) _ two fits))
        where
          count : (e k : ℤ) (m : ℕ) → (e +ℤ pos m) ≤ℤ pos (448 + 2 * n) → k ≤ℤ e
              → m + unsigned_abs (e -ℤ k) ≤ unsigned_abs (pos (448 + 2 * n) -ℤ k)
          count e k m a b = omega (arith, ints)

      sums : (u v : ℤ) (U : ℕ) → unsigned_abs u < U → unsigned_abs v < U → unsigned_abs (u +ℤ v) < U * β
      sums u v U h g = omega (arith, ints, mul-le-mul_left U two)
