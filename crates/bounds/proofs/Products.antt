-- A product of two figures, its rounding, and its error, which is kept whole by a further rounding.
use Rattle.std.proofs.Common.{◌≡◌, ℕ, suc, ◌+◌, ◌*◌, ◌^◌, ◌≤◌, ◌⊎◌, ℤ, pos, negsuc, ◌-ℤ◌, neg_ℤ, unsigned_abs, ◌≤ℤ◌}
use Rattle.std.proofs.Common.{sym, ap, ◌∙◌, subst, inl, inr, mul-le-mul_right, arith, pow-add}
use Prim.Native.Nat.{◌∣◌}
use native.Mathlib.Nat.{dvd_trans, dvd-mul_left, pow-succ'}
use borrow.Author.Differences.{ints}
use Rattle.std.proofs.lemmas.Bool.{cases_lt}
use Rattle.whole.proofs.Integers.{unsigned_abs_neg}
use Rattle.bounds.proofs.Divisors.{divides_sum, divides_power}
use Rattle.bounds.proofs.Laws.{Ground, Laws}
use Rattle.bounds.proofs.Steps.{zero_fixed}

module _ (β B : ℕ) (ground : Ground β B) where
  -- a product of two significands in the grain β^i; zero is none
  pub record Product (X : ℤ) (i : ℕ) : Type 0 where
    pub grain : β ^ i ∣ unsigned_abs X
    pub most : unsigned_abs X ≤ ground.c * ground.c * β ^ i
    pub least : B * B * β ^ i ≤ unsigned_abs X

  -- zero, or such a product
  abbrev pub Term : ℤ → ℕ → Type 0
  Term X i = (X ≡ pos 0) ⊎ Product X i

  module _ (rn : ℤ → ℤ) (law : Laws β B rn) where
    two : 2 ≤ β
    two = ground.two

    -- the product X in the grain β^i, with its unit β^k: its rounding and its error
    pub record Parts (X : ℤ) (i : ℕ) : Type 0 where
      pub k : ℕ
      pub most : unsigned_abs X ≤ ground.c * ground.c * β ^ i
      pub lo : B * β ^ k ≤ unsigned_abs X
      pub unit_le : β ^ k ≤ β * B * β ^ i
      pub multiple : β ^ k ∣ unsigned_abs (rn X)
      pub rounded_lo : B * β ^ k ≤ unsigned_abs (rn X)
      pub rounded_hi : unsigned_abs (rn X) ≤ β * B * β ^ k
      pub error_half : 2 * unsigned_abs (X -ℤ rn X) ≤ β ^ k
      pub error_grain : β ^ i ∣ unsigned_abs (X -ℤ rn X)
      pub error_kept : rn (X -ℤ rn X) ≡ X -ℤ rn X

    -- a number that is kept is not crossed by any rounding
    size_turned : (t : ℕ) → unsigned_abs (rn (pos (suc t))) ≡ unsigned_abs (rn (negsuc t))
    size_turned t = ap unsigned_abs (law.odd (negsuc t)) ∙ unsigned_abs_neg (rn (negsuc t))

    not_below : (t : ℤ) (m : ℕ) → rn (pos m) ≡ pos m → m ≤ unsigned_abs t → m ≤ unsigned_abs (rn t)
    not_below t m f = go t
      where
        up : (n : ℕ) → m ≤ n → m ≤ unsigned_abs (rn (pos n))
        up n h =
            let a : pos m ≤ℤ rn (pos n) = subst (λ (z : ℤ). z ≤ℤ rn (pos n)) f
            (law.ordered (pos m) (pos n) (omega (arith, ints))) in
            omega (arith, ints)

        go : (t : ℤ) → m ≤ unsigned_abs t → m ≤ unsigned_abs (rn t)
        go (pos n) h = up n h
        go (negsuc n) h = omega (arith, up (suc n) h, size_turned n)

    not_above : (t : ℤ) (m : ℕ) → rn (pos m) ≡ pos m → unsigned_abs t ≤ m → unsigned_abs (rn t) ≤ m
    not_above t m f = go t
      where
        down : (n : ℕ) → n ≤ m → unsigned_abs (rn (pos n)) ≤ m
        down n h =
            let a : rn (pos n) ≤ℤ pos m = subst (λ (z : ℤ). rn (pos n) ≤ℤ z) f
            (law.ordered (pos n) (pos m) (omega (arith, ints))) in
            let b : pos 0 ≤ℤ rn (pos n) = subst (λ (z : ℤ). z ≤ℤ rn (pos n)) (zero_fixed β B ground rn law)
            (law.ordered (pos 0) (pos n) (omega (arith, ints))) in
            omega (arith, ints)

        go : (t : ℤ) → unsigned_abs t ≤ m → unsigned_abs (rn t) ≤ m
        go (pos n) h = down n h
        go (negsuc n) h = omega (arith, down (suc n) h, size_turned n)

    -- with the unit β^k known
    parts_at : (X : ℤ) (i k : ℕ) → Product X i → B * β ^ k ≤ unsigned_abs X → unsigned_abs X ≤ β * B * β ^ k → i ≤ k
        → β ^ k ≤ β * B * β ^ i → Parts X i
    parts_at X i k p lo hi ik near =
        let multiple : β ^ k ∣ unsigned_abs (rn X) = law.multiple X k lo in
        let half : 2 * unsigned_abs (X -ℤ rn X) ≤ β ^ k = let a = law.half X k hi in omega (arith, ints) in
        let grain : β ^ i ∣ unsigned_abs (X -ℤ rn X) = divides_sum (β ^ i) X (neg_ℤ (rn X)) p.grain
        (subst (λ (n : ℕ). β ^ i ∣ n) (sym (unsigned_abs_neg (rn X)))
        (dvd_trans (β ^ i) (divides_power β i k ik) multiple)) in
        let edge : rn (pos (B * β ^ k)) ≡ pos (B * β ^ k) = law.fixed (pos (B * β ^ k)) k (dvd-mul_left (β ^ k) B)
        (omega (arith, mul-le-mul_right (B * β ^ k) two)) in
        let top : rn (pos (β * B * β ^ k)) ≡ pos (β * B * β ^ k) =
        law.fixed (pos (β * B * β ^ k)) k (dvd-mul_left (β ^ k) (β * B)) (omega arith) in
        record {
          k = k;
          most = p.most;
          lo = lo;
          unit_le = near;
          multiple = multiple;
          rounded_lo = not_below X (B * β ^ k) edge lo;
          rounded_hi = not_above X (β * B * β ^ k) top hi;
          error_half = half;
          error_grain = grain;
          error_kept = law.fixed (X -ℤ rn X) i grain (omega arith);
        }

    -- the unit is B grains or β B grains
    pub parts : (X : ℤ) (i : ℕ) → Product X i → Parts X i
    parts X i p =
        let q : ℕ = ground.q in
        let g : ℕ = β ^ i in
        let u : β ^ (q + i) ≡ B * g = pow-add β q i ∙ ap (λ (n : ℕ). n * g) (sym ground.power) in
        let v : β ^ suc (q + i) ≡ β * (B * g) =
        pow-succ' β (q + i) ∙ ap (λ (n : ℕ). β * n) u in
        elim (cases_lt (β * B * β ^ (q + i)) (unsigned_abs X)) [
          | inr a ↦ parts_at X i (q + i) p (omega (arith, p.least, ap (λ (n : ℕ). B * n) u)) a (omega arith)
              (omega (arith, mul-le-mul_right (B * g) two))
          | inl a ↦ parts_at X i (suc (q + i)) p
              (omega (arith, ap (λ (n : ℕ). β * B * n) u, ap (λ (n : ℕ). B * n) v))
              (omega (
                arith,
                p.most,
                ap (λ (n : ℕ). β * B * n) v,
                ap (λ (n : ℕ). n * (β * B * g)) ground.top,
                ap (λ (n : ℕ). (ground.c + 1) * (n * g)) ground.top,
              ))
              (omega arith) (omega arith)
        ]
