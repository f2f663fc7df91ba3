-- A rounding of the natural numbers, carried to ℤ by sign, keeps the laws.
use Rattle.std.proofs.Common.{◌≡◌, ℕ, zero, suc, ◌*◌, ◌%◌, ◌^◌, ◌≤◌, ◌⊎◌, ℤ, pos, negsuc, ◌-ℤ◌, neg_ℤ, unsigned_abs}
use Rattle.std.proofs.Common.{◌≤ℤ◌, sym, refl, ap, ◌∙◌, subst, inl, inr, mul-le-mul_right, arith}
use Prim.Native.Nat.{◌∣◌}
use lib.IntN.{neg_ℤ-neg_ℤ}
use borrow.Author.Differences.{ints}
use Rattle.whole.proofs.Distances.{gap, pos_gap}
use Rattle.whole.proofs.Integers.{unsigned_abs_neg}
use Rattle.bounds.proofs.Laws.{Coarse, Laws}
use Rattle.bounds.proofs.Cuts.{Rounds, cut_low, cut_high, half_law, fix_law, relative_law, order_law, multiple_law}
use Rattle.bounds.proofs.Cuts.{middle_law, tie_law, zero_law}

-- a function on sizes, with the sign kept
abbrev pub by_sign : (ℕ → ℕ) → ℤ → ℤ
by_sign rn (pos t) = pos (rn t)
by_sign rn (negsuc t) = neg_ℤ (pos (rn (suc t)))

pub sign_size : (rn : ℕ → ℕ) (t : ℤ) → unsigned_abs (by_sign rn t) ≡ rn (unsigned_abs t)
sign_size rn (pos t) = refl
sign_size rn (negsuc t) = unsigned_abs_neg (pos (rn (suc t)))

sign_error : (rn : ℕ → ℕ) (t : ℤ) → unsigned_abs (by_sign rn t -ℤ t) ≡ gap (rn (unsigned_abs t)) (unsigned_abs t)
sign_error rn (pos t) = pos_gap (rn t) t
sign_error rn (negsuc t) = go (rn (suc t)) t
  where
    go : (v t : ℕ) → unsigned_abs (neg_ℤ (pos v) -ℤ negsuc t) ≡ gap v (suc t)
    go v t = omega (arith, ints)

module _ (β B : ℕ) (two : 2 ≤ β) (one : 1 ≤ B) (even : B % 2 ≡ 0)
    (rn : ℕ → ℕ) (is : (t : ℕ) → Rounds β B t (rn t)) where
  odd : (t : ℤ) → by_sign rn (neg_ℤ t) ≡ neg_ℤ (by_sign rn t)
  odd (pos zero) = ap pos none ∙ ap neg_ℤ (sym (ap pos none))
    where
      none : rn 0 ≡ 0
      none = zero_law β B two one rn is
  odd (pos (suc t)) = refl
  odd (negsuc t) = sym (neg_ℤ-neg_ℤ (pos (rn (suc t))))

  ordered : (a b : ℤ) → a ≤ℤ b → by_sign rn a ≤ℤ by_sign rn b
  ordered (pos a) (pos b) h =
      let m : rn a ≤ rn b = order_law β B two one rn is a b (omega (arith, ints)) in omega (arith, ints)
  ordered (pos a) (negsuc b) h = absurd (omega (arith, ints))
  ordered (negsuc a) (pos b) h = omega (arith, ints)
  ordered (negsuc a) (negsuc b) h =
      let m : rn (suc b) ≤ rn (suc a) = order_law β B two one rn is (suc b) (suc a) (omega (arith, ints)) in
      omega (arith, ints)

  fixed_sign : (t : ℤ) → rn (unsigned_abs t) ≡ unsigned_abs t → by_sign rn t ≡ t
  fixed_sign (pos t) e = ap pos e
  fixed_sign (negsuc t) e = ap (λ (x : ℕ). neg_ℤ (pos x)) e

  multiple : (t : ℤ) (k : ℕ) → B * β ^ k ≤ unsigned_abs t → β ^ k ∣ unsigned_abs (by_sign rn t)
  multiple t k h =
      subst (λ (x : ℕ). β ^ k ∣ x) (sym (sign_size rn t)) (multiple_law β B two one rn is (unsigned_abs t) k h)

  unit : (t : ℤ) → (by_sign rn t ≡ t) ⊎ Coarse β B t (by_sign rn t)
  unit t = elim (is (unsigned_abs t)) [
    | inl f ↦ inl (fixed_sign t f.1)
    | inr c ↦ inr (record {
      k = c.k;
      lo = cut_low β B two one (unsigned_abs t) (rn (unsigned_abs t)) c;
      hi = cut_high β B two one (unsigned_abs t) (rn (unsigned_abs t)) c;
      multiple = multiple t (suc c.k) (cut_low β B two one (unsigned_abs t) (rn (unsigned_abs t)) c);
    })
  ]

  pub laws : Laws β B (by_sign rn)
  laws = record {
    odd = odd;
    ordered = ordered;
    relative = λ t. subst (λ (x : ℕ). 2 * (B * x) ≤ unsigned_abs t) (sym (sign_error rn t))
        (relative_law β B two one rn is (unsigned_abs t));
    half = λ t k h. subst (λ (x : ℕ). 2 * x ≤ β ^ k) (sym (sign_error rn t))
        (half_law β B two one rn is (unsigned_abs t) k h);
    fixed = λ t k d h. fixed_sign t (fix_law β B two one rn is (unsigned_abs t) k d h);
    multiple = multiple;
    unit = unit;
    middle = λ t k n a b h.
        let m : rn t ≤ n * β ^ k = middle_law β B two one rn is t k n a b h in omega (arith, ints);
    tie = λ t k h. ap pos (tie_law β B two one rn is t k B (omega arith) (omega (arith, mul-le-mul_right B two))
        even h);
  }
