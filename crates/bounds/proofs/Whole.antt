-- Rounding to p digits on whole numbers, and that a rounded figure, counted in fine units, is the rounded count.
use Rattle.std.proofs.Common.{◌≡◌, ℕ, zero, suc, ◌+◌, ◌-◌, ◌*◌, ◌/◌, ◌%◌, ◌^◌, ◌<◌, ◌≤◌, Bool, true, false, ◌⊎◌, ℤ}
use Rattle.std.proofs.Common.{pos, ◌-ℤ◌, ◌*ℤ◌, unsigned_abs, ◌≤ℤ◌, sym, refl, ap, ◌∙◌, subst, ap₂, inl, inr, mod-lt}
use Rattle.std.proofs.Common.{mul-le-mul, div-add-mod', mul-one, div-one, arith}
use native.Mathlib.Nat.{pow-zero, mod-one, sub-add_cancel}
use lib.IntN.{zero-*ℤ}
use Rattle.std.proofs.lemmas.Bool.{cases_lt}
use Rattle.std.proofs.lemmas.Nat.{same_from_place}
use Rattle.whole.proofs.Comparisons.{size_zero}
use Rattle.whole.proofs.Powers.{power_pos, power_le, power_order, power_split, power_parts, power_even, power_one}
use Rattle.rounding.specs.declared.Figure.{Figure}
use Rattle.rounding.specs.Exact.{Exact, value, units}
use Rattle.rounding.specs.Digits.{digits}
use Rattle.rounding.specs.Rounding.{negative, signed, raise, quotient, rounded}
use Rattle.rounding.proofs.Digits.{digits_zero, digits_low, digits_high, digits_is}
use Rattle.rounding.proofs.Places.{Placed, place_lo, place_hi}
use Rattle.rounding.proofs.Computed.{rounded_zero, cut_place}
use Rattle.rounding.proofs.Signs.{own_sign}
use Rattle.rounding.proofs.Seen.{Seen, seen}
use Rattle.bounds.proofs.Laws.{Ground, Laws}
use Rattle.bounds.proofs.Cuts.{Cut, Rounds}
use Rattle.bounds.proofs.Signed.{by_sign, laws}

-- t to p digits: what lies past them is dropped to nearest, ties to even
pub near : ℕ → ℕ → ℕ → ℕ
near β p t = quotient (β ^ (digits β t - p)) t * β ^ (digits β t - p)

-- the same on ℤ
abbrev pub near_z : ℕ → ℕ → ℤ → ℤ
near_z β p = by_sign (near β p)

module _ (β p : ℕ) (even : β % 2 ≡ 0) (two : 2 ≤ β) (some : 2 ≤ p) where
  one : 1 ≤ p
  one = omega arith

  -- a number with its place is rounded there
  pub near_place : (T l d w b : ℕ) → Placed (β ^ (p - 1)) (β ^ p) (β ^ l) T d w b → near β p T ≡ (d + b) * β ^ l
  unfolding near
  near_place T l d w b place =
      let long : digits β T ≡ p + l = digits_is β T (p + l) two (omega arith)
      (subst (λ (n : ℕ). n ≤ T) (sym (power_parts β (p - 1) l (p + l - 1) (before p l one)))
      (place_lo β p two one (β ^ l) T d w b place))
      (subst (λ (n : ℕ). T < n) (sym (power_parts β p l (p + l) refl)) (place_hi β p two one (β ^ l) T d w b place)) in
      let drop : digits β T - p ≡ l = omega (arith, long) in
      let parts = same_from_place (T / β ^ l) (T % β ^ l) d w (β ^ l) (mod-lt T (power_pos β l two)) place.w_lt
      (div-add-mod' T (β ^ l) ∙ place.is) in
      ap (λ (j : ℕ). quotient (β ^ j) T * β ^ j) drop
      ∙ ap (λ (s : ℕ). s * β ^ l) (ap₂ (λ (x y : ℕ). x + raise (β ^ l) x (2 * y)) parts.0 parts.1
      ∙ ap (λ (u : ℕ). d + u) (sym place.raised))
    where
      before : (p l : ℕ) → 1 ≤ p → p - 1 + l ≡ p + l - 1
      before p l h = omega arith

  near_small : (t : ℕ) → t < β ^ p → near β p t ≡ t
  unfolding near
  near_small t h =
      let none : digits β t - p ≡ 0 = few (cases_lt 0 t) in
      ap (λ (j : ℕ). quotient (β ^ j) t * β ^ j) none
      ∙ ap (λ (u : ℕ). quotient u t * u) (pow-zero β) ∙ mul-one (quotient 1 t)
      ∙ ap₂ (λ (x y : ℕ). x + raise 1 x (2 * y)) (div-one t) (mod-one t) ∙ omega arith
    where
      few : (0 < t) ⊎ (t ≤ 0) → digits β t - p ≡ 0
      few (inl l) = omega (arith, power_order β (digits β t - 1) p two (omega (arith, h, digits_low β t two l)))
      few (inr l) =
          let z : t ≡ 0 = omega arith in omega (arith, ap (digits β) z, digits_zero β)

  pub near_rounds : (t : ℕ) → Rounds β (β ^ (p - 1)) t (near β p t)
  near_rounds t = elim (cases_lt t (β ^ p)) [
    | inl h ↦ inl (subst (λ (n : ℕ). t < n) (power_split β p one) h, near_small t h)
    | inr h ↦ inr (cut (digits β t - p - 1) (longer h))
  ]
    where
      longer : β ^ p ≤ t → digits β t ≡ p + suc (digits β t - p - 1)
      longer h = omega (arith, power_order β p (digits β t) two (omega (arith, h, digits_high β t two)))

      cut : (k : ℕ) → digits β t ≡ p + suc k → Cut β (β ^ (p - 1)) t (near β p t)
      cut k e =
          let lo : β ^ (p - 1) * β ^ suc k ≤ t = subst (λ (n : ℕ). n ≤ t)
          (power_parts β (p - 1) (suc k) (digits β t - 1) (omega (arith, e)))
          (digits_low β t two (long e)) in
          let hi : t < β ^ p * β ^ suc k = subst (λ (n : ℕ). t < n) (power_parts β p (suc k) (digits β t) (sym e))
          (digits_high β t two) in
          let place = cut_place β p two one t (suc k) lo hi in
          record {
            k = k;
            n = t / β ^ suc k;
            w = t % β ^ suc k;
            u = raise (β ^ suc k) (t / β ^ suc k) (2 * (t % β ^ suc k));
            is = place.is;
            w_lt = place.w_lt;
            n_lo = place.d_lo;
            n_hi = subst (λ (n : ℕ). t / β ^ suc k < n) (power_split β p one) place.d_hi;
            raised = refl;
            v_is = near_place t (suc k) _ _ _ place;
          }
        where
          long : digits β t ≡ p + suc k → 1 ≤ t
          long e = elim (cases_lt 0 t) [
            | inl h ↦ h
            | inr h ↦ absurd (let z : t ≡ 0 = omega arith in omega (arith, e, ap (digits β) z, digits_zero β))
          ]

  pub near_laws : Laws β (β ^ (p - 1)) (near_z β p)
  near_laws = laws β (β ^ (p - 1)) two (power_pos β (p - 1) two) (power_even β (p - 1) even (omega arith))
      (near β p) near_rounds

  pub ground_of : 24 ≤ β ^ (p - 1) → Ground β (β ^ (p - 1))
  ground_of large = record {
    h = β / 2;
    even = omega (arith, even);
    two = two;
    q = p - 1;
    power = refl;
    eight = omega (arith, large);
    wide = omega (arith, power_le β 1 (p - 1) two (omega arith), power_one β);
    c = β ^ p - 1;
    top = sym (power_split β p one) ∙ sym (sub-add_cancel (power_pos β p two));
  }

  near_signed : (neg : Bool) (T : ℕ) → 0 < T → near_z β p (signed neg T) ≡ signed neg (near β p T)
  near_signed false T h = refl
  near_signed true zero h = absurd (omega arith)
  near_signed true (suc T) h = refl

  -- in units as fine as the widened digits, the rounded figure of x is the rounded count of x
  pub units_rounded : (x : Exact) (k : ℤ) → k ≤ℤ (x.e -ℤ pos (p - 1))
      → units β k (value (rounded β p x)) ≡ near_z β p (units β k x)
  units_rounded x k fine = elim (cases_lt 0 (unsigned_abs x.m)) [
    | inl full ↦ (
        let s : Seen β p x (rounded β p x) k = seen β p even two some x full k fine in
        let T : ℕ = unsigned_abs x.m * β ^ unsigned_abs (x.e -ℤ k) in
        let T_pos : 0 < T = omega (arith, mul-le-mul full (power_pos β (unsigned_abs (x.e -ℤ k)) two)) in
        s.is ∙ ap (signed (negative x.m)) (sym (near_place T s.l s.d s.w s.b s.place))
        ∙ sym (near_signed (negative x.m) T T_pos)
        ∙ ap (near_z β p) (sym (own_sign x.m (β ^ unsigned_abs (x.e -ℤ k)))))
    | inr none ↦ (
        let z : unsigned_abs x.m ≡ 0 = omega arith in
        let m : x.m ≡ pos 0 = size_zero x.m z in
        let u : units β k x ≡ pos 0 = ap (λ (n : ℤ). n *ℤ pos (β ^ unsigned_abs (x.e -ℤ k))) m
        ∙ zero-*ℤ (pos (β ^ unsigned_abs (x.e -ℤ k))) in
        ap (λ (f : Figure). units β k (value f)) (rounded_zero β p x z) ∙ zero-*ℤ (pos (β ^ unsigned_abs (pos 0 -ℤ k)))
        ∙ sym (ap pos (near_small 0 (power_pos β p two))) ∙ ap (near_z β p) (sym u))
  ]
