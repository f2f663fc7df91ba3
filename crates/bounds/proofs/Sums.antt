-- The error theorems on whole numbers: X = ab and Y = cd in one unit, zeros and every sign included.
use Rattle.std.proofs.Common.{◌≡◌, ℕ, suc, ◌+◌, ◌*◌, ◌^◌, ◌<◌, ◌≤◌, ℤ, pos, ◌+ℤ◌, ◌-ℤ◌, unsigned_abs, sym, ap, ◌∙◌}
use Rattle.std.proofs.Common.{subst, ap₂, inl, inr, arith}
use Prim.Native.Nat.{◌∣◌}
use native.Mathlib.Nat.{dvd-zero}
use lib.IntN.{+ℤ_idl, +ℤ_idr}
use borrow.Author.Differences.{ints}
use Rattle.bounds.proofs.Laws.{Ground, Laws}
use Rattle.bounds.proofs.Steps.{zero_fixed, Close, exact_both}
use Rattle.bounds.proofs.Products.{Term, parts}
use Rattle.bounds.proofs.Kahan.{Situation, situation, situation_close}
use Rattle.bounds.proofs.LastPlace.{situation_placed}
use Rattle.bounds.proofs.Symmetric.{close}

-- the answers of the two methods to X + Y
abbrev pub kahan_whole : (ℤ → ℤ) → ℤ → ℤ → ℤ
kahan_whole rn X Y = rn (rn (X +ℤ rn Y) +ℤ rn (Y -ℤ rn Y))

abbrev pub symmetric_whole : (ℤ → ℤ) → ℤ → ℤ → ℤ
symmetric_whole rn X Y = rn (rn (rn X +ℤ rn Y) +ℤ rn (rn (X -ℤ rn X) +ℤ rn (Y -ℤ rn Y)))

module _ (β B : ℕ) (ground : Ground β B) (rn : ℤ → ℤ) (law : Laws β B rn) where
  term_grain : (X : ℤ) (i : ℕ) → Term β B ground X i
      → (β ^ i ∣ unsigned_abs X) × (unsigned_abs X ≤ ground.c * ground.c * β ^ i)
  term_grain X i (inl z) =
      (subst (λ (w : ℤ). β ^ i ∣ unsigned_abs w) (sym z) (dvd-zero (β ^ i)), omega (arith, ap unsigned_abs z))
  term_grain X i (inr p) = (p.grain, p.most)

  none_lost : (X : ℤ) → X ≡ pos 0 → X -ℤ rn X ≡ pos 0
  none_lost X z = ap₂ (λ (a b : ℤ). a -ℤ b) z (ap rn z ∙ zero_fixed β B ground rn law)

  error_kept : (X : ℤ) (i : ℕ) → Term β B ground X i → rn (X -ℤ rn X) ≡ X -ℤ rn X
  error_kept X i (inl z) = ap rn (none_lost X z) ∙ zero_fixed β B ground rn law ∙ sym (none_lost X z)
  error_kept X i (inr p) = (parts β B ground rn law X i p).error_kept

  rounded_kept : (X : ℤ) (i : ℕ) → Term β B ground X i → rn (rn X) ≡ rn X
  rounded_kept X i (inl z) = ap rn (ap rn z ∙ zero_fixed β B ground rn law) ∙ sym (ap rn z)
  rounded_kept X i (inr p) =
      let a = parts β B ground rn law X i p in law.fixed (rn X) a.k a.multiple a.rounded_hi

  -- P + E is X + Y
  kahan_sum : (X Y : ℤ) → X +ℤ rn Y +ℤ (Y -ℤ rn Y) ≡ X +ℤ Y
  kahan_sum X Y = mixed X Y (rn Y)
    where
      mixed : (x y r : ℤ) → x +ℤ r +ℤ (y -ℤ r) ≡ x +ℤ y
      mixed x y r = omega (arith, ints)

  kahan_situation : (X Y : ℤ) (i j : ℕ) → Term β B ground X i → Term β B ground Y j
      → Situation β B ground rn law (X +ℤ rn Y) (Y -ℤ rn Y)
  kahan_situation X Y i j x (inr y) =
      situation β B ground rn law X Y i j (term_grain X i x).0 (term_grain X i x).1 (parts β B ground rn law Y j y)
  kahan_situation X Y i j x (inl y) = elim (law.unit (X +ℤ rn Y)) [
    | inl z ↦ inl z
    | inr co ↦ inr (co, inl (record { half = omega (arith, nothing); finer = inl (omega (arith, nothing)) }))
  ]
    where
      nothing : unsigned_abs (Y -ℤ rn Y) ≡ 0
      nothing = ap unsigned_abs (none_lost Y y)

  pub kahan_close : (X Y : ℤ) (i j : ℕ) → Term β B ground X i → Term β B ground Y j
      → B * unsigned_abs (kahan_whole rn X Y -ℤ (X +ℤ Y)) ≤ unsigned_abs (X +ℤ Y)
  kahan_close X Y i j x y =
      subst (λ (z : ℤ). B * unsigned_abs (kahan_whole rn X Y -ℤ z) ≤ unsigned_abs z) (kahan_sum X Y)
      (situation_close β B ground rn law (X +ℤ rn Y) (Y -ℤ rn Y) (error_kept Y j y) (kahan_situation X Y i j x y))

  -- where X + Y has at most p digits in units of β^v
  pub kahan_placed : (X Y : ℤ) (i j : ℕ) → Term β B ground X i → Term β B ground Y j
      → (v : ℕ) → unsigned_abs (X +ℤ Y) < β * B * β ^ v
      → 2 * unsigned_abs (kahan_whole rn X Y -ℤ (X +ℤ Y)) ≤ β ^ suc v + β ^ v
  kahan_placed X Y i j x y v h =
      subst (λ (z : ℤ). 2 * unsigned_abs (kahan_whole rn X Y -ℤ z) ≤ β ^ suc v + β ^ v) (kahan_sum X Y)
      (situation_placed β B ground rn law (X +ℤ rn Y) (Y -ℤ rn Y) (error_kept Y j y) (kahan_situation X Y i j x y) v
      (subst (λ (z : ℤ). unsigned_abs z < β * B * β ^ v) (sym (kahan_sum X Y)) h))

  symmetric_sums : (X Y : ℤ) (i j : ℕ) → Term β B ground X i → Term β B ground Y j
      → Close β B ground rn law (rn X +ℤ rn Y) (X -ℤ rn X +ℤ (Y -ℤ rn Y))
  symmetric_sums X Y i j (inr x) (inr y) =
      close β B ground rn law X Y i j (parts β B ground rn law X i x) (parts β B ground rn law Y j y)
  symmetric_sums X Y i j (inl x) y = exact_both β B ground rn law (rn X +ℤ rn Y) (X -ℤ rn X +ℤ (Y -ℤ rn Y))
      (kept (rn X) (rn Y) (ap rn x ∙ zero_fixed β B ground rn law) (rounded_kept Y j y))
      (kept (X -ℤ rn X) (Y -ℤ rn Y) (none_lost X x) (error_kept Y j y))
    where
      kept : (a b : ℤ) → a ≡ pos 0 → rn b ≡ b → rn (a +ℤ b) ≡ a +ℤ b
      kept a b z e =
          let s : a +ℤ b ≡ b = ap (λ (w : ℤ). w +ℤ b) z ∙ +ℤ_idl b in ap rn s ∙ e ∙ sym s
  symmetric_sums X Y i j (inr x) (inl y) = exact_both β B ground rn law (rn X +ℤ rn Y) (X -ℤ rn X +ℤ (Y -ℤ rn Y))
      (kept (rn X) (rn Y) (ap rn y ∙ zero_fixed β B ground rn law) (rounded_kept X i (inr x)))
      (kept (X -ℤ rn X) (Y -ℤ rn Y) (none_lost Y y) (error_kept X i (inr x)))
    where
      kept : (a b : ℤ) → b ≡ pos 0 → rn a ≡ a → rn (a +ℤ b) ≡ a +ℤ b
      kept a b z e =
          let s : a +ℤ b ≡ a = ap (λ (w : ℤ). a +ℤ w) z ∙ +ℤ_idr a in ap rn s ∙ e ∙ sym s

  pub symmetric_close : (X Y : ℤ) (i j : ℕ) → Term β B ground X i → Term β B ground Y j
      → B * unsigned_abs (symmetric_whole rn X Y -ℤ (X +ℤ Y)) ≤ unsigned_abs (X +ℤ Y)
  symmetric_close X Y i j x y =
      subst (λ (e : ℤ). B * unsigned_abs (rn (rn (rn X +ℤ rn Y) +ℤ rn e) -ℤ (X +ℤ Y)) ≤ unsigned_abs (X +ℤ Y))
      (sym (ap₂ (λ (e f : ℤ). e +ℤ f) (error_kept X i x) (error_kept Y j y)))
      (subst (λ (z : ℤ). B * unsigned_abs
      (rn (rn (rn X +ℤ rn Y) +ℤ rn (X -ℤ rn X +ℤ (Y -ℤ rn Y))) -ℤ z) ≤ unsigned_abs z)
      (mixed X Y (rn X) (rn Y)) (symmetric_sums X Y i j x y))
    where
      mixed : (x y r s : ℤ) → r +ℤ s +ℤ (x -ℤ r +ℤ (y -ℤ s)) ≡ x +ℤ y
      mixed x y r s = omega (arith, ints)
