-- What `rounded` finds, and how a place on any grid names the rounded figure.
use Rattle.std.proofs.Common.{◌≡◌, ℕ, ◌+◌, ◌-◌, ◌*◌, ◌/◌, ◌%◌, ◌^◌, ◌<◌, ◌≤◌, Bool, true, false, cond, ◌==◌, ℤ, pos}
use Rattle.std.proofs.Common.{◌+ℤ◌, ◌-ℤ◌, unsigned_abs, ◌≤ℤ◌, sym, refl, ap, ◌∙◌, subst, ap₂, mul-le-mul_right, mod-lt}
use Rattle.std.proofs.Common.{div-lt_iff_lt-mul, div-add-mod', le-div_iff_mul-le, mul_left_comm, arith}
use borrow.Author.Differences.{ints}
use Rattle.std.proofs.lemmas.Bool.Decides.{nat_tests}
use Rattle.whole.proofs.Powers.{power_pos, power_order, power_parts}
use Rattle.rounding.specs.Exact.{Exact}
use Rattle.rounding.specs.Digits.{digits}
use Rattle.rounding.specs.Rounding.{zero_figure, negative, raise, carried, widened, dropped, rounded}
use Rattle.rounding.proofs.Digits.{digits_high, digits_low}
use Rattle.rounding.proofs.Places.{Placed, scaled_place, same_place}

pub rounded_zero : (β p : ℕ) (x : Exact) → unsigned_abs x.m ≡ 0 → rounded β p x ≡ zero_figure
unfolding rounded
rounded_zero β p x none =
    let t : (unsigned_abs x.m == 0) ≡ true = grind (arith, nat_tests) in
    ap (λ (b : Bool). cond b zero_figure (dropped β p x (digits β (widened β p x) - p))) t

-- the figure of a number that is not zero, by the place of its widened digits
pub record Found (β p : ℕ) (x : Exact) : Type 0 where
  pub j : ℕ
  pub d : ℕ
  pub w : ℕ
  pub b : ℕ
  pub place : Placed (β ^ (p - 1)) (β ^ p) (β ^ j) (widened β p x) d w b
  pub is : rounded β p x ≡ carried β p (negative x.m) (d + b) (x.e -ℤ pos (p - 1) +ℤ pos j)

module _ (β p : ℕ) (two : 2 ≤ β) (some : 1 ≤ p) where
  -- n has p digits and j more
  pub cut_place : (n j : ℕ) → β ^ (p - 1) * β ^ j ≤ n → n < β ^ p * β ^ j
      → Placed (β ^ (p - 1)) (β ^ p) (β ^ j) n (n / β ^ j) (n % β ^ j) (raise (β ^ j) (n / β ^ j) (2 * (n % β ^ j)))
  cut_place n j lo hi =
      let full : 0 < β ^ j = power_pos β j two in
      record {
        is = sym (div-add-mod' n (β ^ j));
        w_lt = mod-lt n full;
        d_lo = (le-div_iff_mul-le full).1 lo;
        d_hi = (div-lt_iff_lt-mul full).1 hi;
        raised = refl;
      }

  pub found : (x : Exact) → 0 < unsigned_abs x.m → Found β p x
  unfolding rounded
  found x h =
      let n : ℕ = widened β p x in
      let j : ℕ = digits β n - p in
      let wide : β ^ (p - 1) ≤ n = at_least (β ^ (p - 1)) (unsigned_abs x.m) h in
      let long : p - 1 < digits β n =
      power_order β (p - 1) (digits β n) two (omega (arith, wide, digits_high β n two)) in
      let lo : β ^ (p - 1) * β ^ j ≤ n = subst (λ (m : ℕ). m ≤ n)
      (power_parts β (p - 1) j (digits β n - 1) (before (digits β n) long))
      (digits_low β n two (omega (arith, wide, power_pos β (p - 1) two))) in
      let hi : n < β ^ p * β ^ j = subst (λ (m : ℕ). n < m)
      (power_parts β p j (digits β n) (whole (digits β n) long)) (digits_high β n two) in
      let t : (unsigned_abs x.m == 0) ≡ false = grind (arith, nat_tests) in
      record {
        j = j;
        d = n / β ^ j;
        w = n % β ^ j;
        b = raise (β ^ j) (n / β ^ j) (2 * (n % β ^ j));
        place = cut_place n j lo hi;
        is = ap (λ (b : Bool). cond b zero_figure (dropped β p x j)) t;
      }
    where
      at_least : (B m : ℕ) → 0 < m → B ≤ m * B
      at_least B m some = omega (arith, mul-le-mul_right B some)

      before : (D : ℕ) → p - 1 < D → p - 1 + (D - p) ≡ D - 1
      before D h = omega arith

      whole : (D : ℕ) → p - 1 < D → p + (D - p) ≡ D
      whole D h = omega arith

  -- x in units of β^k, no finer than the widened digits, placed on the grid of β^l
  pub rounded_of : (x : Exact) (k : ℤ) (l d w b : ℕ) → 0 < unsigned_abs x.m → k ≤ℤ x.e → (x.e -ℤ pos (p - 1)) ≤ℤ k
      → Placed (β ^ (p - 1)) (β ^ p) (β ^ l) (unsigned_abs x.m * β ^ unsigned_abs (x.e -ℤ k)) d w b
      → rounded β p x ≡ carried β p (negative x.m) (d + b) (k +ℤ pos l)
  rounded_of x k l d w b h below fine place =
      let f = found x h in
      let i : ℕ = unsigned_abs (x.e -ℤ k) in
      let c : ℕ = p - 1 - i in
      let ci : c + i ≡ p - 1 = steps x.e k below fine in
      let scaled = scaled_place (β ^ c) (β ^ (p - 1)) (β ^ p) (β ^ l) (unsigned_abs x.m * β ^ i) d w b
      (power_pos β c two) place in
      let wide : β ^ c * (unsigned_abs x.m * β ^ i) ≡ widened β p x =
      mul_left_comm (β ^ c) (unsigned_abs x.m) (β ^ i)
      ∙ ap (λ (n : ℕ). unsigned_abs x.m * n) (sym (power_parts β c i (p - 1) ci)) in
      let unit : β ^ c * β ^ l ≡ β ^ (c + l) = sym (power_parts β c l (c + l) refl) in
      let here : Placed (β ^ (p - 1)) (β ^ p) (β ^ (c + l)) (widened β p x) d (β ^ c * w) b =
      subst (λ (T : ℕ). Placed (β ^ (p - 1)) (β ^ p) (β ^ (c + l)) T d (β ^ c * w) b) wide
      (subst (λ (V : ℕ). Placed (β ^ (p - 1)) (β ^ p) V (β ^ c * (unsigned_abs x.m * β ^ i)) d (β ^ c * w) b) unit
      scaled) in
      let same = same_place β p two some (widened β p x) f.j (c + l) f.d f.w f.b d (β ^ c * w) b
      f.place here in
      f.is ∙ ap₂ (λ (s : ℕ) (q : ℤ). carried β p (negative x.m) s q) same.1
      (level x.e k f.j below fine same.0)
    where
      steps : (e k : ℤ) → k ≤ℤ e → (e -ℤ pos (p - 1)) ≤ℤ k
          → p - 1 - unsigned_abs (e -ℤ k) + unsigned_abs (e -ℤ k) ≡ p - 1
      steps e k a b = omega (arith, ints)

      level : (e k : ℤ) (j : ℕ) → k ≤ℤ e → (e -ℤ pos (p - 1)) ≤ℤ k → j ≡ p - 1 - unsigned_abs (e -ℤ k) + l
          → e -ℤ pos (p - 1) +ℤ pos j ≡ k +ℤ pos l
      level e k j a b h = omega (arith, ints)
