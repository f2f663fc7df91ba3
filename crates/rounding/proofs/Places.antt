-- Where a whole number lies on the grid of a unit V, and which multiple of V it is rounded to.
use Rattle.std.proofs.Common.{◌≡◌, ℕ, suc, ◌+◌, ◌-◌, ◌*◌, ◌%◌, ◌^◌, ◌<◌, ◌≤◌, Bool, cond, nat_lt, ◌⊎◌, sym, ap, ◌∙◌}
use Rattle.std.proofs.Common.{subst, ap₂, inl, inr, mul-le-mul_right, mul-le-mul_left, pow-suc, arith}
use Rattle.std.proofs.lemmas.Bool.{cases_lt}
use Rattle.std.proofs.lemmas.Bool.Decides.{nat_tests}
use Rattle.std.proofs.lemmas.Nat.{same_from_place}
use native.Mathlib.Nat.{mul_left_comm, mul-lt-mul_of_pos_left}
use Rattle.whole.proofs.Powers.{power_le, power_split}
use Rattle.rounding.specs.Rounding.{raise}

-- T = d V + w with B ≤ d < P, and T is rounded to d + b units
pub record Placed (B P V T d w b : ℕ) : Type 0 where
  pub is : T ≡ d * V + w
  pub w_lt : w < V
  pub d_lo : B ≤ d
  pub d_hi : d < P
  pub raised : b ≡ raise V d (2 * w)

pub raise_less : (u d r : ℕ) → r < u → raise u d r ≡ 0
raise_less u d r h = grind (arith, nat_tests)

pub raise_more : (u d r : ℕ) → u < r → raise u d r ≡ 1
raise_more u d r h = grind (arith, nat_tests)

pub raise_tie : (u d r : ℕ) → r ≡ u → raise u d r ≡ d % 2
raise_tie u d r h = grind (arith, nat_tests)

pub raise_few : (u d r : ℕ) → raise u d r ≤ 1
raise_few u d r = let half : d % 2 ≤ 1 = omega arith in grind (arith, nat_tests, half)

-- a comparison in finer units
ltb_scaled : (K a b : ℕ) → 0 < K → nat_lt (K * a) (K * b) ≡ nat_lt a b
ltb_scaled K a b some = elim (cases_lt a b) [
  | inl h ↦ (let l : K * a < K * b = mul-lt-mul_of_pos_left h some in grind (arith, nat_tests))
  | inr h ↦ (let l : K * b ≤ K * a = mul-le-mul_left K h in grind (arith, nat_tests))
]

pub raise_scaled : (K u d r : ℕ) → 0 < K → raise (K * u) d (K * r) ≡ raise u d r
raise_scaled K u d r some =
    ap₂ (λ (s t : Bool). cond s 0 (cond t 1 (d % 2))) (ltb_scaled K r u some) (ltb_scaled K u r some)

pub scaled_place : (K B P V T d w b : ℕ) → 0 < K → Placed B P V T d w b → Placed B P (K * V) (K * T) d (K * w) b
scaled_place K B P V T d w b some l = record {
  is = omega (arith, ap (λ (n : ℕ). K * n) l.is);
  w_lt = mul-lt-mul_of_pos_left l.w_lt some;
  d_lo = l.d_lo;
  d_hi = l.d_hi;
  raised = l.raised ∙ sym (raise_scaled K V d (2 * w) some) ∙ ap (raise (K * V) d) (mul_left_comm K 2 w);
}

-- what lies below an even unit of a truncated number N counts only by being there: ρ of K more
pub sticky : (B P U K N q a ρ : ℕ) → U % 2 ≡ 0 → N ≡ q * U + a → a < U → B ≤ q → q < P → 0 < ρ → ρ < K
    → Placed B P (K * U) (K * N + ρ) q (K * a + ρ) (raise U q (2 * a + 1))
sticky B P U K N q a ρ even is lt lo hi some less = record {
  is = omega (arith, ap (λ (n : ℕ). K * n) is);
  w_lt = (let m : K * (a + 1) ≤ K * U = mul-le-mul_left K (omega arith) in omega arith);
  d_lo = lo;
  d_hi = hi;
  raised = same_side (cases_lt (2 * a + 1) U);
}
  where
    room : 2 * a + 1 < U → 2 * a + 2 ≤ U
    room h = omega arith

    past : U ≤ 2 * a + 1 → U ≤ 2 * a
    past h = omega arith

    same_side : (2 * a + 1 < U) ⊎ (U ≤ 2 * a + 1) → raise U q (2 * a + 1) ≡ raise (K * U) q (2 * (K * a + ρ))
    same_side (inl h) =
        let m : K * (2 * a + 2) ≤ K * U = mul-le-mul_left K (room h) in
        raise_less U q (2 * a + 1) h ∙ sym (raise_less (K * U) q (2 * (K * a + ρ)) (omega arith))
    same_side (inr h) =
        let m : K * U ≤ K * (2 * a) = mul-le-mul_left K (past h) in
        raise_more U q (2 * a + 1) (omega (arith, past h)) ∙ sym (raise_more (K * U) q (2 * (K * a + ρ)) (omega arith))

module _ (β p : ℕ) (two : 2 ≤ β) (some : 1 ≤ p) where
  pub place_lo : (V T d w b : ℕ) → Placed (β ^ (p - 1)) (β ^ p) V T d w b → β ^ (p - 1) * V ≤ T
  place_lo V T d w b l = omega (arith, l.is, mul-le-mul_right V l.d_lo)

  pub place_hi : (V T d w b : ℕ) → Placed (β ^ (p - 1)) (β ^ p) V T d w b → T < β ^ p * V
  place_hi V T d w b l =
      let m : (d + 1) * V ≤ β ^ p * V = mul-le-mul_right V (omega (arith, l.d_hi)) in omega (arith, l.is, l.w_lt)

  -- two powers that give one number p digits are one power
  same_power : (T i j : ℕ) → β ^ (p - 1) * β ^ i ≤ T → T < β ^ p * β ^ i → β ^ (p - 1) * β ^ j ≤ T
      → T < β ^ p * β ^ j → i ≡ j
  same_power T i j a b c d = elim (cases_lt i j) [
    | inl h ↦ absurd (clash i j h b c)
    | inr h ↦ elim (cases_lt j i) [ inl g ↦ absurd (clash j i g d a) | inr g ↦ omega arith ]
  ]
    where
      step : (B I J K P : ℕ) → J ≡ I * β → J ≤ K → P ≡ β * B → T < P * I → B * K ≤ T → ⊥
      step B I J K P e l f hi lo =
          omega (arith, mul-le-mul_left B l, ap (λ (m : ℕ). B * m) e, ap (λ (m : ℕ). m * I) f)

      clash : (i j : ℕ) → i < j → T < β ^ p * β ^ i → β ^ (p - 1) * β ^ j ≤ T → ⊥
      clash i j h hi lo = step (β ^ (p - 1)) (β ^ i) (β ^ suc i) (β ^ j) (β ^ p)
          (pow-suc β i) (power_le β (suc i) j two h) (power_split β p some) hi lo

  -- a number has one place
  pub same_place : (T i j d w b e v c : ℕ) → Placed (β ^ (p - 1)) (β ^ p) (β ^ i) T d w b
      → Placed (β ^ (p - 1)) (β ^ p) (β ^ j) T e v c → (i ≡ j) × (d + b ≡ e + c)
  same_place T i j d w b e v c l m =
      let ij : i ≡ j = same_power T i j (place_lo (β ^ i) T d w b l) (place_hi (β ^ i) T d w b l)
      (place_lo (β ^ j) T e v c m) (place_hi (β ^ j) T e v c m) in
      let m' : Placed (β ^ (p - 1)) (β ^ p) (β ^ i) T e v c =
      subst (λ (k : ℕ). Placed (β ^ (p - 1)) (β ^ p) (β ^ k) T e v c) (sym ij) m in
      let q = same_from_place d w e v (β ^ i) l.w_lt m'.w_lt (sym l.is ∙ m'.is) in
      let bc : b ≡ c = l.raised ∙ ap₂ (λ (x y : ℕ). raise (β ^ i) x (2 * y)) q.0 q.1 ∙ sym m'.raised in
      (ij, ap₂ (λ (x y : ℕ). x + y) q.0 bc)
