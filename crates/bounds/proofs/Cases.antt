-- The last steps that both methods share, on natural numbers. P is the sum that the third rounding is given, V its
-- unit and r its rounding; x is the exact answer, y the sum that the last rounding is given, s the answer; t bounds
-- the error that was made besides r. All signs are turned so that P > 0.
use Rattle.std.proofs.Common.{◌≡◌, ℕ, ◌+◌, ◌*◌, ◌<◌, ◌≤◌, ◌⊎◌, ap, inl, inr, mul-le-mul_right, mul-le-mul_left, arith}
use native.Mathlib.Nat.{le_of_mul-le-mul_left}
use Rattle.std.proofs.lemmas.Bool.{cases_lt}
use Rattle.whole.proofs.Distances.{gap}

-- what is used of the last rounding
pub record Last (B V y s : ℕ) : Type 0 where
  pub relative : 2 * (B * gap s y) ≤ y
  pub half : y < 2 * (B * V) → 2 * gap s y ≤ V
  pub floor : B * V ≤ y → B * V ≤ s
  pub middle : 2 * y < (2 * B + 3) * V → s ≤ (B + 1) * V
  pub low : 2 * y < (2 * B + 1) * V → s ≤ B * V
  pub quarter : y < B * V → 4 * gap s y ≤ V

pub record Shape (B V P r x y s t : ℕ) : Type 0 where
  pub eight : 8 ≤ B
  pub from_B : B * V ≤ P
  pub r_half : 2 * gap r P ≤ V
  pub t_is : gap (y + P) (r + x) ≤ t
  pub last : Last B V y s

module _ (B V P r x y s t : ℕ) (n : Shape B V P r x y s t) where
  y_near : 2 * gap y x ≤ V + 2 * t
  y_near = omega (arith, n.t_is, n.r_half)

  far_above : B * V + V + t + 2 * (B * t) ≤ x → B * gap s x ≤ x
  far_above h =
      let k : 2 * gap s x ≤ 2 * gap s y + (V + 2 * t) = omega (arith, y_near) in
      let m : B * (2 * gap s x) ≤ B * (2 * gap s y + (V + 2 * t)) = mul-le-mul_left B k in
      omega (arith, n.last.relative, y_near)

  module _ (small : 8 * (B * t) ≤ 5 * V) where
    V_small : 8 * V ≤ B * V
    V_small = mul-le-mul_right V n.eight

    t_small : 8 * t ≤ B * t
    t_small = mul-le-mul_right t n.eight

    one_unit : (g : ℕ) → B * V ≤ x → g ≤ V → B * g ≤ x
    one_unit g h k = let m : B * g ≤ B * V = mul-le-mul_left B k in omega arith

    -- x is at least B V
    pub from : B * V ≤ x → B * gap s x ≤ x
    from b = elim (cases_lt x (B * V + 3 * V)) [
      | inr h ↦ far_above (omega (arith, small, t_small))
      | inl h ↦
          let half : 2 * gap s y ≤ V = n.last.half (omega (arith, y_near, V_small, t_small, small)) in
          elim (cases_lt (8 * x) (8 * (B * V) + 5 * V)) [
            | inr a ↦
                let k : gap s x ≤ V + t = omega (arith, y_near) in
                let m : B * gap s x ≤ B * (V + t) = mul-le-mul_left B k in
                omega (arith, small)
            | inl a ↦
                let m : s ≤ (B + 1) * V = n.last.middle (omega (arith, y_near, t_small, small)) in
                elim (cases_lt y (B * V)) [
                  | inr c ↦ one_unit (gap s x) b (omega (arith, n.last.floor c))
                  | inl c ↦ one_unit (gap s x) b (omega (arith, n.last.quarter c, y_near, t_small, small))
                ]
          ]
    ]

    -- x is below B V, and the last rounding does not go over it
    pub under : x < B * V → B * V ≤ y → s ≤ B * V → B * gap s x ≤ x
    under b c st =
        let k : 2 * gap s x ≤ V + 2 * t = omega (arith, n.last.floor c, y_near) in
        let m : B * (2 * gap s x) ≤ B * (V + 2 * t) = mul-le-mul_left B k in
        omega (arith, y_near, V_small, t_small, small)

    -- x and y are below B V, and x is near P
    pub below_near : x < B * V → y < B * V → 4 * gap x P ≤ 5 * V → B * gap s x ≤ x
    below_near b c e =
        let k : 4 * gap s x ≤ 3 * V + 4 * t = omega (arith, n.last.quarter c, y_near) in
        let m : B * (4 * gap s x) ≤ B * (3 * V + 4 * t) = mul-le-mul_left B k in
        omega (arith, n.from_B, V_small, small)

  -- x and y are below B V, nothing but r was rounded, and y is exact or x is not small
  pub below_exact : t ≡ 0 → x < B * V → y < B * V → ((s ≡ y) × (B * V ≤ 2 * x)) ⊎ (3 * (B * V) ≤ 4 * x)
      → B * gap s x ≤ x
  below_exact z b c (inl e) =
      let k : 2 * gap s x ≤ V = omega (arith, y_near, e.0) in
      let m : B * (2 * gap s x) ≤ B * V = mul-le-mul_left B k in
      omega (arith, e.1)
  below_exact z b c (inr e) =
      let k : 4 * gap s x ≤ 3 * V = omega (arith, n.last.quarter c, y_near) in
      let m : B * (4 * gap s x) ≤ B * (3 * V) = mul-le-mul_left B k in
      omega arith

-- the last sum lies within t of x, and t is small beside x: ax = |x|, ay = |y|, g = |s - x|, gy = |s - y|
pub near_sum : (B ax ay g gy t : ℕ) → ay ≤ ax + t → g ≤ gy + t → 2 * (B * gy) ≤ ay → 2 * (B * t) + t ≤ ax → B * g ≤ ax
near_sum B ax ay g gy t a b c d = let m : B * g ≤ B * (gy + t) = mul-le-mul_left B b in omega arith

-- a product Y of a much finer grain g cannot cancel X, which has B (c + 1) units W: c + 1 = β B
pub fine_grain : (β B c W g X Y ax t : ℕ) → 2 ≤ β → 1 ≤ B → β * B ≡ c + 1 → B * (c * W + W) ≤ X → Y ≤ c * c * g
    → X ≤ ax + Y → β * g ≤ W → 2 * t ≤ W → 2 * (B * t) + t ≤ ax
fine_grain β B c W g X Y ax t two one top hX hY hx hg ht =
    let p1 : β * (B * (c * W + W)) ≤ β * X = mul-le-mul_left β hX in
    let p2 : β * Y ≤ β * (c * c * g) = mul-le-mul_left β hY in
    let p3 : c * c * (β * g) ≤ c * c * W = mul-le-mul_left (c * c) hg in
    let p4 : β * X ≤ β * (ax + Y) = mul-le-mul_left β hx in
    let e1 : β * B * (c * W + W) ≡ (c + 1) * (c * W + W) = ap (λ (z : ℕ). z * (c * W + W)) top in
    let large : 2 * (c * W) + W ≤ β * ax = omega arith in
    let t1 : β * (2 * B + 1) * (2 * t) ≤ β * (2 * B + 1) * W = mul-le-mul_left (β * (2 * B + 1)) ht in
    let e2 : β * B * W ≡ (c + 1) * W = ap (λ (z : ℕ). z * W) top in
    let e3 : β * B * t ≡ (c + 1) * t = ap (λ (z : ℕ). z * t) top in
    let few : β ≤ c + 1 = omega (arith, mul-le-mul_left β one) in
    let m1 : β * W ≤ (c + 1) * W = mul-le-mul_right W few in
    let m2 : 1 * W ≤ c * W = mul-le-mul_right W (omega arith) in
    let all : β * (2 * (B * t) + t) ≤ β * ax = omega arith in
    le_of_mul-le-mul_left all (omega arith)
