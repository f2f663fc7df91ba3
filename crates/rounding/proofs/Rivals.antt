-- On whole numbers: the rounded multiple of the unit is nearest, and only the other neighbour can be as near,
-- in a tie.
use Rattle.std.proofs.Common.{◌≡◌, ℕ, suc, ◌+◌, ◌-◌, ◌*◌, ◌%◌, ◌^◌, ◌<◌, ◌≤◌, ◌⊎◌, sym, ap, ◌∙◌, inl, inr}
use Rattle.std.proofs.Common.{mul-le-mul_right, mul_assoc, mul-le-mul_left, mul-lt-mul_of_pos_right, pow-suc, arith}
use Rattle.std.proofs.lemmas.Bool.{cases_lt, cases_order}
use native.Mathlib.Nat.{eq_of_mul-eq-mul_right}
use Rattle.whole.proofs.Distances.{gap}
use Rattle.whole.proofs.Powers.{power_pos, power_le, power_parts}
use Rattle.rounding.proofs.Places.{Placed, raise_less, raise_more, raise_tie, raise_few}

-- G is a multiple of V, or lies below B V
abbrev pub OnGrid : ℕ → ℕ → ℕ → Type 0
OnGrid B V G = ((m : ℕ) × (G ≡ m * V)) ⊎ (G < B * V)

-- a tie: the rounded d + b is even, and G is the odd neighbour m V
pub record Tie (V d b G : ℕ) : Type 0 where
  pub even : (d + b) % 2 ≡ 0
  pub m : ℕ
  pub is : G ≡ m * V
  pub odd : m % 2 ≡ 1
  pub lo : d ≤ m
  pub hi : m ≤ d + 1

module _ (B P V T d w b : ℕ) (some : 1 ≤ B) (place : Placed B P V T d w b) where
  -- which way the rounding went, and how far
  record Down : Type 0 where
    none : b ≡ 0
    half : 2 * w ≤ V
    far : gap ((d + b) * V) T ≡ w

  record Up : Type 0 where
    one : b ≡ 1
    half : V ≤ 2 * w
    far : gap ((d + b) * V) T + w ≡ V

  down : b ≡ 0 → 2 * w ≤ V → Down
  down z h =
      let e : (d + b) * V ≡ d * V = omega (arith, ap (λ (n : ℕ). n * V) z) in
      record { none = z; half = h; far = omega (arith, place.is) }

  up : b ≡ 1 → V ≤ 2 * w → Up
  up z h =
      let e : (d + b) * V ≡ d * V + V = omega (arith, ap (λ (n : ℕ). n * V) z) in
      record { one = z; half = h; far = omega (arith, place.is, place.w_lt) }

  way : Down ⊎ Up
  way = elim (cases_order (2 * w) V) [
    | inr (inl h) ↦ inl (down (place.raised ∙ raise_less V d (2 * w) h) (omega arith))
    | inr (inr h) ↦ inr (up (place.raised ∙ raise_more V d (2 * w) h) (omega arith))
    | inl h ↦ (let few : b ≤ 1 = omega (arith, place.raised, raise_few V d (2 * w)) in elim (cases_lt 0 b) [
      | inl g ↦ inr (up (omega arith) (omega arith))
      | inr g ↦ inl (down (omega arith) (omega arith))
    ])
  ]

  V_pos : 0 < V
  V_pos = let l : w < V = place.w_lt in omega arith

  -- zero is further away
  pub closer : gap ((d + b) * V) T < T
  closer =
      let l : 1 * V ≤ d * V = mul-le-mul_right V (omega (arith, place.d_lo)) in
      elim way [
        | inl a ↦ omega (arith, a.far, place.is, place.w_lt)
        | inr a ↦ omega (arith, a.half, a.far, place.is, V_pos)
      ]

  pub nearest : (G : ℕ) → OnGrid B V G → gap ((d + b) * V) T ≤ gap G T
  nearest G (inr small) =
      let l : B * V ≤ d * V = mul-le-mul_right V place.d_lo in
      elim way [
        | inl a ↦ omega (arith, a.far, place.is)
        | inr a ↦ omega (arith, a.half, a.far, place.is)
      ]
  nearest G (inl (m, g)) = elim (cases_lt d m) [
    | inl l ↦ (let k : (d + 1) * V ≤ m * V = mul-le-mul_right V (omega arith) in elim way [
      | inl a ↦ omega (arith, a.half, a.far, place.is)
      | inr a ↦ omega (arith, a.half, a.far, place.is, place.w_lt)
    ])
    | inr l ↦ (let k : m * V ≤ d * V = mul-le-mul_right V l in elim way [
      | inl a ↦ omega (arith, a.half, a.far, place.is)
      | inr a ↦ omega (arith, a.half, a.far, place.is)
    ])
  ]

  tie_even : 2 * w ≡ V → (d + b) % 2 ≡ 0
  tie_even h = even d b (place.raised ∙ raise_tie V d (2 * w) h)
    where
      even : (d b : ℕ) → b ≡ d % 2 → (d + b) % 2 ≡ 0
      even d b e = omega arith

  odd_neighbour : (m : ℕ) → 2 * w ≡ V → m + (d + b) ≡ d + (d + 1) → m % 2 ≡ 1
  odd_neighbour m h e = go (d + b) (tie_even h) e
    where
      go : (s : ℕ) → s % 2 ≡ 0 → m + s ≡ d + (d + 1) → m % 2 ≡ 1
      go s a b = omega arith

  -- m V is at most one V beyond d V
  next : (m : ℕ) → m * V ≤ d * V + V → d < m → m ≡ d + 1
  next m h l = elim (cases_lt (d + 1) m) [
    | inl j ↦ absurd (let i : (d + 2) * V ≤ m * V = mul-le-mul_right V (omega arith) in omega (arith, V_pos))
    | inr j ↦ omega arith
  ]

  pub rival : (G : ℕ) → OnGrid B V G → gap G T ≡ gap ((d + b) * V) T → (G ≡ (d + b) * V) ⊎ Tie V d b G
  rival G (inr small) e =
      absurd (let l : B * V ≤ d * V = mul-le-mul_right V place.d_lo in elim way [
        | inl a ↦ omega (arith, a.far, place.is)
        | inr a ↦ omega (arith, a.half, a.far, place.is)
      ])
  rival G (inl (m, g)) e = elim (cases_order m d) [
    | inr (inl l) ↦ absurd (let k : (m + 1) * V ≤ d * V = mul-le-mul_right V (omega arith) in elim way [
      | inl a ↦ omega (arith, a.far, place.is, V_pos)
      | inr a ↦ omega (arith, a.half, a.far, place.is, V_pos)
    ])
    | inl l ↦ elim way [
      | inl a ↦ inl (g ∙ ap (λ (n : ℕ). n * V) (omega (arith, a.none)))
      | inr a ↦
          let k : m * V ≡ d * V = ap (λ (n : ℕ). n * V) l in
          let h : 2 * w ≡ V = omega (arith, a.half, a.far, place.is, place.w_lt) in
          inr (record {
            even = tie_even h;
            m = m;
            is = g;
            lo = omega arith;
            hi = omega arith;
            odd = odd_neighbour m h (omega (arith, a.one));
          })
    ]
    | inr (inr l) ↦
        let k : (d + 1) * V ≤ m * V = mul-le-mul_right V (omega arith) in
        elim way [
          | inl a ↦
              let h : 2 * w ≡ V = omega (arith, a.half, a.far, place.is, place.w_lt) in
              let n : m ≡ d + 1 = next m (omega (arith, a.half, a.far, place.is)) l in
              inr (record {
                even = tie_even h;
                m = m;
                is = g;
                lo = omega arith;
                hi = omega arith;
                odd = odd_neighbour m h (omega (arith, a.none));
              })
          | inr a ↦
              let n : m ≡ d + 1 = next m (omega (arith, a.half, a.far, place.is, place.w_lt)) l in
              inl (g ∙ ap (λ (n : ℕ). n * V) (omega (arith, a.one)))
        ]
  ]

module _ (β B P : ℕ) (two : 2 ≤ β) (some : 1 ≤ B) (PB : P ≡ β * B) where
  -- s < P units of a lower power lie below B units of the higher one
  below : (s i l : ℕ) → s < P → i < l → s * β ^ i < B * β ^ l
  below s i l h g = go (β ^ i) (β ^ l) (β ^ suc i) (power_pos β i two) (pow-suc β i)
      (power_le β (suc i) l two g)
    where
      go : (I L J : ℕ) → 0 < I → J ≡ I * β → J ≤ L → s * I < B * L
      go I L J some e k =
          let a : s * I < P * I = mul-lt-mul_of_pos_right h some in
          let b : B * J ≤ B * L = mul-le-mul_left B k in
          let c : P * I ≡ B * J = ap (λ (n : ℕ). n * I) PB ∙ omega (arith, ap (λ (n : ℕ). B * n) e) in
          omega arith

  -- every figure is on every grid
  pub on_grid : (s i l : ℕ) → s < P → OnGrid B (β ^ l) (s * β ^ i)
  on_grid s i l h = elim (cases_lt i l) [
    | inl g ↦ inr (below s i l h g)
    | inr g ↦ inl (
      s * β ^ (i - l),
      ap (λ (n : ℕ). s * n) (power_parts β (i - l) l i (omega arith))
          ∙ sym (mul_assoc s (β ^ (i - l)) (β ^ l)),
    )
  ]

  -- a number has one normal form
  pub same_form : (s t i l : ℕ) → B ≤ s → s < P → B ≤ t → t < P → s * β ^ i ≡ t * β ^ l → (s ≡ t) × (i ≡ l)
  same_form s t i l a b c d e = elim (cases_order i l) [
    | inr (inl g) ↦ absurd (clash s t i l b c g e)
    | inr (inr g) ↦ absurd (clash t s l i d a g (sym e))
    | inl g ↦ (eq_of_mul-eq-mul_right (β ^ l) (power_pos β l two) s t (ap (λ (n : ℕ). s * β ^ n) (sym g) ∙ e), g)
  ]
    where
      clash : (s t i l : ℕ) → s < P → B ≤ t → i < l → s * β ^ i ≡ t * β ^ l → ⊥
      clash s t i l h k g e = omega (arith, below s i l h g, mul-le-mul_right (β ^ l) k)
