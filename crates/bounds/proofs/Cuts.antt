-- Rounding on the natural numbers, and its laws: t below β B is kept; any other is cut at a unit V = β^(k+1)
-- that leaves B ≤ n < β B units, and is n or n + 1 of them, whichever is nearer, in a tie the even one.
use Rattle.std.proofs.Common.{◌≡◌, ℕ, zero, suc, ◌+◌, ◌*◌, ◌%◌, ◌^◌, ◌<◌, ◌≤◌, ◌⊎◌, sym, refl, ap, ◌∙◌, subst, ap₂}
use Rattle.std.proofs.Common.{inl, inr, mul-le-mul_right, mul-le-mul, mul-le-mul_left, arith}
use Prim.Native.Nat.{◌∣◌}
use native.Mathlib.Nat.{pow-zero, dvd_trans, dvd-mul_left, dvd-zero, one-dvd, dvd-add_iff_right, le_of_dvd, pow-succ'}
use Rattle.std.proofs.lemmas.Bool.{cases_lt, cases_order}
use Rattle.whole.proofs.Distances.{gap}
use Rattle.whole.proofs.Powers.{power_pos, power_le}
use Rattle.rounding.specs.Rounding.{raise}
use Rattle.rounding.proofs.Places.{raise_less, raise_more, raise_tie, raise_few}
use Rattle.bounds.proofs.Divisors.{divides_power}

-- t is cut to n units and a remainder w, and rounded to v, which is n + u units
pub record Cut (β B t v : ℕ) : Type 0 where
  pub k : ℕ
  pub n : ℕ
  pub w : ℕ
  pub u : ℕ
  pub is : t ≡ n * β ^ suc k + w
  pub w_lt : w < β ^ suc k
  pub n_lo : B ≤ n
  pub n_hi : n < β * B
  pub raised : u ≡ raise (β ^ suc k) n (2 * w)
  pub v_is : v ≡ (n + u) * β ^ suc k

-- t is rounded to v
abbrev pub Rounds : (β B t v : ℕ) → Type 0
Rounds β B t v = ((t < β * B) × (v ≡ t)) ⊎ Cut β B t v

module _ (β B : ℕ) (two : 2 ≤ β) (one : 1 ≤ B) where
  unit_pos : (k : ℕ) → 1 ≤ β ^ k
  unit_pos k = power_pos β k two

  unit_le : (i j : ℕ) → i ≤ j → β ^ i ≤ β ^ j
  unit_le i j h = power_le β i j two h

  -- B units of a power that is at most β B units of another
  unit_below : (a b : ℕ) → B * β ^ suc a < β * B * β ^ b → a < b
  unit_below a b h = elim (cases_lt a b) [
    | inl g ↦ g
    | inr g ↦ absurd (
        let m : B * (β * β ^ b) ≤ B * β ^ suc a =
        mul-le-mul_left B (omega (arith, pow-succ' β b, unit_le (suc b) (suc a) (omega arith))) in
        omega arith)
  ]

  unit_at_most : (a b : ℕ) → B * β ^ suc a ≤ β * B * β ^ b → a ≤ b
  unit_at_most a b h = elim (cases_lt b a) [
    | inr g ↦ g
    | inl g ↦ absurd (
        let W : ℕ = B * (β * β ^ b) in
        let m : B * (β * β ^ suc b) ≤ B * β ^ suc a =
        mul-le-mul_left B (omega (arith, pow-succ' β (suc b), unit_le (suc (suc b)) (suc a) (omega arith))) in
        let pair : 2 * 1 ≤ β * β ^ b = mul-le-mul two (unit_pos b) in
        let some : 1 ≤ β * β ^ b = omega arith in
        let full : 1 * 1 ≤ B * (β * β ^ b) = mul-le-mul one some in
        let double : 2 * W ≤ β * W = mul-le-mul_right W two in
        omega (arith, ap (λ (x : ℕ). B * (β * x)) (pow-succ' β b)))
  ]

  module _ (t v : ℕ) (c : Cut β B t v) where
    u_few : c.u ≤ 1
    u_few = omega (arith, c.raised, raise_few (β ^ suc c.k) c.n (2 * c.w))

    -- the cut went down, or up
    record Down : Type 0 where
      is : v ≡ c.n * β ^ suc c.k
      half : 2 * c.w ≤ β ^ suc c.k

    record Up : Type 0 where
      is : v ≡ c.n * β ^ suc c.k + β ^ suc c.k
      half : β ^ suc c.k ≤ 2 * c.w

    way : Down ⊎ Up
    way = elim (cases_order (2 * c.w) (β ^ suc c.k)) [
      | inr (inl h) ↦ inl (down (c.raised ∙ raise_less (β ^ suc c.k) c.n (2 * c.w) h) (omega arith))
      | inr (inr h) ↦ inr (up (c.raised ∙ raise_more (β ^ suc c.k) c.n (2 * c.w) h) (omega arith))
      | inl h ↦ elim (cases_lt 0 c.u) [
        | inl g ↦ inr (up (omega (arith, u_few)) (omega arith))
        | inr g ↦ inl (down (omega arith) (omega arith))
      ]
    ]
      where
        down : c.u ≡ 0 → 2 * c.w ≤ β ^ suc c.k → Down
        down z h = record { is = c.v_is ∙ omega (arith, ap (λ (m : ℕ). m * β ^ suc c.k) z); half = h }

        up : c.u ≡ 1 → β ^ suc c.k ≤ 2 * c.w → Up
        up z h = record { is = c.v_is ∙ omega (arith, ap (λ (m : ℕ). m * β ^ suc c.k) z); half = h }

    cut_near : 2 * gap v t ≤ β ^ suc c.k
    cut_near = elim way [
      | inl a ↦ omega (arith, a.is, a.half, c.is, c.w_lt)
      | inr a ↦ omega (arith, a.is, a.half, c.is, c.w_lt)
    ]

    pub cut_low : B * β ^ suc c.k ≤ t
    cut_low = omega (arith, c.is, mul-le-mul_right (β ^ suc c.k) c.n_lo)

    pub cut_high : t < β * B * β ^ suc c.k
    cut_high =
        let m : (c.n + 1) * β ^ suc c.k ≤ β * B * β ^ suc c.k =
        mul-le-mul_right (β ^ suc c.k) (omega (arith, c.n_hi)) in
        omega (arith, c.is, c.w_lt)

    v_low : B * β ^ suc c.k ≤ v
    v_low =
        let m : B * β ^ suc c.k ≤ (c.n + c.u) * β ^ suc c.k =
        mul-le-mul_right (β ^ suc c.k) (omega (arith, c.n_lo)) in
        omega (arith, c.v_is)

    v_high : v ≤ β * B * β ^ suc c.k
    v_high =
        let m : (c.n + c.u) * β ^ suc c.k ≤ β * B * β ^ suc c.k =
        mul-le-mul_right (β ^ suc c.k) (omega (arith, c.n_hi, u_few)) in
        omega (arith, c.v_is)

    -- nothing was cut off
    whole : c.w ≡ 0 → v ≡ t
    whole z = elim way [
      | inl a ↦ omega (arith, a.is, c.is)
      | inr a ↦ absurd (omega (arith, a.half, unit_pos (suc c.k)))
    ]

  -- a rounding of every number
  module _ (rn : ℕ → ℕ) (is : (t : ℕ) → Rounds β B t (rn t)) where
    -- β B units of the power just below the cut's unit are B of that unit, so nothing is cut off
    at_edge : (t j : ℕ) (c : Cut β B t (rn t)) → c.k ≡ j → t ≤ β * B * β ^ j → c.w ≡ 0
    at_edge t j c e h =
        let V : ℕ = β ^ suc c.k in
        let b : β * B * β ^ j ≡ B * V = ap (λ (x : ℕ). β * B * β ^ x) (sym e)
        ∙ omega (arith, ap (λ (x : ℕ). B * x) (pow-succ' β c.k)) in
        let m : B * V ≤ c.n * V = mul-le-mul_right V c.n_lo in
        omega (arith, c.is)

    pub half_law : (t j : ℕ) → t ≤ β * B * β ^ j → 2 * gap (rn t) t ≤ β ^ j
    half_law t j h = elim (is t) [
      | inl f ↦ omega (arith, f.1)
      | inr c ↦
          let kj : c.k ≤ j = unit_at_most c.k j (omega (arith, cut_low t (rn t) c)) in
          elim (cases_lt c.k j) [
            | inl g ↦ omega (arith, cut_near t (rn t) c, unit_le (suc c.k) j (omega arith))
            | inr g ↦ omega (arith, whole t (rn t) c (at_edge t j c (omega arith) h))
          ]
    ]

    no_rest : (V n w : ℕ) → V ∣ n * V + w → w < V → w ≡ 0
    no_rest V n w h l = elim (cases_lt 0 w) [
      | inr a ↦ omega arith
      | inl a ↦ absurd (let m : V ≤ w = le_of_dvd a ((dvd-add_iff_right V (dvd-mul_left V n)).1 h) in omega arith)
    ]

    pub fix_law : (t j : ℕ) → β ^ j ∣ t → t ≤ β * B * β ^ j → rn t ≡ t
    fix_law t j dv h = elim (is t) [
      | inl f ↦ f.1
      | inr c ↦ whole t (rn t) c (
          let V : ℕ = β ^ suc c.k in
          let kj : c.k ≤ j = unit_at_most c.k j (omega (arith, cut_low t (rn t) c)) in
          elim (cases_lt c.k j) [
            | inl g ↦ no_rest V c.n c.w (subst (λ (x : ℕ). V ∣ x) c.is
                (dvd_trans V (divides_power β (suc c.k) j (omega arith)) dv)) c.w_lt
            | inr g ↦ at_edge t j c (omega arith) h
          ])
    ]

    pub relative_law : (t : ℕ) → 2 * (B * gap (rn t) t) ≤ t
    relative_law t = elim (is t) [
      | inl f ↦ (let z : gap (rn t) t ≡ 0 = omega (arith, f.1) in omega (arith, ap (λ (x : ℕ). B * x) z))
      | inr c ↦ omega (arith, mul-le-mul_left B (cut_near t (rn t) c), cut_low t (rn t) c)
    ]

    -- what is kept lies below every cut
    kept_below : (k : ℕ) → β * B ≤ B * β ^ suc k
    kept_below k = omega (arith, mul-le-mul_left (β * B) (unit_pos k), ap (λ (x : ℕ). B * x) (pow-succ' β k))

    -- two cuts at one unit
    same_unit : (a b V : ℕ) → a ≤ b → (c : Cut β B a (rn a)) (e : Cut β B b (rn b)) → β ^ suc c.k ≡ V
        → β ^ suc e.k ≡ V → rn a ≤ rn b
    same_unit a b V h c e p q = elim (cases_order c.n e.n) [
      | inr (inl l) ↦ omega (
        arith,
        va,
        vb,
        mul-le-mul_right {m = c.n + c.u} {n = e.n + e.u} V
            (omega (arith, u_few a (rn a) c)),
      )
      | inr (inr l) ↦ absurd (omega (arith, ia, ib, wb, mul-le-mul_right {m = e.n + 1} {n = c.n} V (omega arith)))
      | inl l ↦ omega (
        arith,
        va,
        vb,
        mul-le-mul_right {m = c.n + c.u} {n = e.n + e.u} V
            (omega (arith, later l)),
      )
    ]
      where
        ia : a ≡ c.n * V + c.w
        ia = c.is ∙ ap (λ (x : ℕ). c.n * x + c.w) p

        ib : b ≡ e.n * V + e.w
        ib = e.is ∙ ap (λ (x : ℕ). e.n * x + e.w) q

        wb : e.w < V
        wb = subst (λ (x : ℕ). e.w < x) q e.w_lt

        va : rn a ≡ (c.n + c.u) * V
        va = c.v_is ∙ ap (λ (x : ℕ). (c.n + c.u) * x) p

        vb : rn b ≡ (e.n + e.u) * V
        vb = e.v_is ∙ ap (λ (x : ℕ). (e.n + e.u) * x) q

        ua : c.u ≡ raise V c.n (2 * c.w)
        ua = c.raised ∙ ap (λ (x : ℕ). raise x c.n (2 * c.w)) p

        ub : e.u ≡ raise V e.n (2 * e.w)
        ub = e.raised ∙ ap (λ (x : ℕ). raise x e.n (2 * e.w)) q

        -- at one quotient a larger remainder is raised no less
        later : c.n ≡ e.n → c.u ≤ e.u
        later l =
            let ww : c.w ≤ e.w = omega (arith, ia, ib, ap (λ (x : ℕ). x * V) l) in
            elim (cases_order (2 * c.w) V) [
              | inr (inl x) ↦ omega (arith, ua, raise_less V c.n (2 * c.w) x)
              | inr (inr x) ↦ omega (arith, u_few a (rn a) c, ub, raise_more V e.n (2 * e.w) (omega arith))
              | inl x ↦ elim (cases_lt V (2 * e.w)) [
                | inl y ↦ omega (arith, u_few a (rn a) c, ub, raise_more V e.n (2 * e.w) y)
                | inr y ↦ omega (
                  arith,
                  ua,
                  ub,
                  raise_tie V c.n (2 * c.w) x,
                  raise_tie V e.n (2 * e.w) (omega arith),
                  ap (λ (m : ℕ). m % 2) l,
                )
              ]
            ]

    pub order_law : (a b : ℕ) → a ≤ b → rn a ≤ rn b
    order_law a b h = elim (is a) [
      | inl f ↦ elim (is b) [
        | inl g ↦ omega (arith, f.1, g.1)
        | inr e ↦ omega (arith, f.0, f.1, v_low b (rn b) e, kept_below e.k)
      ]
      | inr c ↦ elim (is b) [
        | inl g ↦ absurd (omega (arith, g.0, cut_low a (rn a) c, kept_below c.k))
        | inr e ↦
            let kk : c.k < suc e.k =
            unit_below c.k (suc e.k) (omega (arith, cut_low a (rn a) c, cut_high b (rn b) e)) in
            elim (cases_lt c.k e.k) [
              | inl g ↦
                  let m : β * B * β ^ suc c.k ≤ β * B * β ^ e.k =
                  mul-le-mul_left (β * B) (unit_le (suc c.k) e.k g) in
                  omega (arith, v_high a (rn a) c, v_low b (rn b) e, ap (λ (x : ℕ). B * x) (pow-succ' β e.k))
              | inr g ↦ same_unit a b (β ^ suc c.k) h c e refl
                  (ap (λ (x : ℕ). β ^ suc x) (equal c.k e.k kk g))
            ]
      ]
    ]
      where
        equal : (k l : ℕ) → k < suc l → l ≤ k → l ≡ k
        equal k l a b = omega arith

    pub multiple_law : (t j : ℕ) → B * β ^ j ≤ t → β ^ j ∣ rn t
    multiple_law t zero h = subst (λ (x : ℕ). x ∣ rn t) (sym (pow-zero β)) (one-dvd (rn t))
    multiple_law t (suc j) h = elim (is t) [
      | inl f ↦ absurd (omega (arith, f.0, kept_below j))
      | inr c ↦ subst (λ (x : ℕ). β ^ suc j ∣ x) (sym c.v_is)
          (dvd_trans (β ^ suc j) (divides_power β (suc j) (suc c.k) (
          let l : j < suc c.k = unit_below j (suc c.k) (omega (arith, cut_high t (rn t) c)) in omega arith))
          (dvd-mul_left (β ^ suc c.k) (c.n + c.u)))
    ]

    -- between n V and (n + 1) V the cut is at n units of V
    place : (t j n : ℕ) → B ≤ n → n < β * B → n * β ^ suc j ≤ t → t < n * β ^ suc j + β ^ suc j
        → (c : Cut β B t (rn t)) → (c.k ≡ j) × (c.n ≡ n)
    place t j n lo hi a b c =
        let W : ℕ = β ^ suc j in
        let bw : B * W ≤ n * W = mul-le-mul_right W lo in
        let nw : (n + 1) * W ≤ β * B * W = mul-le-mul_right W (omega arith) in
        let k1 : j < suc c.k = unit_below j (suc c.k) (omega (arith, cut_high t (rn t) c)) in
        let k2 : c.k < suc j = unit_below c.k (suc j) (omega (arith, cut_low t (rn t) c)) in
        let e : c.k ≡ j = omega arith in
        let i : t ≡ c.n * W + c.w = c.is ∙ ap (λ (x : ℕ). c.n * β ^ suc x + c.w) e in
        let wl : c.w < W = subst (λ (x : ℕ). c.w < β ^ suc x) e c.w_lt in (
          e,
          elim (cases_order c.n n) [
            | inr (inl l) ↦ absurd (omega (arith, mul-le-mul_right {m = c.n + 1} {n = n} W (omega arith)))
            | inl l ↦ l
            | inr (inr l) ↦ absurd (omega (arith, mul-le-mul_right {m = n + 1} {n = c.n} W (omega arith)))
          ],
        )

    not_kept : (t j n : ℕ) → B ≤ n → n * β ^ suc j ≤ t → t < β * B → ⊥
    not_kept t j n lo a b = omega (arith, kept_below j, mul-le-mul_right (β ^ suc j) lo)

    -- below the middle of n V and (n + 1) V, and in the middle where n is even
    pub middle_law : (t j n : ℕ) → B ≤ n → n < β * B → 2 * t < (2 * n + 1) * β ^ j → rn t ≤ n * β ^ j
    middle_law t j n lo hi h = elim (cases_lt (n * β ^ j) t) [
      | inr a ↦ omega (
        arith,
        order_law t (n * β ^ j) a,
        fix_law (n * β ^ j) j (dvd-mul_left (β ^ j) n) (mul-le-mul_right (β ^ j) (omega arith)),
      )
      | inl a ↦ go j h a
    ]
      where
        go : (j : ℕ) → 2 * t < (2 * n + 1) * β ^ j → n * β ^ j < t → rn t ≤ n * β ^ j
        go zero h a = absurd (omega (arith, pow-zero β, ap (λ (x : ℕ). n * x) (pow-zero β)))
        go (suc j) h a = elim (is t) [
          | inl f ↦ absurd (not_kept t j n lo (omega arith) f.0)
          | inr c ↦
              let pl = place t j n lo hi (omega arith) (omega arith) c in
              let W : ℕ = β ^ suc j in
              let V : β ^ suc c.k ≡ W = ap (λ (x : ℕ). β ^ suc x) pl.0 in
              let i : t ≡ n * W + c.w = c.is ∙ ap₂ (λ (m x : ℕ). m * x + c.w) pl.1 V in
              let low : 2 * c.w < β ^ suc c.k = omega arith in
              let u : c.u ≡ 0 = c.raised ∙ raise_less (β ^ suc c.k) c.n (2 * c.w) low in
              let v : rn t ≡ n * W = c.v_is ∙ ap₂ (λ (m x : ℕ). m * x) (omega (arith, pl.1, u)) V in
              omega arith
        ]

    pub tie_law : (t j n : ℕ) → B ≤ n → n < β * B → n % 2 ≡ 0 → 2 * t ≡ (2 * n + 1) * β ^ suc j
        → rn t ≡ n * β ^ suc j
    tie_law t j n lo hi even h = elim (is t) [
      | inl f ↦ absurd (not_kept t j n lo (omega arith) f.0)
      | inr c ↦
          let pl = place t j n lo hi (omega arith) (omega (arith, unit_pos (suc j))) c in
          let W : ℕ = β ^ suc j in
          let V : β ^ suc c.k ≡ W = ap (λ (x : ℕ). β ^ suc x) pl.0 in
          let i : t ≡ n * W + c.w = c.is ∙ ap₂ (λ (m x : ℕ). m * x + c.w) pl.1 V in
          let mid : 2 * c.w ≡ β ^ suc c.k = omega arith in
          let u : c.u ≡ 0 = c.raised ∙ raise_tie (β ^ suc c.k) c.n (2 * c.w) mid
          ∙ ap (λ (m : ℕ). m % 2) pl.1 ∙ even in
          c.v_is ∙ ap₂ (λ (m x : ℕ). m * x) (omega (arith, pl.1, u)) V
    ]

    pub zero_law : rn 0 ≡ 0
    zero_law = fix_law 0 0 (dvd-zero (β ^ 0)) (omega arith)
