-- The theorem above `rounded`: its figure is nearest, ties to even, and the only one that is.
use Rattle.std.proofs.Common.{◌≡◌, ℕ, ◌+◌, ◌-◌, ◌*◌, ◌%◌, ◌^◌, ◌<◌, ◌≤◌, ◌⊎◌, ℤ, pos, ◌-ℤ◌, ◌*ℤ◌, unsigned_abs, ◌≤ℤ◌}
use Rattle.std.proofs.Common.{sym, refl, ap, ◌∙◌, subst, ap₂, inl, inr, zero-le, mul-le-mul, arith}
use lib.IntN.{zero-*ℤ, +ℤ_idr}
use lib.Signed.{≤ℤ_refl}
use borrow.Author.Differences.{ints}
use Rattle.std.specs.Int.{int_min}
use Rattle.std.proofs.lemmas.Int.{clamps}
use Rattle.std.proofs.lemmas.Bool.{cases_lt}
use native.Mathlib.Nat.{le_of_mul-le-mul_right}
use Rattle.whole.proofs.Comparisons.{≤ℤ-trans, size_zero}
use Rattle.whole.proofs.Distances.{gap}
use Rattle.whole.proofs.Powers.{power_pos, power_split, power_even}
use Rattle.rounding.specs.declared.Figure.{Figure}
use Rattle.rounding.specs.Exact.{Exact, value, units, distance}
use Rattle.rounding.specs.Rounding.{zero_figure, negative, signed, rounded}
use Rattle.rounding.specs.Nearest.{Normal, Common, Nearest, RoundsToNearest}
use Rattle.rounding.proofs.Computed.{rounded_zero}
use Rattle.rounding.proofs.Units.{units_size, distance_finer}
use Rattle.rounding.proofs.Signs.{signed_size, own_sign, signed_apart, sizes_nearer, same_side, factor_sign}
use Rattle.rounding.proofs.Rivals.{OnGrid, Tie, closer, nearest, rival, on_grid, same_form}
use Rattle.rounding.proofs.Seen.{Seen, seen}

-- a power that is at most each of two, or of three
pub lower : (a b : ℤ) → (int_min a b ≤ℤ a) × (int_min a b ≤ℤ b)
lower a b = (omega (arith, ints, clamps), omega (arith, ints, clamps))

common : (a b c : ℤ) → (k : ℤ) × ((k ≤ℤ a) × (k ≤ℤ b) × (k ≤ℤ c))
common a b c =
    let ab = lower a b in
    let abc = lower (int_min a b) c in (
      int_min (int_min a b) c,
      (
        ≤ℤ-trans (int_min (int_min a b) c) (int_min a b) a abc.0 ab.0,
        ≤ℤ-trans (int_min (int_min a b) c) (int_min a b) b abc.0 ab.1,
        abc.1,
      ),
    )

module _ (β p : ℕ) (even : β % 2 ≡ 0) (two : 2 ≤ β) (some : 2 ≤ p) where
  one : 1 ≤ p
  one = omega arith

  B_pos : 1 ≤ β ^ (p - 1)
  B_pos = power_pos β (p - 1) two

  normal_top : (g : Figure) → Normal β p g → unsigned_abs g.s < β ^ p
  normal_top g (inl z) = subst (λ (s : ℤ). unsigned_abs s < β ^ p) (sym z.0) (power_pos β p two)
  normal_top g (inr n) = n.1

  -- a figure's size in units of β^k is on every grid
  figure_grid : (g : Figure) (k : ℤ) (l : ℕ) → Normal β p g
      → OnGrid (β ^ (p - 1)) (β ^ l) (unsigned_abs (units β k (value g)))
  figure_grid g k l n = subst (OnGrid (β ^ (p - 1)) (β ^ l)) (sym (units_size β g k))
      (on_grid β (β ^ (p - 1)) (β ^ p) two B_pos (power_split β p one) (unsigned_abs g.s) (unsigned_abs (g.q -ℤ k)) l
      (normal_top g n))

  -- a figure that is not zero somewhere has p digits
  full_digits : (g : Figure) (k : ℤ) → Normal β p g → 0 < unsigned_abs (units β k (value g))
      → (β ^ (p - 1) ≤ unsigned_abs g.s) × (unsigned_abs g.s < β ^ p)
  full_digits g k (inr n) h = n
  full_digits g k (inl z) h = absurd (
      let none : units β k (value g) ≡ pos 0 =
      ap (λ (s : ℤ). s *ℤ pos (β ^ unsigned_abs (g.q -ℤ k))) z.0 ∙ zero-*ℤ (pos (β ^ unsigned_abs (g.q -ℤ k))) in
      omega (arith, ap unsigned_abs none))

  -- a number x that is not zero
  module _ (x : Exact) (full : 0 < unsigned_abs x.m) where
    x_units : (k : ℤ) → units β k x ≡ signed (negative x.m) (unsigned_abs x.m * β ^ unsigned_abs (x.e -ℤ k))
    x_units k = own_sign x.m (β ^ unsigned_abs (x.e -ℤ k))

    off : (k : ℤ) (s : Seen β p x (rounded β p x) k) → distance β k (value (rounded β p x)) x
        ≡ gap ((s.d + s.b) * β ^ s.l) (unsigned_abs x.m * β ^ unsigned_abs (x.e -ℤ k))
    off k s = ap unsigned_abs (ap₂ (λ (a b : ℤ). a -ℤ b) s.is (x_units k))
        ∙ signed_apart (negative x.m) ((s.d + s.b) * β ^ s.l) (unsigned_abs x.m * β ^ unsigned_abs (x.e -ℤ k))

    -- in fine units: none is nearer
    best_fine : (g : Figure) → Normal β p g → (k : ℤ) → k ≤ℤ (x.e -ℤ pos (p - 1))
        → distance β k (value (rounded β p x)) x ≤ distance β k (value g) x
    best_fine g n k fine =
        let s = seen β p even two some x full k fine in
        let T : ℕ = unsigned_abs x.m * β ^ unsigned_abs (x.e -ℤ k) in
        let γ : ℤ = units β k (value g) in
        let a = nearest (β ^ (p - 1)) (β ^ p) (β ^ s.l) T s.d s.w s.b B_pos s.place (unsigned_abs γ)
        (figure_grid g k s.l n) in
        let b : gap (unsigned_abs γ) T ≤ distance β k (value g) x =
        subst (λ (u : ℤ). gap (unsigned_abs γ) T ≤ unsigned_abs (γ -ℤ u))
        (sym (x_units k)) (sizes_nearer (negative x.m) γ T) in
        subst (λ (u : ℕ). u ≤ distance β k (value g) x) (sym (off k s)) (omega arith)

    -- what is as near is the same figure, or the odd neighbour in a tie
    abbrev Outcome : Figure → Type 0
    Outcome g = (rounded β p x ≡ g) ⊎ ((unsigned_abs (rounded β p x).s % 2 ≡ 0) × (unsigned_abs g.s % 2 ≡ 1))

    outcome_fine : (g : Figure) → Normal β p g → (k : ℤ) → k ≤ℤ (x.e -ℤ pos (p - 1)) → k ≤ℤ g.q
        → distance β k (value (rounded β p x)) x ≡ distance β k (value g) x → Outcome g
    outcome_fine g n k fine kg e = elim met [ inl r ↦ inl (same r) | inr r ↦ inr (s.parity r.even, odd r) ]
      where
        s : Seen β p x (rounded β p x) k
        s = seen β p even two some x full k fine

        T : ℕ
        T = unsigned_abs x.m * β ^ unsigned_abs (x.e -ℤ k)

        F : ℕ
        F = (s.d + s.b) * β ^ s.l

        γ : ℤ
        γ = units β k (value g)

        near : gap F T < T
        near = closer (β ^ (p - 1)) (β ^ p) (β ^ s.l) T s.d s.w s.b B_pos s.place

        equal : gap F T ≡ unsigned_abs (γ -ℤ signed (negative x.m) T)
        equal = sym (off k s) ∙ e ∙ ap (λ (u : ℤ). unsigned_abs (γ -ℤ u)) (x_units k)

        side : (γ ≡ signed (negative x.m) (unsigned_abs γ)) × (gap (unsigned_abs γ) T ≡ gap F T)
        side = same_side (negative x.m) γ T (gap F T) equal near

        met : (unsigned_abs γ ≡ F) ⊎ Tie (β ^ s.l) s.d s.b (unsigned_abs γ)
        met = rival (β ^ (p - 1)) (β ^ p) (β ^ s.l) T s.d s.w s.b B_pos s.place (unsigned_abs γ)
            (figure_grid g k s.l n) side.1

        g_sign : g.s ≡ signed (negative x.m) (unsigned_abs g.s)
        g_sign = factor_sign (negative x.m) g.s (β ^ unsigned_abs (g.q -ℤ k))
            (power_pos β (unsigned_abs (g.q -ℤ k)) two) side.0

        positive : (m : ℕ) → 1 ≤ m → unsigned_abs γ ≡ m * β ^ s.l → 0 < unsigned_abs γ
        positive m h e = omega (arith, mul-le-mul h (power_pos β s.l two))

        level : (a b : ℤ) → k ≤ℤ a → k ≤ℤ b → unsigned_abs (a -ℤ k) ≡ unsigned_abs (b -ℤ k) → a ≡ b
        level a b h g e = omega (arith, ints)

        same : unsigned_abs γ ≡ F → rounded β p x ≡ g
        same r =
            let digits = full_digits g k n (positive (s.d + s.b) (omega (arith, B_pos, s.place.d_lo)) r) in
            let forms = same_form β (β ^ (p - 1)) (β ^ p) two B_pos (power_split β p one)
            (unsigned_abs (rounded β p x).s) (unsigned_abs g.s) (unsigned_abs ((rounded β p x).q -ℤ k))
            (unsigned_abs (g.q -ℤ k))
            s.least s.most digits.0 digits.1
            (sym (units_size β (rounded β p x) k) ∙ ap unsigned_abs s.is ∙ signed_size (negative x.m) F ∙ sym r
            ∙ units_size β g k) in
            let ss : (rounded β p x).s ≡ g.s = s.sign ∙ ap (signed (negative x.m)) forms.0 ∙ sym g_sign in
            let qq : (rounded β p x).q ≡ g.q = level (rounded β p x).q g.q s.below kg forms.1 in
            (λ t. record { s = ss t; q = qq t })

        below_top : (m P d : ℕ) → m % 2 ≡ 1 → P % 2 ≡ 0 → m ≤ d + 1 → d < P → m < P
        below_top m P d a b c e = elim (cases_lt m P) [
          | inl h ↦ h
          | inr h ↦ absurd (let q : m ≡ P = omega arith in omega (arith, ap (λ (n : ℕ). n % 2) q))
        ]

        odd : Tie (β ^ s.l) s.d s.b (unsigned_abs γ) → unsigned_abs g.s % 2 ≡ 1
        odd r =
            let digits = full_digits g k n (positive r.m (omega (arith, B_pos, s.place.d_lo, r.lo)) r.is) in
            let top : r.m < β ^ p =
            below_top r.m (β ^ p) s.d r.odd (power_even β p even one) r.hi s.place.d_hi in
            let forms = same_form β (β ^ (p - 1)) (β ^ p) two B_pos (power_split β p one)
            (unsigned_abs g.s) r.m (unsigned_abs (g.q -ℤ k)) s.l
            digits.0 digits.1 (omega (arith, s.place.d_lo, r.lo)) top (sym (units_size β g k) ∙ r.is) in
            ap (λ (n : ℕ). n % 2) forms.0 ∙ r.odd

    -- in any common unit, by way of a finer one
    best : (g : Figure) → Normal β p g → (k : ℤ) → Common k x (rounded β p x) g
        → distance β k (value (rounded β p x)) x ≤ distance β k (value g) x
    best g n k c =
        let l = lower k (x.e -ℤ pos (p - 1)) in
        let m : ℤ = int_min k (x.e -ℤ pos (p - 1)) in
        le_of_mul-le-mul_right {k = β ^ unsigned_abs (k -ℤ m)}
        (subst (λ (a : ℕ). a ≤ distance β k (value g) x * β ^ unsigned_abs (k -ℤ m))
        (distance_finer β m k (value (rounded β p x)) x l.0 c.1 c.0)
        (subst (λ (a : ℕ). distance β m (value (rounded β p x)) x ≤ a)
        (distance_finer β m k (value g) x l.0 c.2 c.0) (best_fine g n m l.1)))
        (power_pos β (unsigned_abs (k -ℤ m)) two)

    outcome : (g : Figure) → Normal β p g → (k : ℤ) → Common k x (rounded β p x) g
        → distance β k (value (rounded β p x)) x ≡ distance β k (value g) x → Outcome g
    outcome g n k c e =
        let l = lower k (x.e -ℤ pos (p - 1)) in
        let m : ℤ = int_min k (x.e -ℤ pos (p - 1)) in
        outcome_fine g n m l.1 (≤ℤ-trans m k g.q l.0 c.2)
        (distance_finer β m k (value (rounded β p x)) x l.0 c.1 c.0
        ∙ ap (λ (a : ℕ). a * β ^ unsigned_abs (k -ℤ m)) e
        ∙ sym (distance_finer β m k (value g) x l.0 c.2 c.0))

    full_nearest : Nearest β p x (rounded β p x)
    full_nearest =
        let k : ℤ = x.e -ℤ pos (p - 1) in
        let s = seen β p even two some x full k (≤ℤ_refl k) in
        record {
          normal = inr (s.least, s.most);
          best = best;
          even = λ g n k c e. elim (outcome g n k c e) [ inl h ↦ inl h | inr h ↦ inr h.0 ];
        }

    -- two nearest figures would both be even neighbours
    full_only : (f : Figure) → Nearest β p x f → f ≡ rounded β p x
    full_only f n =
        let k = common x.e (rounded β p x).q f.q in
        let swapped : Common k.0 x f (rounded β p x) = (k.1.0, k.1.2, k.1.1) in
        let there = best f n.normal k.0 k.1 in
        let back = n.best (rounded β p x) full_nearest.normal k.0 swapped in
        let e : distance β k.0 (value (rounded β p x)) x ≡ distance β k.0 (value f) x = omega arith in
        elim (outcome f n.normal k.0 k.1 e) [
          | inl h ↦ sym h
          | inr h ↦ elim (n.even (rounded β p x) full_nearest.normal k.0 swapped (sym e)) [
            | inl g ↦ g
            | inr g ↦ absurd (omega (arith, h.1, g))
          ]
        ]

  -- zero
  module _ (x : Exact) (none : x.m ≡ pos 0) where
    no_units : (y : Exact) → y.m ≡ pos 0 → (k : ℤ) → units β k y ≡ pos 0
    no_units y e k =
        ap (λ (s : ℤ). s *ℤ pos (β ^ unsigned_abs (y.e -ℤ k))) e ∙ zero-*ℤ (pos (β ^ unsigned_abs (y.e -ℤ k)))

    from_zero : (g : Figure) (k : ℤ) → distance β k (value g) x ≡ unsigned_abs (units β k (value g))
    from_zero g k =
        ap (λ (u : ℤ). unsigned_abs (units β k (value g) -ℤ u)) (no_units x none k)
        ∙ ap unsigned_abs (+ℤ_idr (units β k (value g)))

    zero_off : (k : ℤ) → distance β k (value zero_figure) x ≡ 0
    zero_off k = from_zero zero_figure k ∙ ap unsigned_abs (no_units (value zero_figure) refl k)

    zero_nearest : Nearest β p x zero_figure
    zero_nearest = record {
      normal = inl (refl, refl);
      best = λ g n k c. subst (λ (u : ℕ). u ≤ distance β k (value g) x) (sym (zero_off k)) zero-le;
      even = λ g n k c e. inr refl;
    }

    zero_only : (f : Figure) → Nearest β p x f → f ≡ zero_figure
    zero_only f n = elim n.normal [
      | inl z ↦ (λ t. record { s = z.0 t; q = z.1 t })
      | inr d ↦ absurd (
          let k = common x.e f.q (pos 0) in
          let near = n.best zero_figure (inl (refl, refl)) k.0 k.1 in
          let G : ℕ = β ^ unsigned_abs (f.q -ℤ k.0) in
          let gone : unsigned_abs f.s * G ≤ 0 = subst (λ (a : ℕ). a ≤ 0) (from_zero f k.0 ∙ units_size β f k.0)
          (omega (arith, zero_off k.0)) in
          let digits : 1 ≤ unsigned_abs f.s = omega (arith, B_pos, d.0) in
          omega (arith, mul-le-mul digits (power_pos β (unsigned_abs (f.q -ℤ k.0)) two)))
    ]

pub rounds_to_nearest : RoundsToNearest
rounds_to_nearest β p even two some x = elim (cases_lt 0 (unsigned_abs x.m)) [
  | inl full ↦ (full_nearest β p even two some x full, full_only β p even two some x full)
  | inr z ↦ (
      let none : x.m ≡ pos 0 = size_zero x.m (omega arith) in
      let r : rounded β p x ≡ zero_figure = rounded_zero β p x (omega arith) in (
        subst (Nearest β p x) (sym r) (zero_nearest β p even two some x none),
        λ f n. zero_only β p even two some x none f n ∙ sym r,
      ))
]
