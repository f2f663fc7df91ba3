-- What the rounding routine computes of a truncated number is the rounded figure of what it stands for.
use Rattle.std.proofs.Common.{◌≡◌, ℕ, zero, suc, ◌+◌, ◌-◌, ◌*◌, ◌/◌, ◌%◌, ◌^◌, ◌<◌, ◌≤◌, Bool, true, false}
use Rattle.std.proofs.Common.{if◌then◌else◌, ◌==◌, nat_le, ℤ, pos, ◌+ℤ◌, ◌-ℤ◌, unsigned_abs, ◌≤ℤ◌, sym, refl, ap, ◌∙◌}
use Rattle.std.proofs.Common.{subst, ap₂, mul-le-mul, mul-le-mul_left, mul-one, arith}
use native.Mathlib.Nat.{pow-zero, add-zero}
use lib.Signed.{≤ℤ_refl}
use borrow.Author.Differences.{ints}
use Rattle.std.proofs.lemmas.Bool.{cond_both}
use Rattle.std.proofs.lemmas.Bool.Decides.{nat_tests}
use Rattle.whole.proofs.Comparisons.{size_same}
use Rattle.whole.proofs.Powers.{power_pos, power_parts}
use Rattle.rounding.specs.declared.Figure.{Figure}
use Rattle.rounding.specs.Exact.{Exact}
use Rattle.rounding.specs.Digits.{digits}
use Rattle.rounding.specs.Rounding.{zero_figure, negative, signed, raise, carried, rounded}
use Rattle.rounding.proofs.Places.{Placed, raise_less, scaled_place, sticky}
use Rattle.rounding.proofs.Signs.{signed_size}
use Rattle.rounding.proofs.Computed.{rounded_zero, rounded_of}
use Rattle.kinds.specs.Kinds.{IsKind}
use Rattle.kinds.proofs.Sizes.{radix_two}
use Rattle.integers.specs.declared.terms.Term.{Term}
use Rattle.integers.specs.Terms.{Truncation, exact, worth}
use Rattle.integers.specs.Rounding.{one_if, extended_figure, shortened_figure, nearest_figure}
use Rattle.integers.proofs.Lengths.{Length, Shortened, length_of, appended_high, appended_low, shortened}
use Rattle.integers.proofs.Truncations.{Stands, plain_stands}

negative_signed : (neg : Bool) (n : ℕ) → 0 < n → negative (signed neg n) ≡ neg
negative_signed neg zero some = absurd (omega arith)
negative_signed false (suc n) some = refl
negative_signed true (suc n) some = refl

module _ (β p : ℕ) (kind : IsKind β p) (x : Exact) (t : Truncation) (s : Stands β p x t) where
  abbrev n : ℕ
  n = t.term.size

  abbrev K : ℕ
  K = β ^ s.rest

  two : 2 ≤ β
  two = radix_two β p kind

  one_p : 1 ≤ p
  one_p = omega (arith, kind.1)

  K_pos : 1 ≤ β ^ s.rest
  K_pos = power_pos β s.rest two

  size_is : unsigned_abs x.m ≡ β ^ s.rest * n + s.low
  size_is = ap unsigned_abs s.is ∙ signed_size t.term.negative _

  -- a number of p digits at most has nothing below
  nothing_below : n < β ^ p → s.low ≡ 0
  nothing_below short = go t.sticky refl
    where
      go : (b : Bool) → t.sticky ≡ b → s.low ≡ 0
      go false e = s.none e
      go true e = absurd (omega (arith, s.large e))

  sign_is : 0 < unsigned_abs x.m → negative x.m ≡ t.term.negative
  sign_is some = ap negative s.is ∙ negative_signed t.term.negative _ (omega (arith, size_is))

  -- zero is rounded to zero
  zero_rounds : n ≡ 0 → zero_figure ≡ rounded β p x
  zero_rounds z = sym (rounded_zero β p x (size_is ∙ empty K n s.low z
      (nothing_below (omega (arith, power_pos β p two)))))
    where
      empty : (K n r : ℕ) → n ≡ 0 → r ≡ 0 → K * n + r ≡ 0
      empty K n r a b = omega (arith, ap (λ (k : ℕ). K * k) a)

  -- a number of p digits at most is not changed
  extended_rounds : (d : ℕ) → Length β n d → d ≤ p → 0 < n
      → extended_figure β p t.term (p - d) ≡ rounded β p x
  extended_rounds d l le z =
      let i : ℕ = p - d in
      let N : ℕ = n * β ^ i in
      let top : N < β ^ p = appended_high β n d i p two l (omega arith) in
      let bottom : β ^ (p - 1) ≤ N = appended_low β n d i (p - 1) l (omega (arith, l.some)) in
      let low : s.low ≡ 0 = nothing_below (under (β ^ i) (β ^ p) (power_pos β i two) top) in
      let whole : unsigned_abs x.m ≡ K * n = size_is ∙ plain K n s.low low in
      let some : 0 < unsigned_abs x.m = big K (unsigned_abs x.m) whole K_pos in
      let v : ℤ = x.e -ℤ pos i in
      let place : Placed (β ^ (p - 1)) (β ^ p) (β ^ s.rest) (unsigned_abs x.m * β ^ unsigned_abs (x.e -ℤ v)) N 0 0 =
      record {
        is = ap₂ (λ (a b : ℕ). a * β ^ b) whole (back x.e i) ∙ turn K n (β ^ i);
        w_lt = K_pos;
        d_lo = bottom;
        d_hi = top;
        raised = sym (raise_less K N (2 * 0) (omega (arith, K_pos)));
      } in
      sym (rounded_of β p two one_p x v s.rest N 0 0 some (below x.e i) (near x.e d l.some le) place
      ∙ ap₂ (λ (b : Bool) (m : ℕ). carried β p b m (v +ℤ pos s.rest)) (sign_is some) (add-zero N)
      ∙ ap (λ (q : ℤ). carried β p t.term.negative N q) (level x.e i s.rest t.term.exponent s.place))
    where
      under : (E P : ℕ) → 1 ≤ E → n * E < P → n < P
      under E P e h = omega (arith, mul-le-mul_left n e)

      plain : (K n r : ℕ) → r ≡ 0 → K * n + r ≡ K * n
      plain K n r e = omega arith

      big : (K m : ℕ) → m ≡ K * n → 1 ≤ K → 0 < m
      big K m e h = omega (arith, mul-le-mul h z)

      back : (e : ℤ) (i : ℕ) → unsigned_abs (e -ℤ (e -ℤ pos i)) ≡ i
      back e i = omega (arith, ints)

      below : (e : ℤ) (i : ℕ) → (e -ℤ pos i) ≤ℤ e
      below e i = omega (arith, ints)

      near : (e : ℤ) (d : ℕ) → 1 ≤ d → d ≤ p → (e -ℤ pos (p - 1)) ≤ℤ (e -ℤ pos (p - d))
      near e d a b = omega (arith, ints)

      turn : (K n E : ℕ) → K * n * E ≡ n * E * K + 0
      turn K n E = omega arith

      level : (e : ℤ) (i r : ℕ) (m : ℤ) → m ≡ e +ℤ pos r → e -ℤ pos i +ℤ pos r ≡ m -ℤ pos i
      level e i r m h = omega (arith, ints)

  -- the place of x on the grid of the last digit kept
  kept_place : (k : ℕ) → Shortened β p n k
      → Placed (β ^ (p - 1)) (β ^ p) (K * β ^ k) (K * n + s.low) (n / β ^ k)
      (K * (n % β ^ k) + s.low)
      (raise (β ^ k) (n / β ^ k) (2 * (n % β ^ k) + one_if t.sticky))
  kept_place k h = go t.sticky refl
    where
      go : (b : Bool) → t.sticky ≡ b
          → Placed (β ^ (p - 1)) (β ^ p) (K * β ^ k) (K * n + s.low) (n / β ^ k)
          (K * (n % β ^ k) + s.low)
          (raise (β ^ k) (n / β ^ k) (2 * (n % β ^ k) + one_if b))
      go true e =
          sticky (β ^ (p - 1)) (β ^ p) (β ^ k) K n (n / β ^ k) (n % β ^ k) s.low
          h.even h.is h.rem h.lo h.hi (s.some e) s.less
      go false e =
          let a : ℕ = n % β ^ k in
          let q : ℕ = n / β ^ k in
          let plain = scaled_place K (β ^ (p - 1)) (β ^ p) (β ^ k) n q a (raise (β ^ k) q (2 * a + 0)) K_pos
          (record {
            is = h.is;
            w_lt = h.rem;
            d_lo = h.lo;
            d_hi = h.hi;
            raised = ap (raise (β ^ k) q) (add-zero (2 * a));
          }) in
          subst (λ (l : ℕ). Placed (β ^ (p - 1)) (β ^ p) (K * β ^ k) (K * n + l) q (K * a + l)
          (raise (β ^ k) q (2 * a + 0))) (sym (s.none e))
          (subst (λ (m : ℕ). Placed (β ^ (p - 1)) (β ^ p) (K * β ^ k) m q (K * a + 0) (raise (β ^ k) q (2 * a + 0)))
          (sym (add-zero (K * n)))
          (subst (λ (w : ℕ). Placed (β ^ (p - 1)) (β ^ p) (K * β ^ k) (K * n) q w (raise (β ^ k) q (2 * a + 0)))
          (sym (add-zero (K * a))) plain))

  -- a longer number is rounded at its p-th digit
  shortened_rounds : (d : ℕ) → Length β n d → p < d → shortened_figure β p t (d - p) ≡ rounded β p x
  shortened_rounds d l past =
      let k : ℕ = d - p in
      let h = shortened β p n d kind l past in
      let some : 0 < unsigned_abs x.m = big K (β ^ k) (unsigned_abs x.m) size_is h.unit_le (power_pos β k two) K_pos in
      let q : ℕ = n / β ^ k in
      let b : ℕ = raise (β ^ k) q (2 * (n % β ^ k) + one_if t.sticky) in
      let w : ℕ = K * (n % β ^ k) + s.low in
      let unit : β ^ (s.rest + k) ≡ K * β ^ k = power_parts β s.rest k (s.rest + k) refl in
      let there : K * n + s.low ≡ unsigned_abs x.m * β ^ unsigned_abs (x.e -ℤ x.e) =
      sym size_is ∙ sym (ap (λ (m : ℕ). unsigned_abs x.m * β ^ m) (size_same x.e)
      ∙ ap (λ (m : ℕ). unsigned_abs x.m * m) (pow-zero β) ∙ mul-one (unsigned_abs x.m)) in
      let place =
      subst (λ (V : ℕ). Placed (β ^ (p - 1)) (β ^ p) V (unsigned_abs x.m * β ^ unsigned_abs (x.e -ℤ x.e)) q w b)
      (sym unit) (subst (λ (m : ℕ). Placed (β ^ (p - 1)) (β ^ p) (K * β ^ k) m q w b) there (kept_place k h)) in
      sym (rounded_of β p two one_p x x.e (s.rest + k) q w b some (≤ℤ_refl x.e) (near x.e) place
      ∙ ap (λ (g : Bool). carried β p g (q + b) (x.e +ℤ pos (s.rest + k))) (sign_is some)
      ∙ ap (λ (e : ℤ). carried β p t.term.negative (q + b) e)
      (level x.e k s.rest t.term.exponent s.place))
    where
      big : (K U m : ℕ) → m ≡ K * n + s.low → U ≤ n → 1 ≤ U → 1 ≤ K → 0 < m
      big K U m e u z h = let some : 1 ≤ n = omega arith in omega (arith, mul-le-mul h some)

      near : (e : ℤ) → (e -ℤ pos (p - 1)) ≤ℤ e
      near e = omega (arith, ints)

      level : (e : ℤ) (k r : ℕ) (m : ℤ) → m ≡ e +ℤ pos r → e +ℤ pos (r + k) ≡ m +ℤ pos k
      level e k r m h = omega (arith, ints)

  pub nearest_rounds : nearest_figure β p t ≡ rounded β p x
  nearest_rounds =
      cond_both (n == 0) _ _ (λ (f : Figure). f ≡ rounded β p x) (λ none. zero_rounds (grind (arith, nat_tests)))
      (λ some. long (grind (arith, nat_tests)))
    where
      d : ℕ
      d = digits β n

      long : 0 < n
          → (if nat_le d p then extended_figure β p t.term (p - d) else shortened_figure β p t (d - p)) ≡ rounded β p x
      long some =
          let length : Length β n d = length_of β n d two some refl in
          cond_both (nat_le d p) _ _ (λ (f : Figure). f ≡ rounded β p x)
          (λ short. extended_rounds d length (grind (arith, nat_tests)) some)
          (λ past. shortened_rounds d length (grind (arith, nat_tests)))

-- a term with nothing below it rounds as its worth does
pub exact_rounds : (β p : ℕ) (t : Term) → IsKind β p → nearest_figure β p (exact t) ≡ rounded β p (worth t)
exact_rounds β p t kind = nearest_rounds β p kind (worth t) (exact t) (plain_stands β p t (radix_two β p kind))
