-- Two terms brought to one power stand for their exact sum.
use Rattle.std.proofs.Common.{◌≡◌, ℕ, ◌+◌, ◌-◌, ◌*◌, ◌/◌, ◌%◌, ◌^◌, ◌<◌, ◌≤◌, Bool, true, false, ◌==◌, ◌⊎◌, ℤ, pos}
use Rattle.std.proofs.Common.{◌+ℤ◌, ◌-ℤ◌, unsigned_abs, ◌≤ℤ◌, sym, refl, ap, ◌∙◌, subst, ap₂, inl, inr}
use Rattle.std.proofs.Common.{mul-le-mul_right, mod-lt, mul-le-mul_left, div-add-mod', mul-one, mul_left_comm, arith}
use native.Mathlib.Nat.{pow-zero, zero-mul}
use lib.IntN.{+ℤ_idr}
use borrow.Author.Differences.{ints}
use Rattle.std.specs.Int.{int_min}
use Rattle.std.proofs.lemmas.Int.{clamps}
use Rattle.std.proofs.lemmas.Bool.{cases_lt, cond_both}
use Rattle.std.proofs.lemmas.Bool.Decides.{nat_tests}
use Rattle.whole.proofs.Comparisons.{size_same}
use Rattle.whole.proofs.Powers.{power_pos, power_le, power_one, power_split, power_parts}
use Rattle.rounding.specs.Exact.{Exact, units, plus}
use Rattle.rounding.specs.Rounding.{signed, rounded}
use Rattle.rounding.proofs.Signs.{signed_times}
use Rattle.rounding.proofs.Units.{plus_comm}
use Rattle.kinds.specs.Kinds.{IsKind}
use Rattle.kinds.proofs.Sizes.{radix_two}
use Rattle.integers.specs.declared.terms.Term.{Term}
use Rattle.integers.specs.Terms.{Truncation, IsAddend, worth, lifted, exact}
use Rattle.integers.specs.Rounding.{nearest_figure}
use Rattle.integers.specs.Sums.{rise, aligned_at, aligned_sum}
use Rattle.integers.proofs.Truncations.{Stands}
use Rattle.integers.proofs.Rises.{Rise, rise_of, below_double}
use Rattle.integers.proofs.Joins.{Joined, joined}
use Rattle.integers.proofs.Rounds.{nearest_rounds}

-- h and l added at the exponent of l
abbrev lowered : ℕ → Term → Term → Exact
lowered β h l = record {
  m = signed h.negative (h.size * β ^ unsigned_abs (h.exponent -ℤ l.exponent)) +ℤ signed l.negative l.size;
  e = l.exponent;
}

-- which is the sum where l has the lower exponent
lowered_plus : (β : ℕ) (h l : Term) → l.exponent ≤ℤ h.exponent → lowered β h l ≡ plus β (worth h) (worth l)
lowered_plus β h l le =
    sym (ap (λ (w : ℤ). record { m = units β w (worth h) +ℤ units β w (worth l); e = w })
    (lower h.exponent l.exponent le)
    ∙ ap₂ (λ (a b : ℤ). record { m = a +ℤ b; e = l.exponent })
    (signed_times h.negative h.size (β ^ unsigned_abs (h.exponent -ℤ l.exponent)))
    (signed_times l.negative l.size (β ^ unsigned_abs (l.exponent -ℤ l.exponent))
    ∙ ap (signed l.negative) (ap (λ (k : ℕ). l.size * β ^ k) (size_same l.exponent)
    ∙ ap (λ (k : ℕ). l.size * k) (pow-zero β) ∙ mul-one l.size)))
  where
    lower : (a b : ℤ) → b ≤ℤ a → int_min a b ≡ b
    lower a b le = omega (arith, ints, clamps)

-- where a remainder of m is left, n was not brought all the way up: the sum has more than p digits
still_long : (β p n d i m N : ℕ) → IsKind β p → Rise β p n d i → m < β ^ (2 * p) → 0 < m % β ^ (d - i)
    → n * β ^ i ≤ N + m / β ^ (d - i) + 1 → β ^ p ≤ N
still_long β p n d i m N kind up short some near =
    step (β ^ p) (β ^ (2 * p - 1)) (β ^ (2 * p)) K (n * β ^ i) (m / K) (m % K) short (div-add-mod' m K)
    (omega (arith, power_le β 1 (d - i) two more, power_one β)) (power_split β (2 * p) (omega (arith, kind.1)))
    (up.long (omega (arith, more))) (power_le β p (2 * p - 1) two (omega (arith, kind.1))) near
  where
    two : 2 ≤ β
    two = radix_two β p kind

    K : ℕ
    K = β ^ (d - i)

    more : 1 ≤ d - i
    more = elim (cases_lt 0 (d - i)) [
      | inl h ↦ h
      | inr h ↦ absurd (whole (d - i) (omega arith) some)
    ]
      where
        whole : (k : ℕ) → k ≡ 0 → 0 < m % β ^ k → ⊥
        whole k e h =
            let unit : β ^ k ≡ 1 = ap (λ (j : ℕ). β ^ j) e ∙ pow-zero β in
            let some : 0 < β ^ k = omega arith in
            omega (arith, mod-lt m some)

    step : (P Q W V big c r : ℕ) → m < W → c * V + r ≡ m → β ≤ V → W ≡ β * Q → W ≤ big → P ≤ Q → big ≤ N + c + 1
        → P ≤ N
    step P Q W V big c r short is wide double past half near =
        let a : c * β ≤ c * V = mul-le-mul_left c wide in
        let below : c < Q = elim (cases_lt c Q) [
          | inl h ↦ h
          | inr h ↦ absurd (let b : Q * β ≤ c * β = mul-le-mul_right β h in omega arith)
        ] in
        let twice : Q * 2 ≤ Q * β = mul-le-mul_left Q two in
        omega arith

module _ (β p : ℕ) (kind : IsKind β p) (h l : Term) (le : l.exponent ≤ℤ h.exponent) where
  two : 2 ≤ β
  two = radix_two β p kind

  -- nothing is added to l
  zero_stands : h.size ≡ 0 → Stands β p (lowered β h l) (exact l)
  zero_stands z = record {
    rest = 0;
    low = 0;
    is = ap (λ (m : ℕ). signed h.negative m +ℤ signed l.negative l.size)
        (ap (λ (m : ℕ). m * β ^ unsigned_abs (h.exponent -ℤ l.exponent)) z
        ∙ zero-mul (β ^ unsigned_abs (h.exponent -ℤ l.exponent)))
        ∙ gone h.negative l.negative l.size ∙ ap (signed l.negative) (whole (β ^ 0) (pow-zero β));
    less = power_pos β 0 two;
    place = sym (+ℤ_idr l.exponent);
    none = λ _. refl;
    some = λ e. cc;
    large = λ e. cc;
  }
    where
      gone : (a b : Bool) (n : ℕ) → signed a 0 +ℤ signed b n ≡ signed b n
      gone true true n = omega (arith, ints)
      gone true false n = omega (arith, ints)
      gone false true n = omega (arith, ints)
      gone false false n = omega (arith, ints)

      whole : (E : ℕ) → E ≡ 1 → l.size ≡ E * l.size + 0
      whole E e = omega (arith, ap (λ (m : ℕ). m * l.size) e)

  -- h is brought up by i digits, and what lies below is less than a unit there
  risen_stands : (i : ℕ) → Rise β p h.size (unsigned_abs (h.exponent -ℤ l.exponent)) i → l.size < β ^ (2 * p)
      → Stands β p (lowered β h l) (aligned_at β h l (unsigned_abs (h.exponent -ℤ l.exponent)) i)
  risen_stands i up short =
      let s = j.sum K (mod-lt l.size K_pos) in
      record {
        rest = d - i;
        low = s.low;
        is = ap₂ (λ (a b : ℕ). signed h.negative a +ℤ signed l.negative b)
            (raised d up.le) (sym (div-add-mod' l.size K) ∙ turn (l.size / K) K (l.size % K))
            ∙ s.is;
        less = s.less;
        place = j.level ∙ level d up.le refl;
        none = s.none;
        some = s.some;
        large = λ e. long e (cases_lt 0 (l.size % K));
      }
    where
      d : ℕ
      d = unsigned_abs (h.exponent -ℤ l.exponent)

      K : ℕ
      K = β ^ (unsigned_abs (h.exponent -ℤ l.exponent) - i)

      K_pos : 1 ≤ β ^ (unsigned_abs (h.exponent -ℤ l.exponent) - i)
      K_pos = power_pos β (unsigned_abs (h.exponent -ℤ l.exponent) - i) two

      u : Truncation
      u = aligned_at β h l (unsigned_abs (h.exponent -ℤ l.exponent)) i

      j : Joined (lifted β h i) l.negative (l.size / K) (l.size % K) u
      j = joined (lifted β h i) l.negative (l.size / K) (l.size % K)

      turn : (c K r : ℕ) → c * K + r ≡ K * c + r
      turn c K r = omega arith

      raised : (d : ℕ) → i ≤ d → h.size * β ^ d ≡ β ^ (d - i) * (h.size * β ^ i)
      raised d g =
          let e : d - i + i ≡ d = omega arith in
          ap (λ (a : ℕ). h.size * a) (power_parts β (d - i) i d e) ∙ mul_left_comm h.size (β ^ (d - i)) (β ^ i)

      level : (d : ℕ) → i ≤ d → unsigned_abs (h.exponent -ℤ l.exponent) ≡ d
          → h.exponent -ℤ pos i ≡ l.exponent +ℤ pos (d - i)
      level d g e = omega (arith, ints)

      -- with something below, h was not brought all the way up, so that it is longer than l by a digit
      long : u.sticky ≡ true → (0 < l.size % K) ⊎ (l.size % K ≤ 0) → β ^ p ≤ u.term.size
      long e (inr none) = cc (j.exact (omega arith))
      long e (inl some) = still_long β p h.size d i l.size u.term.size kind up short some j.near

  aligned_stands : h.size < β ^ (2 * p) → l.size < β ^ (2 * p)
      → Stands β p (plus β (worth h) (worth l)) (aligned_sum β p h l)
  aligned_stands high low =
      subst (λ (x : Exact). Stands β p x (aligned_sum β p h l)) (lowered_plus β h l le)
      (cond_both (h.size == 0) _ _ (Stands β p (lowered β h l)) (λ none. zero_stands (grind (arith, nat_tests)))
      (λ some. risen_stands i (rise_of β p h.size d i kind (grind (arith, nat_tests)) high refl) low))
    where
      d : ℕ
      d = unsigned_abs (h.exponent -ℤ l.exponent)

      i : ℕ
      i = rise β p h.size d

-- what is aligned rounds as the sum does
pub aligned_rounds : (β p top : ℕ) (h l : Term) → IsKind β p → top ≡ β ^ p → IsAddend top h → IsAddend top l
    → l.exponent ≤ℤ h.exponent
    → nearest_figure β p (aligned_sum β p h l) ≡ rounded β p (plus β (worth h) (worth l))
aligned_rounds β p top h l kind e high low le =
    nearest_rounds β p kind (plus β (worth h) (worth l)) (aligned_sum β p h l)
    (aligned_stands β p kind h l le (below_double β p top h.size e high.size) (below_double β p top l.size e low.size))

-- and as the sum does where it is written from the lower term
pub aligned_rounds_turned : (β p top : ℕ) (h l : Term) → IsKind β p → top ≡ β ^ p → IsAddend top h → IsAddend top l
    → l.exponent ≤ℤ h.exponent
    → nearest_figure β p (aligned_sum β p h l) ≡ rounded β p (plus β (worth l) (worth h))
aligned_rounds_turned β p top h l kind e high low le =
    aligned_rounds β p top h l kind e high low le ∙ ap (rounded β p) (plus_comm β (worth h) (worth l))

pub ruleset sums_round = (aligned_rounds, aligned_rounds_turned)
