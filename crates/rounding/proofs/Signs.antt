-- Numbers with a sign: sizes, products and distances on one side of zero.
use Rattle.std.proofs.Common.{◌≡◌, ℕ, suc, ◌*◌, ◌<◌, ◌≤◌, Bool, true, false, ℤ, pos, negsuc, ◌-ℤ◌, ◌*ℤ◌, unsigned_abs}
use Rattle.std.proofs.Common.{refl, inl, inr, mul-le-mul, arith}
use borrow.Author.Differences.{ints}
use Rattle.std.proofs.lemmas.Bool.{cases_lt}
use Rattle.whole.proofs.Integers.{neg_left, unsigned_abs_neg}
use Rattle.whole.proofs.Distances.{gap}
use Rattle.rounding.specs.Rounding.{negative, signed}

pub signed_size : (neg : Bool) (n : ℕ) → unsigned_abs (signed neg n) ≡ n
signed_size false n = refl
signed_size true n = unsigned_abs_neg (pos n)

pub signed_times : (neg : Bool) (s V : ℕ) → signed neg s *ℤ pos V ≡ signed neg (s * V)
signed_times false s V = refl
signed_times true s V = neg_left (pos s) (pos V)

-- a multiple of m has m's sign
pub own_sign : (m : ℤ) (E : ℕ) → m *ℤ pos E ≡ signed (negative m) (unsigned_abs m * E)
own_sign (pos n) E = refl
own_sign (negsuc n) E = refl

-- distances on one side of zero, and at least as far on any side
pub signed_apart : (neg : Bool) (F T : ℕ) → unsigned_abs (signed neg F -ℤ signed neg T) ≡ gap F T
signed_apart false F T = omega (arith, ints)
signed_apart true F T = omega (arith, ints)

pub sizes_nearer : (neg : Bool) (g : ℤ) (T : ℕ) → gap (unsigned_abs g) T ≤ unsigned_abs (g -ℤ signed neg T)
sizes_nearer false (pos g) T = omega (arith, ints)
sizes_nearer false (negsuc g) T = omega (arith, ints)
sizes_nearer true (pos g) T = omega (arith, ints)
sizes_nearer true (negsuc g) T = omega (arith, ints)

-- what is nearer to ±T than zero is has its sign
pub same_side : (neg : Bool) (g : ℤ) (T n : ℕ) → n ≡ unsigned_abs (g -ℤ signed neg T) → n < T
    → (g ≡ signed neg (unsigned_abs g)) × (gap (unsigned_abs g) T ≡ n)
same_side false (pos g) T n e l = (refl, omega (arith, ints))
same_side false (negsuc g) T n e l = absurd (omega (arith, ints))
same_side true (pos g) T n e l = elim (cases_lt 0 g) [
  | inl h ↦ absurd (omega (arith, ints))
  | inr h ↦ absurd (omega (arith, ints))
]
same_side true (negsuc g) T n e l = (refl, omega (arith, ints))

-- a significand has its number's sign
pub factor_sign : (neg : Bool) (s : ℤ) (V : ℕ) → 0 < V → s *ℤ pos V ≡ signed neg (unsigned_abs (s *ℤ pos V))
    → s ≡ signed neg (unsigned_abs s)
factor_sign false (pos s) V some e = refl
factor_sign false (negsuc s) V some e =
    absurd (let h : 1 * 1 ≤ suc s * V = mul-le-mul {n₁ = 1} {m₁ = 1} (omega arith) some in omega (arith, ints))
factor_sign true (pos s) V some e = elim (cases_lt 0 s) [
  | inl h ↦ absurd (let k : 1 * 1 ≤ s * V = mul-le-mul h some in omega (arith, ints))
  | inr h ↦ omega (arith, ints)
]
factor_sign true (negsuc s) V some e = refl
