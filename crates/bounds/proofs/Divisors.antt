-- Multiples of a power among the whole numbers, signs apart.
use Rattle.std.proofs.Common.{◌≡◌, ℕ, ◌+◌, ◌-◌, ◌^◌, ◌≤◌, ◌⊎◌, ℤ, pos, negsuc, ◌+ℤ◌, unsigned_abs, sym, refl, subst}
use Rattle.std.proofs.Common.{inl, inr, arith}
use Prim.Native.Nat.{◌∣◌}
use native.Mathlib.Nat.{dvd-add, dvd-sub, dvd-mul_left}
use borrow.Author.Differences.{ints}
use Rattle.whole.proofs.Distances.{gap}
use Rattle.whole.proofs.Powers.{power_parts}

size_sum : (a b : ℤ) → (unsigned_abs (a +ℤ b) ≡ unsigned_abs a + unsigned_abs b) ⊎
    (unsigned_abs (a +ℤ b) ≡ gap (unsigned_abs a) (unsigned_abs b))
size_sum (pos a) (pos b) = inl refl
size_sum (pos a) (negsuc b) = inr (omega (arith, ints))
size_sum (negsuc a) (pos b) = inr (omega (arith, ints))
size_sum (negsuc a) (negsuc b) = inl (omega (arith, ints))

pub divides_sum : (d : ℕ) (a b : ℤ) → d ∣ unsigned_abs a → d ∣ unsigned_abs b → d ∣ unsigned_abs (a +ℤ b)
divides_sum d a b p q = elim (size_sum a b) [
  | inl e ↦ subst (λ (n : ℕ). d ∣ n) (sym e) (dvd-add d p q)
  | inr e ↦ subst (λ (n : ℕ). d ∣ n) (sym e) (dvd-add d (dvd-sub d p q) (dvd-sub d q p))
]

pub divides_power : (β i j : ℕ) → i ≤ j → β ^ i ∣ β ^ j
divides_power β i j h =
    subst (λ (n : ℕ). β ^ i ∣ n) (sym (power_parts β (j - i) i j (omega arith))) (dvd-mul_left (β ^ i) (β ^ (j - i)))
