-- What a truncated number says of the exact number that it stands for.
use Rattle.std.proofs.Common.{◌≡◌, ℕ, ◌+◌, ◌*◌, ◌^◌, ◌<◌, ◌≤◌, true, false, pos, ◌+ℤ◌, sym, refl, ap, arith}
use native.Mathlib.Nat.{pow-zero}
use lib.IntN.{+ℤ_idr}
use Rattle.whole.proofs.Powers.{power_pos}
use Rattle.rounding.specs.Exact.{Exact}
use Rattle.rounding.specs.Rounding.{signed}
use Rattle.integers.specs.declared.terms.Term.{Term}
use Rattle.integers.specs.Terms.{Truncation, worth, exact}

-- x is t's term and `low` more, in units of β^-rest of t's; where there is more, the size has more than p digits
pub record Stands (β p : ℕ) (x : Exact) (t : Truncation) : Type 0 where
  pub rest : ℕ
  pub low : ℕ
  pub is : x.m ≡ signed t.term.negative (β ^ rest * t.term.size + low)
  pub less : low < β ^ rest
  pub place : t.term.exponent ≡ x.e +ℤ pos rest
  pub none : t.sticky ≡ false → low ≡ 0
  pub some : t.sticky ≡ true → 0 < low
  pub large : t.sticky ≡ true → β ^ p ≤ t.term.size

-- a term that nothing lies below stands for its own worth
pub plain_stands : (β p : ℕ) (t : Term) → 2 ≤ β → Stands β p (worth t) (exact t)
plain_stands β p t two = record {
  rest = 0;
  low = 0;
  is = ap (signed t.negative) (whole (β ^ 0) t.size (pow-zero β));
  less = power_pos β 0 two;
  place = sym (+ℤ_idr t.exponent);
  none = λ _. refl;
  some = λ e. cc;
  large = λ e. cc;
}
  where
    whole : (E n : ℕ) → E ≡ 1 → n ≡ E * n + 0
    whole E n e = omega (arith, ap (λ (m : ℕ). m * n) e)
