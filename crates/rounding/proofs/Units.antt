-- Counting in finer units multiplies by a power of the radix; and a sum in either order.
use Rattle.std.proofs.Common.{◌≡◌, ℕ, ◌+◌, ◌*◌, ◌^◌, ℤ, pos, ◌+ℤ◌, ◌-ℤ◌, ◌*ℤ◌, neg_ℤ, unsigned_abs, ◌≤ℤ◌, sym, ap, ◌∙◌}
use Rattle.std.proofs.Common.{ap₂, arith, pow-add}
use lib.IntN.{+ℤ_comm}
use borrow.Author.Differences.{ints}
use Rattle.std.specs.Int.{int_min}
use Rattle.std.proofs.lemmas.Int.{clamps, unsigned_abs-mul}
use Rattle.whole.proofs.Integers.{*ℤ-assoc, +ℤ-*ℤ, neg_left}
use Rattle.rounding.specs.declared.Figure.{Figure}
use Rattle.rounding.specs.Exact.{Exact, value, units, plus, distance}

pub units_finer : (β : ℕ) (k l : ℤ) (x : Exact) → k ≤ℤ l → l ≤ℤ x.e
    → units β k x ≡ units β l x *ℤ pos (β ^ unsigned_abs (l -ℤ k))
units_finer β k l x kl lx =
    ap (λ (n : ℕ). x.m *ℤ pos (β ^ n)) (far x.e kl lx)
    ∙ ap (λ (n : ℕ). x.m *ℤ pos n) (pow-add β (unsigned_abs (x.e -ℤ l)) (unsigned_abs (l -ℤ k)))
    ∙ sym (*ℤ-assoc x.m (pos (β ^ unsigned_abs (x.e -ℤ l))) (pos (β ^ unsigned_abs (l -ℤ k))))
  where
    far : (e : ℤ) → k ≤ℤ l → l ≤ℤ e → unsigned_abs (e -ℤ k) ≡ unsigned_abs (e -ℤ l) + unsigned_abs (l -ℤ k)
    far e a b = omega (arith, ints)

times_apart : (a b : ℤ) (E : ℕ) → unsigned_abs (a *ℤ pos E -ℤ b *ℤ pos E) ≡ unsigned_abs (a -ℤ b) * E
times_apart a b E =
    ap unsigned_abs (ap (λ (z : ℤ). a *ℤ pos E +ℤ z) (sym (neg_left b (pos E))) ∙ sym (+ℤ-*ℤ a (neg_ℤ b) (pos E)))
    ∙ unsigned_abs-mul (a -ℤ b) (pos E)

pub distance_finer : (β : ℕ) (k l : ℤ) (x y : Exact) → k ≤ℤ l → l ≤ℤ x.e → l ≤ℤ y.e
    → distance β k x y ≡ distance β l x y * β ^ unsigned_abs (l -ℤ k)
distance_finer β k l x y kl lx ly =
    ap unsigned_abs (ap₂ (λ (a b : ℤ). a -ℤ b) (units_finer β k l x kl lx) (units_finer β k l y kl ly))
    ∙ times_apart (units β l x) (units β l y) (β ^ unsigned_abs (l -ℤ k))

-- the size of a figure in units of β^k
pub units_size : (β : ℕ) (g : Figure) (k : ℤ)
    → unsigned_abs (units β k (value g)) ≡ unsigned_abs g.s * β ^ unsigned_abs (g.q -ℤ k)
units_size β g k = unsigned_abs-mul g.s (pos (β ^ unsigned_abs (g.q -ℤ k)))

pub plus_comm : (β : ℕ) (x y : Exact) → plus β x y ≡ plus β y x
plus_comm β x y =
    ap (λ (w : ℤ). record { m = units β w x +ℤ units β w y; e = w }) (lower x.e y.e)
    ∙ ap (λ (m : ℤ). record { m = m; e = int_min y.e x.e })
    (+ℤ_comm (units β (int_min y.e x.e) x) (units β (int_min y.e x.e) y))
  where
    lower : (a b : ℤ) → int_min a b ≡ int_min b a
    lower a b = omega (arith, ints, clamps)
