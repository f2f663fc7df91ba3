-- A power that a word does not hold is past every word, and one that it holds is not zero.
use Rattle.std.proofs.Common.{ℕ, ◌^◌, ◌<◌, ◌≤◌, sym, subst, arith}
use native.Mathlib.Nat.{pow-le-pow_left, div-eq_of_lt, mod-eq_of_lt}
use Rattle.whole.proofs.Powers.{power_pos, power_le}
use Rattle.kinds.proofs.format.Format.split.Goals as goal

some-unit : (c : goal.In-Some) → 0 < c.in-Some.unit
some-unit c =
    subst (λ (u : ℕ). 0 < u) (sym c.in-Some.ensures.1)
    (power_pos c.args.self.radix c.args.k c.args.self.radix_two)

pub nonzero_div-result : goal.nonzero_div-result
nonzero_div-result c = some-unit c

pub nonzero_rem-result : goal.nonzero_rem-result
nonzero_rem-result c = some-unit c

pub returns-then-k-ge64 : goal.returns-then-k-ge64
returns-then-k-ge64 c =
    let two : 2 ≤ c.args.self.radix = c.args.self.radix_two in
    let base : 2 ^ c.args.k ≤ c.args.self.radix ^ c.args.k = pow-le-pow_left two c.args.k in
    let past : 2 ^ 64 ≤ 2 ^ c.args.k = power_le 2 64 c.args.k (omega arith) c.if-k-ge64.true in
    let less : c.args.n < c.args.self.radix ^ c.args.k = omega arith in
    record { above = sym (div-eq_of_lt less); below = sym (mod-eq_of_lt less) }
