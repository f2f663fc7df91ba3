-- What joining two sizes by their signs says of the exact sum, in any units fine enough for what lies below.
use Rattle.std.proofs.Common.{◌≡◌, ℕ, ◌+◌, ◌-◌, ◌*◌, ◌<◌, ◌≤◌, Bool, true, false, not, ◌==◌, nat_lt, ◌+ℤ◌, sym, refl}
use Rattle.std.proofs.Common.{ap, subst, arith}
use mathlib.Core.Bool.{beq}
use borrow.Author.Differences.{ints}
use Rattle.std.proofs.lemmas.Bool.{cond_both}
use Rattle.std.proofs.lemmas.Bool.Decides.{nat_tests}
use Rattle.rounding.specs.Rounding.{signed}
use Rattle.integers.specs.declared.terms.Term.{Term}
use Rattle.integers.specs.Terms.{Truncation, truncated}
use Rattle.integers.specs.Rounding.{one_if}
use Rattle.integers.specs.Sums.{joined_sum}

-- in units of which K make one: K t and K above + below with their signs make K times u's size, and `low` more
pub record Whole (K : ℕ) (t : Term) (other : Bool) (above below : ℕ) (u : Truncation) : Type 0 where
  pub low : ℕ
  pub is : signed t.negative (K * t.size) +ℤ signed other (K * above + below)
      ≡ signed u.term.negative (K * u.term.size + low)
  pub less : low < K
  pub none : u.sticky ≡ false → low ≡ 0
  pub some : u.sticky ≡ true → 0 < low

pub record Joined (t : Term) (other : Bool) (above below : ℕ) (u : Truncation) : Type 0 where
  pub sum : (K : ℕ) → below < K → Whole K t other above below u
  pub exact : below ≡ 0 → u.sticky ≡ false
  pub near : t.size ≤ u.term.size + above + 1
  pub level : u.term.exponent ≡ t.exponent

add_same : (a : Bool) (M N L : ℕ) → L ≡ M + N → signed a M +ℤ signed a N ≡ signed a L
add_same false M N L h = omega (arith, ints)
add_same true M N L h = omega (arith, ints)

add_less : (a b : Bool) → beq a b ≡ false → (M N L : ℕ) → M ≡ N + L → signed a M +ℤ signed b N ≡ signed a L
add_less false false e M N L h = cc
add_less true true e M N L h = cc
add_less true false e M N L h = omega (arith, ints)
add_less false true e M N L h = omega (arith, ints)

add_more : (a b : Bool) → beq a b ≡ false → (M N L : ℕ) → N ≡ M + L → signed a M +ℤ signed b N ≡ signed b L
add_more false false e M N L h = cc
add_more true true e M N L h = cc
add_more true false e M N L h = omega (arith, ints)
add_more false true e M N L h = omega (arith, ints)

module _ (t : Term) (other : Bool) (above below : ℕ) where
  same : t.negative ≡ other
      → Joined t other above below (truncated other (t.size + above) t.exponent (not (below == 0)))
  same e = record {
    sum = λ K h. record {
      low = below;
      is = subst (λ (b : Bool). signed b (K * t.size) +ℤ signed other (K * above + below)
          ≡ signed other (K * (t.size + above) + below)) (sym e)
          (add_same other (K * t.size) (K * above + below) (K * (t.size + above) + below) (omega arith));
      less = h;
      none = λ z. grind (arith, nat_tests);
      some = λ z. grind (arith, nat_tests);
    };
    exact = λ z. grind (arith, nat_tests);
    near = omega arith;
    level = refl;
  }

  past : beq t.negative other ≡ false → t.size ≤ above
      → Joined t other above below (truncated other (above - t.size) t.exponent (not (below == 0)))
  past e le = record {
    sum = λ K h. record {
      low = below;
      is = add_more t.negative other e (K * t.size) (K * above + below) (K * (above - t.size) + below)
          (step K (above - t.size) (omega arith));
      less = h;
      none = λ z. grind (arith, nat_tests);
      some = λ z. grind (arith, nat_tests);
    };
    exact = λ z. grind (arith, nat_tests);
    near = omega arith;
    level = refl;
  }
    where
      step : (K n : ℕ) → above ≡ t.size + n → K * above + below ≡ K * t.size + (K * n + below)
      step K n a = omega (arith, ap (λ (m : ℕ). K * m) a)

  even : beq t.negative other ≡ false → above < t.size → below ≡ 0
      → Joined t other above below (truncated t.negative (t.size - above - 0) t.exponent false)
  even e lt z = record {
    sum = λ K h. record {
      low = 0;
      is = add_less t.negative other e (K * t.size) (K * above + below) (K * (t.size - above - 0) + 0)
          (step K (t.size - above - 0) (omega arith));
      less = omega arith;
      none = λ _. refl;
      some = λ f. cc;
    };
    exact = λ _. refl;
    near = omega arith;
    level = refl;
  }
    where
      step : (K n : ℕ) → t.size ≡ above + n → K * t.size ≡ K * above + below + (K * n + 0)
      step K n a = omega (arith, ap (λ (m : ℕ). K * m) a)

  -- what lies below is taken from a borrowed unit
  borrowed : beq t.negative other ≡ false → above < t.size → 0 < below
      → Joined t other above below (truncated t.negative (t.size - above - 1) t.exponent true)
  borrowed e lt z = record {
    sum = λ K h. record {
      low = K - below;
      is = add_less t.negative other e (K * t.size) (K * above + below)
          (K * (t.size - above - 1) + (K - below))
          (step K (t.size - above - 1) (K - below) (omega arith) (omega arith));
      less = omega arith;
      none = λ f. cc;
      some = λ _. omega arith;
    };
    exact = λ f. absurd (omega arith);
    near = omega arith;
    level = refl;
  }
    where
      step : (K n s : ℕ) → t.size ≡ above + 1 + n → K ≡ below + s → K * t.size ≡ K * above + below + (K * n + s)
      step K n s a b = omega (arith, ap (λ (m : ℕ). K * m) a)

  pub joined : Joined t other above below (joined_sum t other above below)
  joined =
      cond_both (beq t.negative other) _ _ (Joined t other above below) (λ e. same (alike t.negative other e))
      (λ e. cond_both (nat_lt above t.size) _ _ (Joined t other above below)
      (λ lt. less e (grind (arith, nat_tests)) (not (below == 0)) refl)
      (λ ge. past e (grind (arith, nat_tests))))
    where
      alike : (a b : Bool) → beq a b ≡ true → a ≡ b
      alike false false e = refl
      alike true true e = refl
      alike true false e = cc
      alike false true e = cc

      less : beq t.negative other ≡ false → above < t.size → (sticky : Bool) → not (below == 0) ≡ sticky
          → Joined t other above below (truncated t.negative (t.size - above - one_if sticky) t.exponent sticky)
      less e lt true f = borrowed e lt (grind (arith, nat_tests))
      less e lt false f = even e lt (grind (arith, nat_tests))
