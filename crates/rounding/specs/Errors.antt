-- How far an answer lies from an exact value: against that value, and in units of its last place.
use Rattle.std.specs.Prelude.{◌≡◌, ℕ, ◌-◌, ◌*◌, ◌^◌, ◌<◌, ◌≤◌, ℤ, pos, ◌+ℤ◌, ◌-ℤ◌, ◌≤ℤ◌, ◌==◌, unsigned_abs}
use Rattle.std.specs.Prelude.{if◌then◌else◌}
use Rattle.rounding.specs.Exact.{Exact, units, distance}
use Rattle.rounding.specs.Digits.{digits}

-- |r - x| ≤ (n/d) |x|, counted in every unit in which both are whole
abbrev pub Within : ℕ → ℕ → ℕ → Exact → Exact → Type 0
Within β n d r x = (k : ℤ) → k ≤ℤ r.e → k ≤ℤ x.e → d * distance β k r x ≤ n * unsigned_abs (units β k x)

-- the unit in the last place of x: the power of β in which x has p digits; of zero it is zero
unfoldable pub ulp : ℕ → ℕ → Exact → Exact
ulp β p x =
    if unsigned_abs x.m == 0 then (record { m = pos 0; e = pos 0 })
    else (record { m = pos 1; e = x.e +ℤ pos (digits β (unsigned_abs x.m)) -ℤ pos p })

-- β^(p-1) ≤ |x| / u < β^p, and of zero u is zero
pub record LastPlace (β p : ℕ) (x u : Exact) : Type 0 where
  pub zero : unsigned_abs x.m ≡ 0 → u.m ≡ pos 0
  pub power : 0 < unsigned_abs x.m → u.m ≡ pos 1
  pub least : 0 < unsigned_abs x.m → (k : ℤ) → k ≤ℤ x.e → k ≤ℤ u.e
      → β ^ (p - 1) * unsigned_abs (units β k u) ≤ unsigned_abs (units β k x)
  pub most : 0 < unsigned_abs x.m → (k : ℤ) → k ≤ℤ x.e → k ≤ℤ u.e
      → unsigned_abs (units β k x) < β ^ p * unsigned_abs (units β k u)

-- the theorem above `ulp`
abbrev pub UlpIsLastPlace : Type 0
UlpIsLastPlace = (β p : ℕ) → 2 ≤ β → 1 ≤ p → (x : Exact) → LastPlace β p x (ulp β p x)

-- |r - x| ≤ (n/d) units in the last place of x
abbrev pub WithinPlaces : ℕ → ℕ → ℕ → ℕ → Exact → Exact → Type 0
WithinPlaces β p n d r x = (k : ℤ) → k ≤ℤ r.e → k ≤ℤ x.e → k ≤ℤ (ulp β p x).e
    → d * distance β k r x ≤ n * unsigned_abs (units β k (ulp β p x))
