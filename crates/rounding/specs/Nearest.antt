-- What "to nearest, ties to even" says, with no algorithm in it.
use Rattle.std.specs.Prelude.{◌≡◌, ℕ, ◌-◌, ◌%◌, ◌^◌, ◌<◌, ◌≤◌, ◌⊎◌, ℤ, pos, ◌≤ℤ◌, unsigned_abs}
use Rattle.rounding.specs.declared.Figure.{Figure}
use Rattle.rounding.specs.Exact.{Exact, value, distance}
use Rattle.rounding.specs.Rounding.{rounded}

-- zero, or a significand of exactly p digits; the exponent is any whole number
abbrev pub Normal : ℕ → ℕ → Figure → Type 0
Normal β p f =
    ((f.s ≡ pos 0) × (f.q ≡ pos 0)) ⊎ ((β ^ (p - 1) ≤ unsigned_abs f.s) × (unsigned_abs f.s < β ^ p))

-- x, f and g are whole numbers of units of β^k
abbrev pub Common : ℤ → Exact → Figure → Figure → Type 0
Common k x f g = (k ≤ℤ x.e) × (k ≤ℤ f.q) × (k ≤ℤ g.q)

-- among all normal figures none is nearer to x than f, and where another is as near, f's significand is even
pub record Nearest (β p : ℕ) (x : Exact) (f : Figure) : Type 0 where
  pub normal : Normal β p f
  pub best : (g : Figure) → Normal β p g → (k : ℤ) → Common k x f g
      → distance β k (value f) x ≤ distance β k (value g) x
  pub even : (g : Figure) → Normal β p g → (k : ℤ) → Common k x f g
      → distance β k (value f) x ≡ distance β k (value g) x → (f ≡ g) ⊎ (unsigned_abs f.s % 2 ≡ 0)

-- the theorem above `rounded`: its figure is nearest, and it is the only one
abbrev pub RoundsToNearest : Type 0
RoundsToNearest = (β p : ℕ) → β % 2 ≡ 0 → 2 ≤ β → 2 ≤ p → (x : Exact)
    → Nearest β p x (rounded β p x) × ((f : Figure) → Nearest β p x f → f ≡ rounded β p x)
