-- What the radix β, the precision p and the mark of a kind keep.
use Rattle.std.specs.Prelude.{◌≡◌, ℕ, ◌-◌, ◌%◌, ◌^◌, ◌≤◌, ◌⊎◌}

-- β is even, p is at least 2, the least significand is at least 24, and every significand fits 24 bits
abbrev pub IsKind : ℕ → ℕ → Type 0
IsKind β p = (β % 2 ≡ 0) × (2 ≤ p) × (24 ≤ β ^ (p - 1)) × (β ^ p ≤ 16777216)

-- a kind's mark is the letter p or the letter e, the marks that a number in a text may have
abbrev pub IsMark : ℕ → Type 0
IsMark mark = (mark ≡ 112) ⊎ (mark ≡ 101)
