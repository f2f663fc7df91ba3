-- The figure one of a kind, and the opposite of a figure.
use Rattle.std.specs.Prelude.{if◌then◌else◌, ℕ, ◌-◌, ◌^◌, nat_lt, pos, ◌-ℤ◌, neg_ℤ, unsigned_abs}
use Rattle.rounding.specs.declared.Figure.{Figure}

-- β^(p-1) × β^(1-p)
abbrev pub one_figure : ℕ → ℕ → Figure
one_figure β p = record { s = pos (β ^ (p - 1)); q = pos 1 -ℤ pos p }

abbrev pub opposite : Figure → Figure
opposite f = record { s = neg_ℤ f.s; q = f.q }

-- the opposite in a machine word: s = -2^31, of which a word has no opposite and which is no figure's, stays
abbrev pub flipped : Figure → Figure
flipped f = if nat_lt (unsigned_abs f.s) (2 ^ 31) then opposite f else f
