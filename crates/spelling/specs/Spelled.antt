-- The text of a figure, and the text that a spelling holds.
use Rattle.std.specs.Prelude.{ℕ, List, ◌∷◌, ◌++◌, take, ℤ}
use Rattle.std.specs.Fmt.{signed_decimal}
use Rattle.spelling.specs.declared.text.Spelling.{Spelling}

-- the significand s, the kind's mark and the exponent q, with a minus where a number is negative
abbrev pub spelled : ℕ → ℤ → ℤ → List ℕ
spelled mark s q = signed_decimal s ++ (mark ∷ signed_decimal q)

abbrev pub text_of : Spelling → List ℕ
text_of t = take t.len t.bytes
