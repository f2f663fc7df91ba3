-- A text, cut into lines, and a line, cut into words.
use Rattle.std.specs.Prelude.{ℕ, ◌==◌, List, [], ◌∷◌}
use Rattle.std.specs.List.{slice_split, enumerate_from}

-- the parts that a byte divides: one more than the text has of it
abbrev pub parts : ℕ → List ℕ → List (List ℕ)
parts byte text = slice_split (λ b. b == byte) text

-- the parts before the first that is empty
abbrev pub until_empty : List (List ℕ) → List (List ℕ)
until_empty [] = []
until_empty ([] ∷ ps) = []
until_empty ((b ∷ p) ∷ ps) = (b ∷ p) ∷ until_empty ps

-- The lines of a text. Byte 10 ends a line, and the last line may lack it; an empty line ends the text.
abbrev pub lines_of : List ℕ → List (List ℕ)
lines_of text = until_empty (parts 10 text)

-- each with its place among the lines, counted from 1
abbrev pub numbered_lines : List ℕ → List (ℕ × List ℕ)
numbered_lines text = enumerate_from 1 (lines_of text)

-- The words of a line. Byte 32 divides them, so that a doubled or an outer one makes an empty word.
abbrev pub words_of : List ℕ → List (List ℕ)
words_of line = parts 32 line
