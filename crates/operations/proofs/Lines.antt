-- The answers to numbered lines are those to the lines.
use Rattle.std.proofs.Common.{◌≡◌, ℕ, ◌+◌, List, [], ◌∷◌, ◌++◌, refl, ap}
use Rattle.std.specs.List.{flat_map, enumerate_from}
use Rattle.lines.specs.Texts.{lines_of, numbered_lines}
use Rattle.operations.specs.Operations.{answer_line, answer_lines}

-- the answers to lines, each with its number
abbrev pub answers_to : List (ℕ × List ℕ) → List ℕ
answers_to lines = flat_map (λ (line : ℕ × List ℕ). answer_line line.1) lines

numbers_ignored : (n : ℕ) (lines : List (List ℕ)) → answers_to (enumerate_from n lines) ≡ flat_map answer_line lines
numbers_ignored n [] = refl
numbers_ignored n (line ∷ lines) = ap (λ more. answer_line line ++ more) (numbers_ignored (n + 1) lines)

-- before the first line
pub answers_begun : (text : List ℕ) → answers_to (numbered_lines text) ≡ answer_lines text
answers_begun text = numbers_ignored 1 (lines_of text)
