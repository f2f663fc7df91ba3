-- The numbers of lines stay below 100,000 in a text of at most 65,536 bytes, since no line is empty.
use Rattle.std.proofs.Common.{ℕ, suc, ◌+◌, ◌<◌, ◌≤◌, ◌==◌, Bool, true, false, cond, List, [], ◌∷◌, length}
use Rattle.std.proofs.Common.{arith, rules, le_trans}
use Rattle.std.specs.List.{AllByRecursion, enumerate_from, onto_first}
use Rattle.lines.specs.Texts.{parts, until_empty, lines_of, numbered_lines}

abbrev behind : List (List ℕ) → List (List ℕ)
behind [] = []
behind (p ∷ ps) = ps

onto_behind : (b : ℕ) (ps : List (List ℕ))
    → length (until_empty (behind (onto_first b ps))) ≤ length (until_empty (behind ps))
onto_behind b [] = search rules
onto_behind b (p ∷ ps) = search rules

onto_length : (b : ℕ) (ps : List (List ℕ))
    → length (until_empty (onto_first b ps)) ≤ suc (length (until_empty (behind ps)))
onto_length b [] = search rules
onto_length b (p ∷ ps) = search rules

-- no more lines than bytes, also without the first part
few : (text : List ℕ)
    → (length (lines_of text) ≤ length text) × (length (until_empty (behind (parts 10 text))) ≤ length text)
few [] = search rules
few (b ∷ bs) = go (b == 10) (few bs)
  where
    cut : Bool → List (List ℕ)
    cut c = cond c ([] ∷ parts 10 bs) (onto_first b (parts 10 bs))

    go : (c : Bool)
        → (length (lines_of bs) ≤ length bs) × (length (until_empty (behind (parts 10 bs))) ≤ length bs)
        → (length (until_empty (cut c)) ≤ suc (length bs)) × (length (until_empty (behind (cut c))) ≤ suc (length bs))
    go true shorter = (search rules, le_trans shorter.0 (search rules))
    go false shorter = (
      le_trans (onto_length b (parts 10 bs)) (omega (arith, shorter.1)),
      le_trans (onto_behind b (parts 10 bs)) (omega (arith, shorter.1)),
    )

small_from : (n : ℕ) (lines : List (List ℕ)) → n + length lines ≤ 100000
    → AllByRecursion (λ (line : ℕ × List ℕ). line.0 < 100000) (enumerate_from n lines)
small_from n [] below = tt
small_from n (line ∷ lines) below = (omega (arith, below), small_from (n + 1) lines (omega (arith, below)))

pub numbers_small : (text : List ℕ) → length text ≤ 65536
    → AllByRecursion (λ (line : ℕ × List ℕ). line.0 < 100000) (numbered_lines text)
numbers_small text short = small_from 1 (lines_of text) (omega (arith, (few text).0))
