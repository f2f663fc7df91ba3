-- A text, cut behind its first byte 10.
use Rattle.std.proofs.Common.{◌≡◌, ℕ, ◌+◌, ◌-◌, ◌≤◌, ◌<◌, ◌==◌, false, List, [], ◌∷◌, length, take, drop, Some, None}
use Rattle.std.proofs.Common.{All, ap, refl, ◌∙◌, arith}
use Rattle.std.specs.List.{position, position_or_len}
use Rattle.std.proofs.lemmas.List.Splits.{slice_split_first, slice_split_none}
use Rattle.std.proofs.lemmas.List.Quantifiers.{position-Some}
use Rattle.std.proofs.lemmas.List.Sums.{position_or_len_is, fails_before_first}
use Rattle.std.proofs.lemmas.List.{take_rest}
use Rattle.std.proofs.lemmas.Grind.{common_steps}
use Rattle.lines.specs.Texts.{parts, until_empty, lines_of}

-- with a byte 10, the first part ends there
pub cut_behind : (text : List ℕ) (end : ℕ) → position (λ b. b == 10) text ≡ Some end
    → lines_of text ≡ until_empty (take end text ∷ parts 10 (take (length text - (end + 1)) (drop (end + 1) text)))
cut_behind text end is =
    let found = position-Some (λ b. b == 10) text end 0 is in
    let inside : end < length text = found.0 in
    let first : position_or_len (λ b. b == 10) text ≡ end =
    position_or_len_is (λ b. b == 10) text end 0 (omega arith) found.2 (λ _. found.1) in
    rw take_rest (ap until_empty (
    slice_split_first (λ b. b == 10) text 0 (omega arith)
    ∙ ap (λ n. take n text ∷ parts 10 (drop (n + 1) text)) first))

-- with none, the text is the one part, and an empty part behind it makes no line
pub cut_nowhere : (text : List ℕ) → position (λ b. b == 10) text ≡ None
    → lines_of text ≡ until_empty (text ∷ parts 10 [])
cut_nowhere text is = ap until_empty (slice_split_none (λ b. b == 10) text lacks) ∙ alone text
  where
    behind : length text ≤ position_or_len (λ b. b == 10) text
    behind = grind (arith, common_steps)

    lacks : All (λ b. (b == 10) ≡ false) text
    lacks k d lt = fails_before_first (λ b. b == 10) text k d (omega (arith, behind))

    alone : (part : List ℕ) → until_empty (part ∷ []) ≡ until_empty (part ∷ [] ∷ [])
    alone [] = refl
    alone (b ∷ part) = refl
