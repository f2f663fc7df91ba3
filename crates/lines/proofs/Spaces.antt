-- A line, cut at its spaces.
use Rattle.std.proofs.Common.{◌≡◌, ◌≢◌, ℕ, ◌+◌, ◌-◌, ◌≤◌, ◌<◌, ◌==◌, true, false, List, [], ◌∷◌, ◌++◌, length, take}
use Rattle.std.proofs.Common.{drop, get_or, All, ap, refl, ◌∙◌, arith, append_assoc}
use Rattle.std.specs.List.{position_or_len}
use Rattle.std.proofs.lemmas.List.Splits.{slice_split_first, slice_split_none}
use Rattle.std.proofs.lemmas.List.Sums.{position_or_len_is}
use Rattle.std.proofs.lemmas.List.{get_or-drop, map-append, take_at, take_rest, take_all, length-map}
use Rattle.std.proofs.lemmas.Bool.Decides.{nat_tests}
use Rattle.std.proofs.lemmas.Grind.{common_steps}
use Rattle.lines.specs.Texts.{parts}

-- no space stands from one place to another
abbrev pub Spaceless : List ℕ → ℕ → ℕ → Type 0
Spaceless line start end = (k : ℕ) → start ≤ k → k < end → get_or line k 0 ≢ 32

-- a stretch without spaces is a word where a space stands behind it
pub word_ends : (line : List ℕ) (start end : ℕ) → start ≤ end → end < length line → get_or line end 0 ≡ 32
    → Spaceless line start end
    → parts 32 (drop start line) ≡ take (end - start) (drop start line) ∷ parts 32 (drop (end + 1) line)
word_ends line start end order inside space spaceless =
    slice_split_first (λ b. b == 32) (drop start line) 0 (grind (arith, common_steps, first))
    ∙ ap (λ n. take n (drop start line) ∷ parts 32 (drop (n + 1) (drop start line))) first
    ∙ ap (λ text. take (end - start) (drop start line) ∷ parts 32 text) behind
  where
    fails : (k : ℕ) → k < end - start → (get_or (drop start line) k 0 == 32) ≡ false
    fails k below =
        let other : get_or line (start + k) 0 ≢ 32 = spaceless (start + k) (omega arith) (omega arith) in
        rw get_or-drop (grind (arith, nat_tests))

    passes : (get_or (drop start line) (end - start) 0 == 32) ≡ true
    passes =
        let there : start + (end - start) ≡ end = omega arith in
        rw (get_or-drop, there) (grind (arith, nat_tests))

    first : position_or_len (λ b. b == 32) (drop start line) ≡ end - start
    first = position_or_len_is (λ b. b == 32) (drop start line) (end - start) 0 (grind (arith, common_steps)) fails
        (λ _. passes)

    behind : drop (end - start + 1) (drop start line) ≡ drop (end + 1) line
    behind = grind (arith, common_steps)

-- and where the line ends there
pub last_word : (line : List ℕ) (start : ℕ) → Spaceless line start (length line)
    → parts 32 (drop start line) ≡ drop start line ∷ []
last_word line start spaceless = slice_split_none (λ b. b == 32) (drop start line) lacks
  where
    lacks : All (λ b. (b == 32) ≡ false) (drop start line)
    lacks k d below =
        let inside : start + k < length line = grind (arith, common_steps) in
        let other : get_or line (start + k) 0 ≢ 32 = spaceless (start + k) (omega arith) inside in
        let same : get_or line (start + k) d ≡ get_or line (start + k) 0 = grind (arith, common_steps) in
        rw (get_or-drop, same) (grind (arith, nat_tests))

-- six words are all that is kept
pub six_kept : (kept rest : List (List ℕ)) → length kept ≡ 6
    → (kept ++ rest ≡ kept ++ rest) × (take 6 (kept ++ rest) ≡ kept)
six_kept kept rest six = (refl, take_at kept rest 6 six)

-- fewer leave room for the last
pub last_kept : (kept : List (List ℕ)) (last : List ℕ) → length kept < 6
    → (kept ++ last ∷ [] ≡ kept ++ last ∷ []) × (take 6 (kept ++ last ∷ []) ≡ kept ++ last ∷ [])
last_kept kept last fewer = (refl, take_all 6 (kept ++ last ∷ []) (grind (arith, common_steps)))

pub ruleset words_end = (word_ends, last_word, six_kept, last_kept)

pub ruleset cutting = (arith, nat_tests, words_end, map-append, append_assoc, take_rest, length-map)
