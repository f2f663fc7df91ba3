-- The one way to cut a text at a byte, and its lines.
use Rattle.std.proofs.Common.{◌≡◌, ◌≢◌, ℕ, ◌==◌, Bool, true, false, cond, List, [], ◌∷◌, All, ap, refl, sym, ◌∙◌}
use Rattle.std.proofs.Common.{arith}
use Rattle.std.specs.List.{onto_first, join_with_byte}
use Rattle.std.proofs.lemmas.List.Splits.{slice_split_at, slice_split_none, length-slice_split}
use Rattle.std.proofs.lemmas.List.Splits.{join_with_byte-slice_split}
use Rattle.std.proofs.lemmas.List.Elements.{All-nil, All-cons, All-head, All-tail}
use Rattle.std.proofs.lemmas.Bool.Decides.{nat_tests}
use Rattle.lines.specs.Texts.{parts, until_empty}
use Rattle.lines.specs.Laws.{Lacks, IsCut, PartsLaw, IsLine, LinesLaw}

module _ (byte : ℕ) where
  -- a byte that a list lacks, as the test says it
  fails : (bytes : List ℕ) → Lacks byte bytes → All (λ b. (b == byte) ≡ false) bytes
  fails bytes lacks k d inside =
      let other = lacks k d inside in grind (arith, nat_tests)

  same : (byte == byte) ≡ true
  same = grind (arith, nat_tests)

  -- a byte before the first part
  onto_lacks : (x : ℕ) (ps : List (List ℕ)) → x ≢ byte → All (Lacks byte) ps → All (Lacks byte) (onto_first x ps)
  onto_lacks x [] other lacks =
      All-cons (Lacks byte) (x ∷ []) [] (All-cons (λ b. b ≢ byte) x [] other (All-nil (λ b. b ≢ byte)))
      (All-nil (Lacks byte))
  onto_lacks x (p ∷ ps) other lacks =
      All-cons (Lacks byte) (x ∷ p) ps (All-cons (λ b. b ≢ byte) x p other (All-head (Lacks byte) p ps lacks))
      (All-tail (Lacks byte) p ps lacks)

  -- or a new first part where it is the byte
  parted_lack : (x : ℕ) (ps : List (List ℕ)) (b : Bool) → (x == byte) ≡ b → All (Lacks byte) ps
      → All (Lacks byte) (cond b ([] ∷ ps) (onto_first x ps))
  parted_lack x ps true is lacks = All-cons (Lacks byte) [] ps (All-nil (λ b. b ≢ byte)) lacks
  parted_lack x ps false is lacks = onto_lacks x ps (grind (arith, nat_tests)) lacks

  pub parts_lack : (text : List ℕ) → All (Lacks byte) (parts byte text)
  parts_lack [] = All-cons (Lacks byte) [] [] (All-nil (λ b. b ≢ byte)) (All-nil (Lacks byte))
  parts_lack (x ∷ text) = parted_lack x (parts byte text) (x == byte) refl (parts_lack text)

  -- parts that lack the byte, joined by it and cut again
  parts_again : (p : List ℕ) (ps : List (List ℕ)) → All (Lacks byte) (p ∷ ps)
      → parts byte (join_with_byte byte (p ∷ ps)) ≡ p ∷ ps
  parts_again p [] lacks = slice_split_none (λ b. b == byte) p (fails p (All-head (Lacks byte) p [] lacks))
  parts_again p (q ∷ ps) lacks =
      slice_split_at (λ b. b == byte) p byte (join_with_byte byte (q ∷ ps))
      (fails p (All-head (Lacks byte) p (q ∷ ps) lacks)) same
      ∙ ap (λ more. p ∷ more) (parts_again q ps (All-tail (Lacks byte) p (q ∷ ps) lacks))

  cut_alone : (text : List ℕ) (ps : List (List ℕ)) → IsCut byte text ps → ps ≡ parts byte text
  cut_alone text [] cut = absurd (omega (arith, cut.some))
  cut_alone text (p ∷ ps) cut = sym (parts_again p ps cut.apart) ∙ ap (parts byte) cut.joined

pub parts_law : PartsLaw
parts_law = record {
  cuts = λ byte text. record {
    some = omega (arith, length-slice_split (λ b. b == byte) text);
    apart = parts_lack byte text;
    joined = join_with_byte-slice_split byte text;
  };
  alone = cut_alone;
}

-- what stands before the first empty part
until_empty_lines : (ps : List (List ℕ)) → All (Lacks 10) ps → All IsLine (until_empty ps)
until_empty_lines [] lacks = All-nil IsLine
until_empty_lines ([] ∷ ps) lacks = All-nil IsLine
until_empty_lines ((b ∷ p) ∷ ps) lacks =
    All-cons IsLine (b ∷ p) (until_empty ps) (omega arith, All-head (Lacks 10) (b ∷ p) ps lacks)
    (until_empty_lines ps (All-tail (Lacks 10) (b ∷ p) ps lacks))

-- a line is no empty part
line_first : (line : List ℕ) (ps : List (List ℕ)) → IsLine line → until_empty (line ∷ ps) ≡ line ∷ until_empty ps
line_first [] ps is = absurd (omega (arith, is.0))
line_first (b ∷ line) ps is = refl

pub lines_law : LinesLaw
lines_law = record {
  none = refl;
  stop = λ unread. refl;
  last = λ line is. ap until_empty (slice_split_none (λ b. b == 10) line (fails 10 line is.1))
      ∙ line_first line [] is;
  next = λ line text is.
      ap until_empty (slice_split_at (λ b. b == 10) line 10 text (fails 10 line is.1) refl)
      ∙ line_first line (parts 10 text) is;
  each = λ text. until_empty_lines (parts 10 text) (parts_lack 10 text);
}
