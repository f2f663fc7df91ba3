-- The kept words and the parts from the next word's start on are the line's words, and no space stands from there to
-- the index.
use Rattle.std.proofs.Common.{◌≡◌, ◌≢◌, ◌≤◌, ◌<◌, ◌++◌, ℕ, map, drop, get_or}
use Rattle.arrayvec.specs.ArrayVec.{array_vec_len}
use Rattle.lines.specs.Texts.{parts, words_of}
use Rattle.lines.proofs.words.Given as goal

abbrev pub invariant-loop-index : goal.invariant-loop-index
invariant-loop-index l = record {
  order : l.start ≤ l.index;
  room : array_vec_len l.words ≤ 6;
  cut : map (λ word. word.now) l.words.items ++ parts 32 (drop l.start l.line) ≡ words_of l.line;
  spaceless : (k : ℕ) → l.start ≤ k → k < l.index → get_or l.line k 0 ≢ 32;
}
