-- What it is to cut a text, with no word of how it is done.
use Rattle.std.specs.Prelude.{◌≡◌, ◌≢◌, ℕ, ◌<◌, List, [], ◌∷◌, ◌++◌, length, All}
use Rattle.std.specs.List.{join_with_byte}
use Rattle.lines.specs.Texts.{parts, lines_of}

-- no byte of a list is this one
abbrev pub Lacks : ℕ → List ℕ → Type 0
Lacks byte bytes = All (λ b. b ≢ byte) bytes

-- a text cut at a byte: there is a part, no part has the byte, and joined by it they give the text
pub record IsCut (byte : ℕ) (text : List ℕ) (ps : List (List ℕ)) : Type 0 where
  pub some : 0 < length ps
  pub apart : All (Lacks byte) ps
  pub joined : join_with_byte byte ps ≡ text

-- `parts` cuts a text at a byte, and no other list of parts does
pub record PartsLaw : Type 0 where
  pub cuts : (byte : ℕ) (text : List ℕ) → IsCut byte text (parts byte text)
  pub alone : (byte : ℕ) (text : List ℕ) (ps : List (List ℕ)) → IsCut byte text ps → ps ≡ parts byte text

-- a line: some bytes, and none of them is 10
abbrev pub IsLine : List ℕ → Type 0
IsLine line = (0 < length line) × Lacks 10 line

-- The lines of every text, since each is of one of these four kinds: an empty one, one that begins with byte 10, which
-- ends the batch, a last line that lacks byte 10, or a line with byte 10 behind it, and more text.
pub record LinesLaw : Type 0 where
  pub none : lines_of [] ≡ []
  pub stop : (unread : List ℕ) → lines_of (10 ∷ unread) ≡ []
  pub last : (line : List ℕ) → IsLine line → lines_of line ≡ line ∷ []
  pub next : (line text : List ℕ) → IsLine line → lines_of (line ++ 10 ∷ text) ≡ line ∷ lines_of text
  pub each : (text : List ℕ) → All IsLine (lines_of text)
