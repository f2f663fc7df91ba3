-- The verbs of a line, and how each is spelled.
use Rattle.std.specs.Prelude.{◌≡◌, ◌≢◌, IfSome, IfNone, ℕ, List, Some, None, Option, if◌then◌else◌, codes}
use Rattle.std.specs.Str.{bytes_eq}
use Rattle.requests.specs.declared.verb.Verb.{Verb}
use Rattle.requests.specs.declared.verb.Verb.TheVariants.{Sum, Determinant, Product, Turn, Restart, Read}

abbrev pub verb_text : Verb → List ℕ
verb_text Sum = codes "sum"
verb_text Determinant = codes "det"
verb_text Product = codes "mul"
verb_text Turn = codes "turn"
verb_text Restart = codes "restart"
verb_text Read = codes "read"

-- the answer is the verb whose text the word is, and none where it is the text of no verb
pub record IsVerbOf (word : List ℕ) (answer : Option Verb) : Type 0 where
  pub some : IfSome answer (λ verb. word ≡ verb_text verb)
  pub none : IfNone answer ((verb : Verb) → word ≢ verb_text verb)

-- the verb that a word spells, if any
unfoldable pub verb_of : List ℕ → Option Verb
verb_of word =
    if bytes_eq word (verb_text Sum) then Some Sum
    else if bytes_eq word (verb_text Determinant) then Some Determinant
    else if bytes_eq word (verb_text Product) then Some Product
    else if bytes_eq word (verb_text Turn) then Some Turn
    else if bytes_eq word (verb_text Restart) then Some Restart
    else if bytes_eq word (verb_text Read) then Some Read
    else None
