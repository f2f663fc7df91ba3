-- A word spells at most one verb.
use Rattle.std.proofs.Common.{◌≡◌, ◌≢◌, ℕ, Bool, true, false, List, Some, None, Option, refl}
use Rattle.std.specs.Bool.{Decides}
use Rattle.std.specs.Str.{bytes_eq}
use Rattle.std.proofs.lemmas.Slice.Eq.{bytes_eq-Decides}
use Rattle.requests.specs.declared.verb.Verb.{Verb}
use Rattle.requests.specs.declared.verb.Verb.TheVariants.{Sum, Determinant, Product, Turn, Restart, Read}
use Rattle.requests.specs.Verbs.{verb_text, IsVerbOf, verb_of}

unspelled : {P : Type 0} (test : Bool) → Decides test P → (P → ⊥) → test ≡ false
unspelled true holds not = absurd (not (holds.0 refl))
unspelled false holds not = refl

spelled_by : (verb : Verb) → Some verb ≡ verb_of (verb_text verb)
unfolding verb_of
spelled_by Sum = refl
spelled_by Determinant = refl
spelled_by Product = refl
spelled_by Turn = refl
spelled_by Restart = refl
spelled_by Read = refl

-- what spells no verb is told so
pub none_spelled : (word : List ℕ) → ((verb : Verb) → word ≢ verb_text verb) → None ≡ verb_of word
unfolding verb_of
none_spelled word none =
    rw (differs Sum) rw (differs Determinant) rw (differs Product) rw (differs Turn) rw (differs Restart)
    rw (differs Read) refl
  where
    differs : (verb : Verb) → bytes_eq word (verb_text verb) ≡ false
    differs verb = unspelled _ (bytes_eq-Decides word (verb_text verb)) (none verb)

pub verb_told : (word : List ℕ) (answer : Option Verb) → IsVerbOf word answer → answer ≡ verb_of word
verb_told word (Some verb) told = rw told.some (spelled_by verb)
verb_told word None told = none_spelled word told.none
