-- Six words tell which call a line asks for, since no verb has more than four behind it.
use Rattle.std.proofs.Common.{◌≡◌, ℕ, List, [], ◌∷◌, take, Some, None, Option, refl}
use Rattle.requests.specs.declared.verb.Verb.{Verb}
use Rattle.requests.specs.declared.verb.Verb.TheVariants.{Sum, Determinant, Product, Turn, Restart, Read}
use Rattle.requests.specs.Requests.{call_of, by_verb, request_in}
use Rattle.requests.specs.Verbs.{verb_of}

five_behind : (mark : ℕ) (verb : Verb) (words : List (List ℕ))
    → call_of mark verb (take 5 words) ≡ call_of mark verb words
five_behind mark verb [] = refl
five_behind mark verb (a ∷ []) = refl
five_behind mark verb (a ∷ b ∷ []) = refl
five_behind mark verb (a ∷ b ∷ c ∷ []) = refl
five_behind mark verb (a ∷ b ∷ c ∷ d ∷ []) = refl
five_behind mark Sum (a ∷ b ∷ c ∷ d ∷ e ∷ words) = refl
five_behind mark Determinant (a ∷ b ∷ c ∷ d ∷ e ∷ words) = refl
five_behind mark Product (a ∷ b ∷ c ∷ d ∷ e ∷ words) = refl
five_behind mark Turn (a ∷ b ∷ c ∷ d ∷ e ∷ words) = refl
five_behind mark Restart (a ∷ b ∷ c ∷ d ∷ e ∷ words) = refl
five_behind mark Read (a ∷ b ∷ c ∷ d ∷ e ∷ words) = refl

behind : (mark : ℕ) (verb : Option Verb) (words : List (List ℕ))
    → by_verb mark verb (take 5 words) ≡ by_verb mark verb words
behind mark None words = refl
behind mark (Some verb) words = five_behind mark verb words

pub six_words : (mark : ℕ) (words : List (List ℕ)) → request_in mark (take 6 words) ≡ request_in mark words
six_words mark [] = refl
six_words mark (verb ∷ words) = behind mark (verb_of verb) words
