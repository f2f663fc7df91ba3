-- Six words tell what a line is answered, since no operation has more than three behind its name.
use Rattle.std.proofs.Common.{◌≡◌, ℕ, List, [], ◌∷◌, take, Some, None, Option, refl, ap}
use Rattle.operations.specs.declared.names.Operation.{Operation}
use Rattle.operations.specs.declared.names.Operation.TheVariants.{Multiply, Add, Fused}
use Rattle.operations.specs.declared.names.KindName.{KindName}
use Rattle.operations.specs.declared.names.KindName.TheVariants.{Binary, Decimal}
use Rattle.operations.specs.Names.{kind_of, operation_of}
use Rattle.operations.specs.Operations.{answered, operation_text, outcome_text, named_text, words_text}

four_behind : (β p mark : ℕ) (operation : Operation) (words : List (List ℕ))
    → answered β p mark operation (take 4 words) ≡ answered β p mark operation words
four_behind β p mark operation [] = refl
four_behind β p mark operation (a ∷ []) = refl
four_behind β p mark operation (a ∷ b ∷ []) = refl
four_behind β p mark operation (a ∷ b ∷ c ∷ []) = refl
four_behind β p mark Multiply (a ∷ b ∷ c ∷ d ∷ words) = refl
four_behind β p mark Add (a ∷ b ∷ c ∷ d ∷ words) = refl
four_behind β p mark Fused (a ∷ b ∷ c ∷ d ∷ words) = refl

named : (β p mark : ℕ) (operation : Option Operation) (words : List (List ℕ))
    → operation_text β p mark operation (take 4 words) ≡ operation_text β p mark operation words
named β p mark None words = refl
named β p mark (Some operation) words = ap (outcome_text mark) (four_behind β p mark operation words)

of_kind : (kind : Option KindName) (name : List ℕ) (words : List (List ℕ))
    → named_text kind name (take 4 words) ≡ named_text kind name words
of_kind None name words = refl
of_kind (Some Binary) name words = named 2 24 112 (operation_of name) words
of_kind (Some Decimal) name words = named 10 7 101 (operation_of name) words

pub six_words : (words : List (List ℕ)) → words_text (take 6 words) ≡ words_text words
six_words [] = refl
six_words (kind ∷ []) = refl
six_words (kind ∷ name ∷ words) = of_kind (kind_of kind) name words
