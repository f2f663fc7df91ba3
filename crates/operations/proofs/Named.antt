-- A word is the name of at most one kind, and of at most one operation.
use Rattle.std.proofs.Common.{◌≡◌, ◌≢◌, ℕ, Bool, true, false, List, Some, None, Option, refl}
use Rattle.std.specs.Bool.{Decides}
use Rattle.std.specs.Str.{bytes_eq}
use Rattle.std.proofs.lemmas.Slice.Eq.{bytes_eq-Decides}
use Rattle.operations.specs.declared.names.KindName.{KindName}
use Rattle.operations.specs.declared.names.KindName.TheVariants.{Binary, Decimal}
use Rattle.operations.specs.declared.names.Operation.{Operation}
use Rattle.operations.specs.declared.names.Operation.TheVariants.{Multiply, Add, Fused}
use Rattle.operations.specs.Names.{kind_name, operation_name, IsKindOf, IsOperationOf, kind_of, operation_of}

unnamed : {P : Type 0} (test : Bool) → Decides test P → (P → ⊥) → test ≡ false
unnamed true holds not = absurd (not (holds.0 refl))
unnamed false holds not = refl

kind_named_by : (kind : KindName) → Some kind ≡ kind_of (kind_name kind)
unfolding kind_of
kind_named_by Binary = refl
kind_named_by Decimal = refl

no_kind_named : (word : List ℕ) → ((kind : KindName) → word ≢ kind_name kind) → None ≡ kind_of word
unfolding kind_of
no_kind_named word none = rw (differs Binary) rw (differs Decimal) refl
  where
    differs : (kind : KindName) → bytes_eq word (kind_name kind) ≡ false
    differs kind = unnamed _ (bytes_eq-Decides word (kind_name kind)) (none kind)

pub kind_named : (word : List ℕ) (answer : Option KindName) → IsKindOf word answer → answer ≡ kind_of word
kind_named word (Some kind) is = rw is.some (kind_named_by kind)
kind_named word None is = no_kind_named word is.none

operation_named_by : (operation : Operation) → Some operation ≡ operation_of (operation_name operation)
unfolding operation_of
operation_named_by Multiply = refl
operation_named_by Add = refl
operation_named_by Fused = refl

no_operation_named : (word : List ℕ) → ((operation : Operation) → word ≢ operation_name operation)
    → None ≡ operation_of word
unfolding operation_of
no_operation_named word none = rw (differs Multiply) rw (differs Add) rw (differs Fused) refl
  where
    differs : (operation : Operation) → bytes_eq word (operation_name operation) ≡ false
    differs operation = unnamed _ (bytes_eq-Decides word (operation_name operation)) (none operation)

pub operation_named : (word : List ℕ) (answer : Option Operation) → IsOperationOf word answer
    → answer ≡ operation_of word
operation_named word (Some operation) is = rw is.some (operation_named_by operation)
operation_named word None is = no_operation_named word is.none
