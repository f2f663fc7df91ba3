-- The names that a line begins with: of a kind, and of an operation.
use Rattle.std.specs.Prelude.{◌≡◌, ◌≢◌, IfSome, IfNone, ℕ, List, Some, None, Option, if◌then◌else◌, codes}
use Rattle.std.specs.Str.{bytes_eq}
use Rattle.operations.specs.declared.names.KindName.{KindName}
use Rattle.operations.specs.declared.names.KindName.TheVariants.{Binary, Decimal}
use Rattle.operations.specs.declared.names.Operation.{Operation}
use Rattle.operations.specs.declared.names.Operation.TheVariants.{Multiply, Add, Fused}

abbrev pub kind_name : KindName → List ℕ
kind_name Binary = codes "binary"
kind_name Decimal = codes "decimal"

abbrev pub operation_name : Operation → List ℕ
operation_name Multiply = codes "multiply"
operation_name Add = codes "add"
operation_name Fused = codes "fused"

-- the answer is the kind whose name the word is, and none where it is the name of no kind
pub record IsKindOf (word : List ℕ) (answer : Option KindName) : Type 0 where
  pub some : IfSome answer (λ kind. word ≡ kind_name kind)
  pub none : IfNone answer ((kind : KindName) → word ≢ kind_name kind)

-- the same of operations
pub record IsOperationOf (word : List ℕ) (answer : Option Operation) : Type 0 where
  pub some : IfSome answer (λ operation. word ≡ operation_name operation)
  pub none : IfNone answer ((operation : Operation) → word ≢ operation_name operation)

-- the kind that a word names, if any
unfoldable pub kind_of : List ℕ → Option KindName
kind_of word =
    if bytes_eq word (kind_name Binary) then Some Binary
    else if bytes_eq word (kind_name Decimal) then Some Decimal
    else None

-- the operation that a word names, if any
unfoldable pub operation_of : List ℕ → Option Operation
operation_of word =
    if bytes_eq word (operation_name Multiply) then Some Multiply
    else if bytes_eq word (operation_name Add) then Some Add
    else if bytes_eq word (operation_name Fused) then Some Fused
    else None
