-- The numbers of the refusals, and how an answer is told by them: first what is at fault, then the value. Contracts
-- compare refusals by these numbers, since they are what tables and reports show.
use Rattle.std.specs.Prelude.{ℕ, Some, None, Ok, Err, Option, Result}
use Rattle.rounding.specs.declared.Refusal.{Refusal}
use Rattle.rounding.specs.declared.Refusal.TheVariants.{NoFigure, ResultRange, OperandNoFigure, OperandRange}
use Rattle.rounding.specs.declared.Refusal.TheVariants.{NoLane, LaneFull, PhasorRange}
use Rattle.rounding.specs.declared.Refusal.TheVariants.{LineTooLong, WordCount, UnknownVerb, NoNumber, OtherMark}

abbrev pub number : Refusal → ℕ
number NoFigure = 11
number ResultRange = 12
number OperandNoFigure = 21
number OperandRange = 22
number NoLane = 31
number LaneFull = 32
number PhasorRange = 33
number LineTooLong = 41
number WordCount = 42
number UnknownVerb = 43
number NoNumber = 44
number OtherMark = 45

-- a call's answer, with the number of its refusal
abbrev pub coded : {X : Type 0} → Result X Refusal → Result X ℕ
coded (Ok x) = Ok x
coded (Err e) = Err (number e)

-- what a test finds at fault, with its number
abbrev pub fault_of : Result (Unit {0}) Refusal → Option ℕ
fault_of (Ok _) = None
fault_of (Err e) = Some (number e)

-- the first of two faults
abbrev pub first : Option ℕ → Option ℕ → Option ℕ
first (Some e) _ = Some e
first None o = o

-- the value, unless something is at fault
abbrev pub unless : {X : Type 0} → Option ℕ → X → Result X ℕ
unless (Some e) x = Err e
unless None x = Ok x

-- one call after another, unless the first was refused
abbrev pub after : {X Y : Type 0} → Result X ℕ → (X → Result Y ℕ) → Result Y ℕ
after (Ok x) next = next x
after (Err e) next = Err e

-- what a call leaves of a state: the old where something is at fault, else the new
abbrev pub kept : {X : Type 0} → Option ℕ → X → X → X
kept (Some e) old new = old
kept None old new = new
