-- What stops a row: the number of a refusal and the place of the word at fault. The verb is word 1; 0 is no word.
use Rattle.std.specs.Prelude.{ℕ, Ok, Err, Result}
use Rattle.rounding.specs.Refusals.{number}
use Rattle.requests.specs.declared.fault.Fault.{Fault}

abbrev pub Stop : Type 0
Stop = ℕ × ℕ

abbrev pub stop : Fault → Stop
stop fault = (number fault.refusal, fault.place)

-- an answer, with the number and the place of what stopped it
abbrev pub stopped : {X : Type 0} → Result X Fault → Result X Stop
stopped (Ok x) = Ok x
stopped (Err fault) = Err (stop fault)

-- what was read of the word at a place, with that place where it is refused
abbrev pub placed : {X : Type 0} → ℕ → Result X ℕ → Result X Stop
placed place (Ok x) = Ok x
placed place (Err refusal) = Err (refusal, place)

-- one word after another, unless the first is at fault
abbrev pub and_then : {X Y : Type 0} → Result X Stop → (X → Result Y Stop) → Result Y Stop
and_then (Ok x) next = next x
and_then (Err s) next = Err s
