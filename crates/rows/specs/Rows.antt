-- What a row asks for.
use Rattle.std.specs.Prelude.{ℕ, if◌then◌else◌, ◌==◌, List, Some, None, Option, filter_map}
use Rattle.std.specs.Option.{option_map}
use Rattle.histories.specs.declared.Call.{Call}
use Rattle.histories.specs.declared.Call.TheVariants as call
use Rattle.rows.specs.declared.Row.{Row}
use Rattle.rows.specs.declared.verbs.Verb.{Verb}
use Rattle.rows.specs.declared.verbs.Verb.TheVariants.{Sum, Determinant, Product}

-- the codes
abbrev pub verb_of : ℕ → Option Verb
verb_of n =
    if n == 1 then Some Sum else if n == 2 then Some Determinant else if n == 3 then Some Product else None

-- a verb with the operands of a row
abbrev pub call_by : Row → Verb → Call
call_by r Sum = call.Sum r.a r.b r.c r.d
call_by r Determinant = call.Determinant r.a r.b r.c r.d
call_by r Product = call.Product r.a r.b r.c r.d

-- the call of a console that the row stands for; none where its code is unknown
abbrev pub call_of : Row → Option Call
call_of r = option_map (call_by r) (verb_of r.code)

-- the calls of the rows, in order
abbrev pub calls_of_rows : List Row → List Call
calls_of_rows rs = filter_map call_of rs
