-- What a row of a batch answers, and the lanes that it leaves.
use Rattle.std.specs.Prelude.{ℕ, List, [], ◌∷◌, Ok, Err, Result}
use Rattle.bounds.specs.Methods.{Function}
use Rattle.lanes.specs.declared.Lane.{Lane}
use Rattle.histories.specs.declared.Call.{Call}
use Rattle.runs.specs.declared.Answer.{Answer}
use Rattle.runs.specs.Answers.{answer_to, lanes_after}
use Rattle.requests.specs.Faults.{Stop, and_then}
use Rattle.requests.specs.Requests.{request_of}
use Rattle.batch.specs.Places.{place_of}

-- an answer, with the place of the word at fault where the call was refused
abbrev pub located : ℕ → ℕ → Call → Result Answer ℕ → Result Answer Stop
located β p call (Ok answer) = Ok answer
located β p call (Err refusal) = Err (refusal, place_of β p call refusal)

-- the answer to a line of a console that holds the lanes ls
abbrev pub row_answer : ℕ → ℕ → ℕ → Function → List Lane → List ℕ → Result Answer Stop
row_answer β p mark m ls line =
    and_then (request_of mark line) (λ call. located β p call (answer_to β p m ls call))

-- the calls that a line makes: one, unless the line itself is at fault
abbrev pub asked : Result Call Stop → List Call
asked (Ok call) = call ∷ []
asked (Err s) = []

abbrev pub lanes_left : ℕ → ℕ → Function → List Lane → Result Call Stop → List Lane
lanes_left β p m ls (Ok call) = lanes_after β p m ls call
lanes_left β p m ls (Err s) = ls

-- the lanes after a line
abbrev pub row_lanes : ℕ → ℕ → ℕ → Function → List Lane → List ℕ → List Lane
row_lanes β p mark m ls line = lanes_left β p m ls (request_of mark line)
