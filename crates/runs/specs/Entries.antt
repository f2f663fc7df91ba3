-- Lists of calls with their answers.
use Rattle.std.specs.Prelude.{ℕ, List, [], ◌∷◌, map, Err, Result}
use Rattle.rounding.specs.declared.Refusal.TheVariants.{NoLane}
use Rattle.rounding.specs.Refusals.{coded}
use Rattle.bounds.specs.Methods.{Function}
use Rattle.lanes.specs.declared.Lane.{Lane}
use Rattle.histories.specs.declared.Call.{Call}
use Rattle.histories.specs.Histories.{Event, History}
use Rattle.histories.specs.Tracking.{TrackHistory, event}
use Rattle.runs.specs.declared.Answer.{Answer}
use Rattle.runs.specs.declared.Entry.{Entry}
use Rattle.runs.specs.Answers.{answer_to, lanes_after}
use Rattle.runs.specs.Following.{Follows}

-- a call that is yet to be made
abbrev pub unmade : Call → Entry
unmade call = record { call = call; answer = Err NoLane }

abbrev pub calls_of : List Entry → List Call
calls_of es = map (λ (e : Entry). e.call) es

abbrev pub answers_of : List Entry → List (Result Answer ℕ)
answers_of es = map (λ (e : Entry). coded e.answer) es

-- the answers to a list of calls, made one after the other
abbrev pub answers_to : ℕ → ℕ → Function → List Lane → List Call → List (Result Answer ℕ)
answers_to β p m ls [] = []
answers_to β p m ls (c ∷ cs) = answer_to β p m ls c ∷ answers_to β p m (lanes_after β p m ls c) cs

-- the lanes after all of them
abbrev pub lanes_after_all : ℕ → ℕ → Function → List Lane → List Call → List Lane
lanes_after_all β p m ls [] = ls
lanes_after_all β p m ls (c ∷ cs) = lanes_after_all β p m (lanes_after β p m ls c) cs

-- the history h, and after it these calls with what they answer
abbrev pub history_after : ℕ → ℕ → Function → List Lane → List Call → History → History
history_after β p m ls [] h = h
history_after β p m ls (c ∷ cs) h =
    history_after β p m (lanes_after β p m ls c) cs (event c (answer_to β p m ls c) ∷ h)

-- whatever history the lanes tracked before these calls, afterwards they track that history with the calls
pub record AllKeepTrack (β p N D : ℕ) (m : Function) (ls : List Lane) (calls : List Call) : Type 0 where
  pub keep : (h : History) → TrackHistory β p N D h ls
      → TrackHistory β p N D (history_after β p m ls calls h) (lanes_after_all β p m ls calls)

-- an entry as an event
abbrev pub recorded : Entry → Event
recorded e = event e.call (coded e.answer)

-- the history h, and after it the calls of the entries
abbrev pub history_of : List Entry → History → History
history_of [] h = h
history_of (e ∷ es) h = history_of es (recorded e ∷ h)

-- every answer follows from the history h and the calls before it
abbrev pub AllFollow : ℕ → ℕ → ℕ → ℕ → Function → History → List Entry → Type 0
AllFollow β p N D m h [] = Unit {0}
AllFollow β p N D m h (e ∷ es) =
    Follows β p N D m h e.call (coded e.answer) × AllFollow β p N D m (recorded e ∷ h) es

-- a run on a new console: at its end the lanes track the history of all its calls, and every answer follows from the
-- calls before it
pub record RunTracked (β p N D : ℕ) (m : Function) (es : List Entry) (ls : List Lane) : Type 0 where
  pub lanes : TrackHistory β p N D (history_of es []) ls
  pub answers : AllFollow β p N D m [] es
