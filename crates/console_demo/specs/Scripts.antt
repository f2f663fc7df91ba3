-- The calls of a script, and what they answer by an arrangement.
use Rattle.std.specs.Prelude.{ℕ, List, map, replicate, codes, Result}
use Rattle.lanes.specs.Lanes.{fresh_lane}
use Rattle.histories.specs.declared.Call.{Call}
use Rattle.runs.specs.declared.Answer.{Answer}
use Rattle.runs.specs.Entries.{answers_to}
use Rattle.checked_calls.specs.declared.calls.Arrangement.{Arrangement}
use Rattle.checked_calls.specs.Calls.{radix_of, precision_of, method_of}
use Rattle.console_demo.specs.declared.scripts.User.{User}
use Rattle.console_demo.specs.declared.scripts.User.TheVariants.{Filter, Desk, Referee}
use Rattle.console_demo.specs.declared.scripts.Said.{Said}

abbrev pub user_text : User → List ℕ
user_text Filter = codes "filter"
user_text Desk = codes "desk"
user_text Referee = codes "referee"

abbrev pub said_calls : List Said → List Call
said_calls script = map (λ (s : Said). s.call) script

-- the answers of a new console of the arrangement
abbrev pub answers_by : Arrangement → List Call → List (Result Answer ℕ)
answers_by by calls = answers_to (radix_of by) (precision_of by) (method_of by (radix_of by) (precision_of by))
    (replicate 10 (fresh_lane (radix_of by) (precision_of by))) calls
