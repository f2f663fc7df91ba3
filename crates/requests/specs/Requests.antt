-- The call that a line asks for, or what stops it. The line is tested as a whole, then its verb, then the number of
-- its words, then word after word from the left.
use Rattle.std.specs.Prelude.{ℕ, nat_lt, if◌then◌else◌, List, [], ◌∷◌, length, Some, None, Ok, Err, Option, Result}
use Rattle.lines.specs.Texts.{words_of}
use Rattle.rounding.specs.declared.Figure.{Figure}
use Rattle.rounding.specs.declared.Refusal.TheVariants.{LineTooLong, WordCount, UnknownVerb}
use Rattle.rounding.specs.Refusals.{number}
use Rattle.histories.specs.declared.Call.{Call}
use Rattle.histories.specs.declared.Call.TheVariants as call
use Rattle.requests.specs.declared.verb.Verb.{Verb}
use Rattle.requests.specs.declared.verb.Verb.TheVariants.{Sum, Determinant, Product, Turn, Restart, Read}
use Rattle.requests.specs.Faults.{Stop, placed, and_then}
use Rattle.requests.specs.Verbs.{verb_of}
use Rattle.requests.specs.Words.{figure_in, lane_in}

-- the figure of the word at a place
abbrev pub figure_at : ℕ → ℕ → List ℕ → Result Figure Stop
figure_at mark place word = placed place (figure_in mark word)

abbrev pub lane_at : ℕ → List ℕ → Result ℕ Stop
lane_at place word = placed place (lane_in word)

abbrev pub miscounted : {X : Type 0} → Result X Stop
miscounted = Err (number WordCount, 0)

-- four figures, the words 2 to 5 of a line
abbrev pub four : ℕ → List (List ℕ) → Result (Figure × Figure × Figure × Figure) Stop
four mark (a ∷ b ∷ c ∷ d ∷ []) =
    and_then (figure_at mark 2 a) (λ w. and_then (figure_at mark 3 b) (λ x. and_then (figure_at mark 4 c)
    (λ y. and_then (figure_at mark 5 d) (λ z. Ok (w, x, y, z)))))
four mark words = miscounted

-- a lane and two figures, the words 2 to 4
abbrev pub turn : ℕ → List (List ℕ) → Result Call Stop
turn mark (lane ∷ c ∷ d ∷ []) =
    and_then (lane_at 2 lane) (λ i. and_then (figure_at mark 3 c) (λ x. and_then (figure_at mark 4 d)
    (λ y. Ok (call.Turn i x y))))
turn mark words = miscounted

-- a lane alone, the word 2
abbrev pub one_lane : List (List ℕ) → Result ℕ Stop
one_lane (lane ∷ []) = lane_at 2 lane
one_lane words = miscounted

-- the call of a verb with the words behind it
abbrev pub call_of : ℕ → Verb → List (List ℕ) → Result Call Stop
call_of mark Sum words = and_then (four mark words) (λ f. Ok (call.Sum f.0 f.1 f.2 f.3))
call_of mark Determinant words = and_then (four mark words) (λ f. Ok (call.Determinant f.0 f.1 f.2 f.3))
call_of mark Product words = and_then (four mark words) (λ f. Ok (call.Product f.0 f.1 f.2 f.3))
call_of mark Turn words = turn mark words
call_of mark Restart words = and_then (one_lane words) (λ i. Ok (call.Restart i))
call_of mark Read words = and_then (one_lane words) (λ i. Ok (call.Read i))

abbrev pub by_verb : ℕ → Option Verb → List (List ℕ) → Result Call Stop
by_verb mark None words = Err (number UnknownVerb, 1)
by_verb mark (Some verb) words = call_of mark verb words

-- the call of a line's words
abbrev pub request_in : ℕ → List (List ℕ) → Result Call Stop
request_in mark [] = Err (number UnknownVerb, 1)
request_in mark (verb ∷ words) = by_verb mark (verb_of verb) words

-- the call that a line asks for under the mark of a kind
unfoldable pub request_of : ℕ → List ℕ → Result Call Stop
request_of mark line = if nat_lt 80 (length line) then Err (number LineTooLong, 0) else request_in mark (words_of line)
