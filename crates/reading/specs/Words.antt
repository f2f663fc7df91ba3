-- What a word reads as, by the grammar of numbers and lanes.
use Rattle.std.specs.Prelude.{ℕ, zero, suc, ℤ, pos, neg_ℤ, Bool, ◌+◌, ◌&&◌, ◌||◌, ◌==◌, nat_lt, if◌then◌else◌}
use Rattle.std.specs.Prelude.{List, length, take, drop, slice_index, position}
use Rattle.std.specs.Prelude.{Option, Some, None, option_and_then}
use Rattle.std.specs.Option.{option_map}
use Rattle.std.specs.Str.{all_ascii_digits}
use Rattle.std.specs.Str.Parse.{digits_value}
use Rattle.reading.specs.declared.Numeral.{Numeral}

-- the number that digits write, if all of the bytes are digits
unfoldable pub value_of : List ℕ → Option ℕ
value_of ds = if all_ascii_digits ds then Some (digits_value 10 ds) else None

-- no digits, or more than `most`, or a 0 before others
abbrev pub is_unfit : ℕ → List ℕ → Bool
is_unfit most ds = length ds == 0 || (nat_lt most (length ds) || (slice_index ds 0 == 48 && nat_lt 1 (length ds)))

-- one to `most` digits
unfoldable pub natural_of : ℕ → List ℕ → Option ℕ
natural_of most ds = if is_unfit most ds then None else value_of ds

-- what a minus makes of a number: no minus stands before 0
abbrev pub negative : ℕ → Option ℤ
negative zero = None
negative (suc n) = Some (neg_ℤ (pos (suc n)))

-- an optional minus, and one to `most` digits
unfoldable pub integer_of : ℕ → List ℕ → Option ℤ
integer_of most word =
    if slice_index word 0 == 45 then option_and_then negative (natural_of most (drop 1 word))
    else option_map pos (natural_of most word)

-- p or e
abbrev pub is_mark : ℕ → Bool
is_mark c = c == 112 || c == 101

-- a number of its mark and its two parts, if both are there
abbrev pub numeral : ℕ → Option ℤ → Option ℤ → Option Numeral
numeral mark None q = None
numeral mark (Some s) None = None
numeral mark (Some s) (Some q) = Some (record { figure = record { s = s; q = q }; mark = mark })

-- the number about the mark at the index i: up to eight digits before it, and up to four behind
unfoldable pub numeral_about : List ℕ → ℕ → Option Numeral
numeral_about word i =
    numeral (slice_index word i) (integer_of 8 (take i word)) (integer_of 4 (drop (i + 1) word))

-- a word reads as the number about its first mark
unfoldable pub numeral_of : List ℕ → Option Numeral
numeral_of word = option_and_then (numeral_about word) (position is_mark word)

-- one or two digits
unfoldable pub lane_of : List ℕ → Option ℕ
lane_of word = natural_of 2 word
