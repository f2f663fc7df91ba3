-- Ten lanes as a list of records.
use Rattle.std.specs.Prelude.{ℕ, if◌then◌else◌, List, Some, None, Option, nat_lt, replicate, slice_index_or, slice_set}
use Rattle.rounding.specs.Rounding.{zero_figure}
use Rattle.phasors.specs.Phasors.{unit}
use Rattle.lanes.specs.declared.Lane.{Lane}

-- the record at i, of a list that has one there
abbrev pub at : List Lane → ℕ → Lane
at ls i = slice_index_or ls i (record { phasor = record { real = zero_figure; imaginary = zero_figure }; count = 0 })

-- the lane numbered i, if there is one
abbrev pub found : List Lane → ℕ → Option Lane
found ls i = if nat_lt i 10 then Some (at ls i) else None

-- the lanes with l in the place of the one numbered i, if there is one
abbrev pub put : List Lane → ℕ → Lane → List Lane
put ls i l = if nat_lt i 10 then slice_set ls i l else ls

-- one and zero, not yet turned
abbrev pub fresh_lane : ℕ → ℕ → Lane
fresh_lane β p = record { phasor = unit β p; count = 0 }

-- the lanes of a new console
abbrev pub fresh_lanes : ℕ → ℕ → List Lane
fresh_lanes β p = replicate 10 (fresh_lane β p)
