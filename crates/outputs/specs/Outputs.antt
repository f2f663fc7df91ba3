-- What a program writes for a text.
use Rattle.std.specs.Prelude.{ℕ, List, [], ◌++◌, codes}
use Rattle.bounds.specs.Methods.{Function}
use Rattle.lanes.specs.Lanes.{fresh_lanes}
use Rattle.batch.specs.declared.ending.End.{End}
use Rattle.batch.specs.declared.ending.End.TheVariants.{Done, ReportFull, TextTooLong}
use Rattle.batch.specs.Batches.{Ran, run_batch}

-- the line that closes the output of a batch that did not run to its end
abbrev pub closing : End → List ℕ
closing Done = []
closing ReportFull = codes "0 no 51 0\n"
closing TextTooLong = codes "0 no 61 0\n"

-- the batch of a text on a new console, with 65,536 bytes for its report
abbrev pub fresh_batch : ℕ → ℕ → ℕ → Function → List ℕ → Ran
fresh_batch β p mark m text = run_batch β p mark m 65536 (fresh_lanes β p) text

-- a report and its closing line
abbrev pub output_of : Ran → List ℕ
output_of r = r.text ++ closing r.end
