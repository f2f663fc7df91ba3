-- Entries of a script's calls that are yet to be made.
use Rattle.std.proofs.Common.{◌≡◌, List, map}
use Rattle.std.proofs.lemmas.Simd.{map-map}
use Rattle.runs.specs.Entries.{unmade, calls_of}
use Rattle.console_demo.specs.declared.scripts.Said.{Said}
use Rattle.console_demo.specs.Scripts.{said_calls}

-- their calls are the script's
pub calls_of_unmade : (script : List Said) → calls_of (map (λ (s : Said). unmade s.call) script) ≡ said_calls script
calls_of_unmade script = map-map _ _ script
