-- A restart, by the number of its lane.
use Rattle.console.proofs.Laws.{restart_law}
use Rattle.console.proofs.Console.restart_law.Goals as goal

pub returns : goal.returns
returns g c = restart_law _ _ g.M.Arith.Kind.kind _ _ _ _
