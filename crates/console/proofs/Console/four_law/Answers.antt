-- Sums, determinants and complex products move no lane.
use Rattle.console.proofs.Laws.{four_law}
use Rattle.console.proofs.Console.four_law.Goals as goal

pub returns : goal.returns
returns g c = four_law _ _ g.M.Arith.Kind.kind _ _ _ _ _ _ _ _
