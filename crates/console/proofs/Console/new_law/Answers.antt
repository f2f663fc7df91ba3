-- Ten fresh lanes track the empty history.
use Rattle.histories.proofs.Tracking.{fresh_track}
use Rattle.console.proofs.Console.new_law.Goals as goal

pub returns : goal.returns
returns g c = fresh_track _ _ g.M.Arith.Kind.kind _ _
