-- A console's method is reliable, and so its calls keep track.
use Rattle.rows.proofs.Calls.{stand_for_calls}
use Rattle.rows.proofs.calls_law.Goals as goal

pub returns : goal.returns
returns g c = stand_for_calls _ _ g.M.Arith.Kind.kind _ _ _ (g.met.M.Method.reliable c.args.console.now.method) _ _
