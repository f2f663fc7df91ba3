-- What is proved of a call; what it relies on of the method is its law.
use Rattle.runs.proofs.Following.{call_law}
use Rattle.runs.proofs.call_law.Goals as goal

pub returns : goal.returns
returns g c =
    let method = c.args.console.now.method in
    call_law _ _ g.M.Arith.Kind.kind _ _ _ (g.met.M.Method.reliable method) _ _
