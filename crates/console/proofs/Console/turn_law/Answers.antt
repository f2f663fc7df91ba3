-- A turn, by its first fault; what it relies on of the method is its law.
use Rattle.console.proofs.Laws.{turn_law}
use Rattle.console.proofs.Console.turn_law.Goals as goal

pub returns : goal.returns
returns g c =
    let method = c.args.self.now.method in
    turn_law _ _ g.M.Arith.Kind.kind _ _ _ _ _
    (g.met.M.Method.reliable method) _ _
