-- What is proved of a batch; what it relies on of the method is its law.
use Rattle.batch.proofs.Batches.{batch_tells}
use Rattle.batch.proofs.batch_law.Goals as goal

pub returns : goal.returns
returns g c =
    batch_tells _ _ _ g.M.Arith.Kind.kind g.M.Arith.Kind.marked _ _ _
    (g.met.M.Method.reliable c.args.console.now.method) _ _ _
