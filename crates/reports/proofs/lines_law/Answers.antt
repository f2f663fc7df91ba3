-- What is proved of the lines of a kind.
use Rattle.reports.proofs.Apart.{one_row}
use Rattle.reports.proofs.lines_law.Goals as goal

pub returns : goal.returns
returns g c = one_row g.K.Kind.MARK g.K.Kind.marked
