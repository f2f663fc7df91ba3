-- What is proved of every text.
use Rattle.lines.proofs.Laws.{parts_law}
use Rattle.lines.proofs.parts_law.Goals as goal

pub returns : goal.returns
returns c = parts_law
