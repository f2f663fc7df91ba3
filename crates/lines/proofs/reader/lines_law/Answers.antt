-- What is proved of every text.
use Rattle.lines.proofs.Laws.{lines_law}
use Rattle.lines.proofs.reader.lines_law.Goals as goal

pub returns : goal.returns
returns c = lines_law
