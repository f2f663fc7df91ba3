use Rattle.requests.proofs.Words.{reads_as}
use Rattle.requests.proofs.word.reads_law.Goals as goal

pub returns : goal.returns
returns c = reads_as c.args.text
