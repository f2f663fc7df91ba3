-- What is proved of the symmetric answer to an accepted four: no step refuses, the answer is near, and it is that of the
-- exchanged products.
use Rattle.bounds.proofs.Chains.{symmetric_steps_lem}
use Rattle.bounds.proofs.Answers.{symmetric_limit, symmetric_exchanged}

pub ruleset symmetric_is_near = (symmetric_steps_lem, symmetric_limit, symmetric_exchanged)
