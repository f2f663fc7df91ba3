-- What is proved of Kahan's answer to an accepted four: no step refuses, and the answer is near.
use Rattle.rounding.proofs.LastPlaces.{ulp_is_last_place}
use Rattle.bounds.proofs.Chains.{kahan_steps_lem}
use Rattle.bounds.proofs.Answers.{kahan_within, kahan_places}

pub ruleset kahan_is_near = (kahan_steps_lem, kahan_within, kahan_places, ulp_is_last_place)
