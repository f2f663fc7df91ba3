-- An accepted four stays accepted in another order and with an operand turned.
use Rattle.bounds.proofs.Orders.{flipped_opposite, determinant_accepted, real_accepted, imaginary_accepted}

pub ruleset stays_accepted = (flipped_opposite, determinant_accepted, real_accepted, imaginary_accepted)
