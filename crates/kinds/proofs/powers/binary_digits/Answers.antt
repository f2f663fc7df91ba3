-- The logarithm k of n, rounded down, says that n has k + 1 digits.
use Rattle.std.proofs.Common.{arith}
use Rattle.kinds.proofs.Words.{binary_digits}
use Rattle.kinds.proofs.powers.binary_digits.Goals as goal

pub returns : goal.returns
returns c = record {
  is = binary_digits c.args.n c.ilog2.result c.ilog2.ensures.power_le c.ilog2.ensures.next_power_gt;
  few = omega (arith, c.ilog2.ensures.bound);
}
