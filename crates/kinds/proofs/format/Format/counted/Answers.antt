-- The loop keeps `Counting`, which at its end names the digits.
use Rattle.std.proofs.Common.{◌*◌, ◌<◌, arith}
use Rattle.kinds.proofs.Words.{counting_grows, counting_more, counting_end}
use Rattle.kinds.proofs.format.Format.counted.Goals as goal
use Rattle.kinds.proofs.format.Format.counted.Goals.{then-self-n, else-self-n}

pub loop-power-smaller : goal.loop-power-smaller
loop-power-smaller c =
    let grows : c.loop-power.power < c.loop-power.power * c.args.self.radix =
    counting_grows c.args.self.radix c.args.n c.loop-power.power c.loop-power.count
    c.args.self.radix_two c.loop-power.invariant in
    omega arith

pub loop-power-preserved : goal.loop-power-preserved
loop-power-preserved c =
    counting_more c.args.self.radix c.args.n c.loop-power.power c.loop-power.count
    c.args.self.radix_two (omega arith) c.loop-power-test.true c.loop-power.invariant

pub returns : goal.returns
returns c = record {
  is = counting_end c.args.self.radix c.args.n c.loop-power.power c.loop-power.count
      c.args.self.radix_two c.loop-power-test.false c.loop-power.invariant;
  few = c.loop-power.invariant.few;
}
