-- What a shift loses at 64 digits and more, and what two wrapping steps keep.
use Rattle.std.proofs.Common.{◌^◌}
use Rattle.std.proofs.lemmas.Nat.{mul-mod_second}
use Rattle.kinds.proofs.Words.{past_word}
use Rattle.kinds.proofs.powers.scaled.Goals as goal

pub returns-else-k-lt64 : goal.returns-else-k-lt64
returns-else-k-lt64 c = rw c.if-radix-eq2.true (past_word c.args.n c.args.k c.if-k-lt64.false)

pub returns-else-radix-eq2 : goal.returns-else-radix-eq2
returns-else-radix-eq2 c =
    rw c.wrapping_pow.ensures (mul-mod_second c.args.n (c.args.radix ^ c.args.k) (2 ^ 64))
