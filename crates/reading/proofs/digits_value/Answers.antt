-- Nine digits fit a `u32`.
use Rattle.std.proofs.Common.{ℕ, ◌^◌, ◌<◌, ◌≤◌, arith}
use Rattle.reading.proofs.Naturals.{power_up}
use Rattle.reading.proofs.digits_value.Goals as goal

-- fewer than nine digits were read, so that there is room for one more
room : (i len n : ℕ) → i < len → len ≤ 9 → n < 10 ^ i → n < 10 ^ 8
room i len n more few below = omega (arith, power_up i 8 (omega arith))

pub overflow_mul-value : goal.overflow_mul-value
overflow_mul-value c =
    let little = room c.loop-digit.digit-index _ _ c.loop-digit-test.true c.requires c.loop-digit.invariant.2 in
    record { fits = omega arith }

pub overflow_add-value : goal.overflow_add-value
overflow_add-value c =
    let little = room c.loop-digit.digit-index _ _ c.loop-digit-test.true c.requires c.loop-digit.invariant.2 in
    record { fits = omega arith }
