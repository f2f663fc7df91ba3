-- A signed number is read from its text, and from nothing else.
use Rattle.std.proofs.Common.{◌≡◌, ℕ, zero, suc, ◌^◌, ◌<◌, ◌≤◌, Bool, true, false, cond, ◌==◌, List, [], ◌∷◌}
use Rattle.std.proofs.Common.{length, get_or, Option, Some, None, decimal, ℤ, pos, negsuc}
use Rattle.std.proofs.Common.{unsigned_abs, ◌-ℤ◌, ◌≢◌, to_z, of_z, w32, refl, ap, ◌∙◌, arith}
use borrow.Author.Differences.{ints}
use Rattle.std.proofs.lemmas.Bool.Decides.{nat_tests}
use Rattle.std.proofs.lemmas.Fmt.{digits_decimal, decimal_nonempty}
use Rattle.std.proofs.lemmas.Grind.{common_steps}
use Rattle.std.proofs.lemmas.Str.Parse.{digit_at}
use Rattle.std.specs.Fmt.{signed_decimal}
use Rattle.std.specs.Option.{option_map, option_and_then}
use Rattle.std.specs.Int.{IsInRange}
use Rattle.reading.specs.Words.{natural_of, negative, integer_of}
use Rattle.reading.proofs.Naturals.{own, power_up, small, natural_decimal, decimal_natural}

-- every byte of decimal digits is a digit
pub decimal_byte : (n k : ℕ) → n < 2 ^ 64 → k < length (decimal n) → IsInRange 48 57 (get_or (decimal n) k 0)
decimal_byte n k fits within = digit_at (decimal n) k (own.to (decimal n) (digits_decimal own n fits)) within

no_minus : (n : ℕ) → n < 2 ^ 64 → (get_or (decimal n) 0 0 == 45) ≡ false
no_minus n fits =
    let first = decimal_byte n 0 fits (decimal_nonempty n fits) in
    grind (arith, nat_tests)

pub integer_signed : (most : ℕ) (z : ℤ) → 0 < most → most ≤ 9 → unsigned_abs z < 10 ^ most
    → integer_of most (signed_decimal z) ≡ Some z
unfolding integer_of
integer_signed most (pos n) some few below =
    rw (no_minus n (small most n few below), natural_decimal most n some few below) refl
integer_signed most (negsuc n) some few below = rw (natural_decimal most (suc n) some few below) refl

plain_is : (o : Option ℕ) (z : ℤ) → option_map pos o ≡ Some z → (n : ℕ) × (o ≡ Some n) × (z ≡ pos n)
plain_is None z is = cc
plain_is (Some n) z is = (n, refl, cc)

negative_is : (o : Option ℕ) (z : ℤ) → option_and_then negative o ≡ Some z
    → (n : ℕ) × (o ≡ Some (suc n)) × (z ≡ negsuc n)
negative_is None z is = cc
negative_is (Some zero) z is = cc
negative_is (Some (suc n)) z is = (n, refl, cc)

pub signed_integer : (most : ℕ) (word : List ℕ) (z : ℤ) → most ≤ 9 → integer_of most word ≡ Some z
    → (word ≡ signed_decimal z) × (unsigned_abs z < 10 ^ most)
unfolding integer_of natural_of
signed_integer most [] z few read = cc
signed_integer most (c ∷ cs) z few read = go (c == 45) refl read
  where
    go : (b : Bool) → (c == 45) ≡ b
        → cond b (option_and_then negative (natural_of most cs)) (option_map pos (natural_of most (c ∷ cs))) ≡ Some z
        → (c ∷ cs ≡ signed_decimal z) × (unsigned_abs z < 10 ^ most)
    go true minus is =
        let n = negative_is (natural_of most cs) z is in
        let text = decimal_natural most cs (suc n.0) few n.1 in
        let dash : c ≡ 45 = grind (arith, nat_tests) in
        let text_is = text.0 in
        let value = n.2 in
        let below = text.1 in
        rw value (ap (λ b. b ∷ cs) dash ∙ ap (λ l. 45 ∷ l) text_is, below)
    go false minus is =
        let n = plain_is (natural_of most (c ∷ cs)) z is in
        let text = decimal_natural most (c ∷ cs) n.0 few n.1 in
        let value = n.2 in
        rw value text

-- the machine's number behind a minus
pub minus_read : (most n : ℕ) → most ≤ 9 → n < 10 ^ most → n ≢ 0
    → negative n ≡ Some (to_z w32 (of_z w32 (pos 0 -ℤ to_z w32 n)))
minus_read most zero few below some = absurd (some refl)
minus_read most (suc n) few below some =
    let up = power_up most 9 few in
    ap Some (omega (arith, ints))

pub ruleset minus_reads = (minus_read, common_steps)
