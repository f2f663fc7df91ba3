-- A number of digits alone is read from its decimal digits, and from nothing else.
use Rattle.std.proofs.Common.{◌≡◌, ℕ, ◌^◌, ◌<◌, ◌≤◌, Bool, true, false, cond, List, length, get_or}
use Rattle.std.proofs.Common.{inl, inr, Option, Some, None, IfSome, decimal, sym, refl, ap, ◌∙◌, arith}
use Rattle.std.proofs.Math.Nat.{pow-le-pow_right}
use Rattle.std.proofs.lemmas.Bool.{cases_eq}
use Rattle.std.proofs.lemmas.Bool.Decides.{nat_tests}
use Rattle.std.proofs.lemmas.Fmt.{digits_decimal, digits_value-decimal, decimal-digits_value, decimal_nonempty}
use Rattle.std.proofs.lemmas.Fmt.{decimal_digit, first_decimal, length-decimal-le}
use Rattle.std.proofs.lemmas.Str.Parse.{IsNumeralModel, numerals_by_value, tells_all_ascii_digits, digits_value_short}
use Rattle.std.specs.Str.{all_ascii_digits}
use Rattle.std.specs.Str.Parse.{digits_value}
use Rattle.reading.specs.Words.{value_of, is_unfit, natural_of, lane_of}
use Rattle.reading.specs.Spellings.{IsLane, IsTheOne}

-- std's lemmas on decimal digits, for std's words
pub own : IsNumeralModel (λ ds. all_ascii_digits ds ≡ true) (digits_value 10)
own = numerals_by_value _ tells_all_ascii_digits

pub power_up : (i j : ℕ) → i ≤ j → 10 ^ i ≤ 10 ^ j
power_up i j up = pow-le-pow_right {n = 10} (omega arith) {i = i} {j = j} up

-- nine digits at most write a number that std's lemmas speak of
pub small : (most n : ℕ) → most ≤ 9 → n < 10 ^ most → n < 2 ^ 64
small most n few below = omega (arith, power_up most 9 few)

-- what is said of the digits that are read
pub record IsPlain (most : ℕ) (ds : List ℕ) : Type 0 where
  pub digits : all_ascii_digits ds ≡ true
  pub some : 0 < length ds
  pub few : length ds ≤ most
  pub lead : get_or ds 0 0 ≡ 48 → length ds ≡ 1

plain_fit : (most : ℕ) (ds : List ℕ) → IsPlain most ds → is_unfit most ds ≡ false
plain_fit most ds plain =
    let some = plain.some in
    let few = plain.few in
    let lead = plain.lead in
    grind (arith, nat_tests)

pub plain_natural : (most : ℕ) (ds : List ℕ) → IsPlain most ds → natural_of most ds ≡ Some (digits_value 10 ds)
unfolding natural_of value_of
plain_natural most ds plain = rw (plain_fit most ds plain, plain.digits) refl

fit_plain : (most : ℕ) (ds : List ℕ) → is_unfit most ds ≡ false → all_ascii_digits ds ≡ true → IsPlain most ds
fit_plain most ds fit digits = record {
  digits = digits;
  some = grind (arith, nat_tests);
  few = grind (arith, nat_tests);
  lead = λ zero. grind (arith, nat_tests);
}

pub natural_plain : (most : ℕ) (ds : List ℕ) (n : ℕ) → natural_of most ds ≡ Some n
    → IsPlain most ds × (n ≡ digits_value 10 ds)
unfolding natural_of value_of
natural_plain most ds n read = go (is_unfit most ds) (all_ascii_digits ds) refl refl read
  where
    go : (u d : Bool) → is_unfit most ds ≡ u → all_ascii_digits ds ≡ d
        → cond u None (cond d (Some (digits_value 10 ds)) None) ≡ Some n → IsPlain most ds × (n ≡ digits_value 10 ds)
    go true d fit digits is = cc
    go false false fit digits is = cc
    go false true fit digits is = (fit_plain most ds fit digits, cc)

decimal_plain : (most n : ℕ) → 0 < most → most ≤ 9 → n < 10 ^ most → IsPlain most (decimal n)
decimal_plain most n some few below =
    let s = small most n few below in
    record {
      digits = digits_decimal own n s;
      some = decimal_nonempty n s;
      few = length-decimal-le most n some below s;
      lead = λ zero. elim (cases_eq n 0) [
        | inl none ↦ ap (λ m. length (decimal m)) none ∙ ap length (decimal_digit 0 (omega arith))
        | inr more ↦ absurd (omega (arith, first_decimal n (omega arith) s))
      ];
    }

pub natural_decimal : (most n : ℕ) → 0 < most → most ≤ 9 → n < 10 ^ most → natural_of most (decimal n) ≡ Some n
natural_decimal most n some few below =
    plain_natural most (decimal n) (decimal_plain most n some few below)
    ∙ ap Some (digits_value-decimal own n (small most n few below))

pub decimal_natural : (most : ℕ) (ds : List ℕ) (n : ℕ) → most ≤ 9 → natural_of most ds ≡ Some n
    → (ds ≡ decimal n) × (n < 10 ^ most)
decimal_natural most ds n few read =
    let plain = (natural_plain most ds n read).0 in
    let is = (natural_plain most ds n read).1 in
    let below = digits_value_short own ds most plain.digits plain.few in (
      sym (decimal-digits_value own ds plain.digits plain.some plain.lead (small most _ few below))
          ∙ ap decimal (sym is),
      omega arith,
    )

-- few digits write a small number
pub value_below : (most : ℕ) (ds : List ℕ) → length ds ≤ most → IfSome (value_of ds) (λ n. n < 10 ^ most)
unfolding value_of
value_below most ds few = go (all_ascii_digits ds) refl
  where
    go : (b : Bool) → all_ascii_digits ds ≡ b → IfSome (cond b (Some (digits_value 10 ds)) None) (λ n. n < 10 ^ most)
    go true digits = digits_value_short own ds most digits few
    go false digits = tt

-- a lane reads back, and what reads as a lane is its text
pub lane_decimal : (n : ℕ) → n < 100 → lane_of (decimal n) ≡ Some n
unfolding lane_of
lane_decimal n below = natural_decimal 2 n (omega arith) (omega arith) below

pub decimal_lane : (word : List ℕ) (n : ℕ) → lane_of word ≡ Some n → IsLane word n
unfolding lane_of
decimal_lane word n read =
    let lane = decimal_natural 2 word n (omega arith) read in record { text = lane.0; below = lane.1 }

-- a word reads as the lane of which it is the text, and as no other
pub read_as_lane : (word : List ℕ) (r : Option ℕ) → r ≡ lane_of word → IsTheOne (IsLane word) r
unfolding IsTheOne
read_as_lane word r is n =
    (λ read. decimal_lane word n (sym is ∙ read), λ text. is ∙ (ap lane_of text.text ∙ lane_decimal n text.below))
