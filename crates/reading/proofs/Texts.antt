-- How long the texts of numbers are, and which bytes they have.
use Rattle.std.proofs.Common.{◌≡◌, ◌≢◌, ℕ, zero, suc, ◌+◌, ◌-◌, ◌^◌, ◌<◌, ◌≤◌, List, ◌∷◌, length, get_or}
use Rattle.std.proofs.Common.{◌⊎◌, inl, inr, decimal, ℤ, pos, negsuc, unsigned_abs, subst, refl, sym, arith}
use Rattle.std.proofs.Common.{length-append}
use Rattle.std.proofs.lemmas.Bool.{cases_lt}
use Rattle.std.proofs.lemmas.Fmt.{decimal_nonempty, length-decimal-le}
use Rattle.std.proofs.lemmas.List.{get_or_default, get_or_append_left, get_or-append_right}
use Rattle.std.specs.Fmt.{signed_decimal}
use Rattle.std.specs.Int.{IsInRange}
use Rattle.std.specs.List.{All}
use Rattle.spelling.specs.Spelled.{spelled}
use Rattle.reading.proofs.Naturals.{small}
use Rattle.reading.proofs.Integers.{decimal_byte}
use Rattle.reading.proofs.Numerals.{signed_byte}

pub decimal_length : (k n : ℕ) → 0 < k → k ≤ 9 → n < 10 ^ k → (1 ≤ length (decimal n)) × (length (decimal n) ≤ k)
decimal_length k n some few below =
    let s = small k n few below in
    (decimal_nonempty n s, length-decimal-le k n some below s)

pub signed_length : (k : ℕ) (z : ℤ) → 0 < k → k ≤ 9 → unsigned_abs z < 10 ^ k
    → (1 ≤ length (signed_decimal z)) × (length (signed_decimal z) ≤ k + 1)
signed_length k (pos n) some few below = let long = decimal_length k n some few below in (long.0, omega arith)
signed_length k (negsuc n) some few below =
    let long = decimal_length k (suc n) some few below in (omega arith, omega arith)

-- a significand below 10^j and an exponent below 10^k take at most j + k digits, two signs and a mark
pub spelled_length : (j k m : ℕ) (s q : ℤ) → 0 < j → j ≤ 9 → 0 < k → k ≤ 9
    → unsigned_abs s < 10 ^ j → unsigned_abs q < 10 ^ k
    → (3 ≤ length (spelled m s q)) × (length (spelled m s q) ≤ j + k + 3)
spelled_length j k m s q some_j few_j some_k few_k below_s below_q =
    let front = signed_length j s some_j few_j below_s in
    let back = signed_length k q some_k few_k below_q in
    let whole = length-append (signed_decimal s) (m ∷ signed_decimal q) in
    (omega arith, omega arith)

-- the bytes of decimal digits are digits
pub decimal_bytes : (n : ℕ) → n < 2 ^ 64 → All (λ c. IsInRange 48 57 c) (decimal n)
decimal_bytes n fits k d within =
    subst (λ c. IsInRange 48 57 c) (get_or_default (decimal n) k 0 d within) (decimal_byte n k fits within)

-- no byte of a number's text is below that of the minus: none is a space, and none ends a line
pub spelled_bytes : (m : ℕ) (s q : ℤ) → (m ≡ 112) ⊎ (m ≡ 101) → unsigned_abs s < 2 ^ 64 → unsigned_abs q < 2 ^ 64
    → All (λ c. 45 ≤ c) (spelled m s q)
spelled_bytes m s q mark fits_s fits_q k d within =
    let i = length (signed_decimal s) in
    elim (cases_lt k i) [
      | inl before ↦ subst (λ c. 45 ≤ c)
          (sym (get_or_append_left (signed_decimal s) (m ∷ signed_decimal q) d k before)) (high s k fits_s before)
      | inr behind ↦ subst (λ c. 45 ≤ c)
          (sym (get_or-append_right (signed_decimal s) (m ∷ signed_decimal q) i k d refl behind))
          (rest (k - i) (omega (arith, length-append (signed_decimal s) (m ∷ signed_decimal q))))
    ]
  where
    high : (z : ℤ) (k : ℕ) → unsigned_abs z < 2 ^ 64 → k < length (signed_decimal z)
        → 45 ≤ get_or (signed_decimal z) k d
    high z k fits within = subst (λ c. 45 ≤ c) (get_or_default (signed_decimal z) k 0 d within)
        (elim (signed_byte z k fits within) [ inl minus ↦ omega arith | inr digit ↦ omega arith ])

    rest : (k : ℕ) → k < length (m ∷ signed_decimal q) → 45 ≤ get_or (m ∷ signed_decimal q) k d
    rest zero within = elim mark [ inl p ↦ omega arith | inr e ↦ omega arith ]
    rest (suc k) within = high q k fits_q (omega arith)

-- bytes that are not below that of the minus are no other byte
pub none_below : (text : List ℕ) (b : ℕ) → All (λ c. 45 ≤ c) text → b < 45 → All (λ c. c ≢ b) text
none_below text b high low k d within is = omega (arith, high k d within)
