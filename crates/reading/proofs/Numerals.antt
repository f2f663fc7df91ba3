-- A number is read from its text, and from nothing else.
use Rattle.std.proofs.Common.{◌≡◌, ℕ, zero, suc, ◌+◌, ◌^◌, ◌<◌, true, false, List, [], ◌∷◌, ◌++◌}
use Rattle.std.proofs.Common.{length, get_or, take, drop, ◌⊎◌, inl, inr, Option, Some, None, ℤ, pos, negsuc}
use Rattle.std.proofs.Common.{unsigned_abs, sym, refl, ap, ◌∙◌, arith, length-append, append_assoc}
use Rattle.std.proofs.lemmas.Bool.Decides.{nat_tests}
use Rattle.std.proofs.lemmas.Grind.{common_steps}
use Rattle.std.proofs.lemmas.List.{take_at, drop_at, get_or_at, get_or_append_left, take-append-drop}
use Rattle.std.proofs.lemmas.List.{drop_more, length_push}
use Rattle.std.proofs.lemmas.List.Quantifiers.{position-Some}
use Rattle.std.proofs.lemmas.List.Sums.{position_or_len_is}
use Rattle.std.specs.Fmt.{signed_decimal}
use Rattle.std.specs.List.{position, position_or_len}
use Rattle.std.specs.Option.{option_and_then}
use Rattle.std.specs.Int.{IsInRange}
use Rattle.spelling.specs.Spelled.{spelled}
use Rattle.reading.specs.declared.Numeral.{Numeral}
use Rattle.reading.specs.Words.{integer_of, is_mark, numeral, numeral_about, numeral_of}
use Rattle.reading.specs.Spellings.{IsSpelled, IsTheOne}
use Rattle.reading.proofs.Naturals.{small}
use Rattle.reading.proofs.Integers.{decimal_byte, integer_signed, signed_integer}

-- every byte of a signed number's text is a minus or a digit
pub signed_byte : (z : ℤ) (k : ℕ) → unsigned_abs z < 2 ^ 64 → k < length (signed_decimal z)
    → (get_or (signed_decimal z) k 0 ≡ 45) ⊎ IsInRange 48 57 (get_or (signed_decimal z) k 0)
signed_byte (pos n) k fits within = inr (decimal_byte n k fits within)
signed_byte (negsuc n) zero fits within = inl refl
signed_byte (negsuc n) (suc k) fits within = inr (decimal_byte (suc n) k fits (omega arith))

no_mark : (c : ℕ) → (c ≡ 45) ⊎ IsInRange 48 57 c → is_mark c ≡ false
no_mark c (inl minus) = grind (arith, nat_tests)
no_mark c (inr digit) = grind (arith, nat_tests)

mark_is : (c : ℕ) → (c ≡ 112) ⊎ (c ≡ 101) → is_mark c ≡ true
mark_is c (inl p) = grind (arith, nat_tests)
mark_is c (inr e) = grind (arith, nat_tests)

is_p_or_e : (c : ℕ) → is_mark c ≡ true → (c ≡ 112) ⊎ (c ≡ 101)
is_p_or_e c mark = grind (arith, nat_tests)

-- the first mark of a number's text stands behind the significand
mark_place : (m : ℕ) (s q : ℤ) → (m ≡ 112) ⊎ (m ≡ 101) → unsigned_abs s < 10 ^ 8
    → position is_mark (spelled m s q) ≡ Some (length (signed_decimal s))
mark_place m s q mark below =
    let text = spelled m s q in
    let i = length (signed_decimal s) in
    let within : i < length text = omega (arith, length-append (signed_decimal s) (m ∷ signed_decimal q)) in
    let at : position_or_len is_mark text ≡ i = position_or_len_is is_mark text i 0 (omega arith)
    (λ k before. ap is_mark (get_or_append_left (signed_decimal s) (m ∷ signed_decimal q) 0 k before)
    ∙ no_mark _ (signed_byte s k (small 8 _ (omega arith) below) before))
    (λ here. ap is_mark (get_or_at (signed_decimal s) m (signed_decimal q) 0 i refl) ∙ mark_is m mark) in
    let before : position_or_len is_mark text < length text = omega arith in
    grind (arith, nat_tests)

pub numeral_spelled : (m : ℕ) (s q : ℤ) → (m ≡ 112) ⊎ (m ≡ 101) → unsigned_abs s < 10 ^ 8 → unsigned_abs q < 10 ^ 4
    → numeral_of (spelled m s q) ≡ Some (record { figure = record { s = s; q = q }; mark = m })
unfolding numeral_of numeral_about
numeral_spelled m s q mark below_s below_q =
    let text = spelled m s q in
    let i = length (signed_decimal s) in
    let behind : drop (i + 1) text ≡ signed_decimal q =
    ap (drop (i + 1)) (sym (append_assoc (signed_decimal s) (m ∷ []) (signed_decimal q)))
    ∙ drop_at (signed_decimal s ++ (m ∷ [])) (signed_decimal q) (i + 1) (length_push (signed_decimal s) m) in
    ap (option_and_then (numeral_about text)) (mark_place m s q mark below_s)
    ∙ (ap (λ c. numeral c (integer_of 8 (take i text)) (integer_of 4 (drop (i + 1) text)))
    (get_or_at (signed_decimal s) m (signed_decimal q) 0 i refl)
    ∙ (ap (λ x. numeral m x (integer_of 4 (drop (i + 1) text)))
    (ap (integer_of 8) (take_at (signed_decimal s) (m ∷ signed_decimal q) i refl)
    ∙ integer_signed 8 s (omega arith) (omega arith) below_s)
    ∙ ap (numeral m (Some s)) (ap (integer_of 4) behind ∙ integer_signed 4 q (omega arith) (omega arith) below_q)))

-- both parts of a number that is read are there
parts_are : (m : ℕ) (x y : Option ℤ) (n : Numeral) → numeral m x y ≡ Some n
    → (m ≡ n.mark) × (x ≡ Some n.figure.s) × (y ≡ Some n.figure.q)
parts_are m None y n is = cc
parts_are m (Some s) None n is = cc
parts_are m (Some s) (Some q) n is =
    let whole : record { figure = record { s = s; q = q }; mark = m } ≡ n = cc in (
      ap (λ (z : Numeral). z.mark) whole,
      ap (λ (z : Numeral). Some z.figure.s) whole,
      ap (λ (z : Numeral). Some z.figure.q) whole,
    )

about_is : (word : List ℕ) (i : ℕ) (n : Numeral) → position is_mark word ≡ Some i → numeral_about word i ≡ Some n
    → IsSpelled word n
unfolding numeral_about
about_is word i n place is =
    let parts = parts_are _ (integer_of 8 (take i word)) (integer_of 4 (drop (i + 1) word)) n is in
    let found = position-Some is_mark word i 0 place in
    let s = signed_integer 8 (take i word) n.figure.s (omega arith) parts.1 in
    let q = signed_integer 4 (drop (i + 1) word) n.figure.q (omega arith) parts.2 in
    let more = drop_more word i 0 found.0 in
    let whole = take-append-drop i word in
    let front = s.0 in
    let back = q.0 in
    let mark = parts.0 in
    record { text = cc; significand = s.1; exponent = q.1; mark = is_p_or_e _ (cc) }

pub spelled_numeral : (word : List ℕ) (n : Numeral) → numeral_of word ≡ Some n → IsSpelled word n
unfolding numeral_of
spelled_numeral word n read = go (position is_mark word) refl read
  where
    go : (o : Option ℕ) → position is_mark word ≡ o → option_and_then (numeral_about word) o ≡ Some n
        → IsSpelled word n
    go None place is = cc
    go (Some i) place is = about_is word i n place is

-- a word reads as the number of which it is the text, and as no other
pub read_as_spelled : (word : List ℕ) (r : Option Numeral) → r ≡ numeral_of word
    → IsTheOne (IsSpelled word) r
unfolding IsTheOne
read_as_spelled word r is n = (
  λ read. spelled_numeral word n (sym is ∙ read),
  λ text. is ∙ (ap numeral_of text.text
      ∙ numeral_spelled n.mark n.figure.s n.figure.q text.mark text.significand text.exponent),
)

-- the same where no mark was found, and where one was
pub unread : (word : List ℕ) (r : Option Numeral) → r ≡ None → position is_mark word ≡ None
    → IsTheOne (IsSpelled word) r
unfolding numeral_of
unread word r none place = read_as_spelled word r (none ∙ ap (option_and_then (numeral_about word)) (sym place))

pub read_about : (word : List ℕ) (i : ℕ) → position is_mark word ≡ Some i
    → IsTheOne (IsSpelled word) (numeral_about word i)
unfolding numeral_of
read_about word i place =
    read_as_spelled word (numeral_about word i) (ap (option_and_then (numeral_about word)) (sym place))

pub ruleset numbers_are_spelled = (unread, read_about, common_steps)
