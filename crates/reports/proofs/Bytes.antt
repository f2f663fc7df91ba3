-- Which bytes the words of a report have, whatever their numbers.
use Rattle.std.proofs.Common.{ℕ, zero, suc, ◌/◌, ◌%◌, ◌<◌, ◌≤◌, ◌==◌, Bool, true, false, cond, List, [], ◌∷◌}
use Rattle.std.proofs.Common.{length, get_or, All, inl, inr, decimal, codes, ℤ, pos, negsuc, subst, sym, arith}
use Rattle.std.proofs.Common.{length-append}
use Rattle.std.proofs.lemmas.Bool.Decides.{nat_tests}
use Rattle.std.proofs.lemmas.List.{get_or_append_left}
use Rattle.std.proofs.lemmas.List.Elements.{All-nil, All-cons, All-append, All-weaker}
use Rattle.std.specs.Fmt.{signed_decimal, digits, digits_onto, digit_glyph}
use Rattle.std.specs.Int.{IsInRange}
use Rattle.rounding.specs.declared.Figure.{Figure}
use Rattle.kinds.specs.Kinds.{IsMark}
use Rattle.reports.specs.Reports.{figure_text}

-- one digit at least, and nothing else
pub record IsDigits (text : List ℕ) : Type 0 where
  pub some : 0 < length text
  pub each : All (λ c. IsInRange 48 57 c) text

either : (P : List ℕ → Type 0) (b : Bool) (xs ys : List ℕ) → P xs → P ys → P (cond b xs ys)
either P true xs ys x y = x
either P false xs ys x y = y

glyph : (n : ℕ) → IsInRange 48 57 (digit_glyph false (n % 10))
glyph n = grind (arith, nat_tests)

one_more : (n : ℕ) (digits : List ℕ) → All (λ c. IsInRange 48 57 c) digits
    → IsDigits (digit_glyph false (n % 10) ∷ digits)
one_more n digits each = record {
  some = omega arith;
  each = All-cons (λ c. IsInRange 48 57 c) _ digits (glyph n) each;
}

onto_digits : (k n : ℕ) (acc : List ℕ) → All (λ c. IsInRange 48 57 c) acc
    → IsDigits (digits_onto (suc k) 10 false n acc)
onto_digits zero n acc each = either IsDigits (n / 10 == 0) _ _ (one_more n acc each) (one_more n acc each)
onto_digits (suc k) n acc each =
    either IsDigits (n / 10 == 0) _ _ (one_more n acc each)
    (onto_digits k (n / 10) (digit_glyph false (n % 10) ∷ acc) (one_more n acc each).each)

pub decimal_digits : (n : ℕ) → IsDigits (decimal n)
unfolding digits
decimal_digits n = onto_digits 63 n [] (All-nil (λ c. IsInRange 48 57 c))

-- a text that begins with a minus or a digit, and has no byte below that of the minus
pub record IsNumberText (text : List ℕ) : Type 0 where
  pub some : 0 < length text
  pub high : All (λ c. 45 ≤ c) text
  pub begin : get_or text 0 0 ≤ 57

pub decimal_text : (n : ℕ) → IsNumberText (decimal n)
decimal_text n =
    let is = decimal_digits n in
    let first : IsInRange 48 57 (get_or (decimal n) 0 0) = is.each 0 0 is.some in
    record {
      some = is.some;
      high = All-weaker (λ c. IsInRange 48 57 c) (λ c. 45 ≤ c) (λ c range. omega arith) (decimal n) is.each;
      begin = omega arith;
    }

signed_text : (z : ℤ) → IsNumberText (signed_decimal z)
signed_text (pos n) = decimal_text n
signed_text (negsuc n) = record {
  some = omega arith;
  high = All-cons (λ c. 45 ≤ c) 45 (decimal (suc n)) (omega arith) (decimal_text (suc n)).high;
  begin = omega arith;
}

mark_high : (mark : ℕ) → IsMark mark → 45 ≤ mark
mark_high mark (inl p) = omega arith
mark_high mark (inr e) = omega arith

pub figure_is_text : (mark : ℕ) (f : Figure) → IsMark mark → IsNumberText (figure_text mark f)
figure_is_text mark f marked =
    let front = signed_text f.s in
    let back = signed_text f.q in
    let some = front.some in
    let begin = front.begin in
    record {
      some = omega (arith, length-append (signed_decimal f.s) (mark ∷ signed_decimal f.q));
      high = All-append (λ c. 45 ≤ c) (signed_decimal f.s) (mark ∷ signed_decimal f.q) front.high
          (All-cons (λ c. 45 ≤ c) mark (signed_decimal f.q) (mark_high mark marked) back.high);
      begin = subst (λ c. c ≤ 57)
          (sym (get_or_append_left (signed_decimal f.s) (mark ∷ signed_decimal f.q) 0 0 some)) begin;
    }

pub no_high : All (λ c. 45 ≤ c) (codes "no")
no_high =
    All-cons (λ c. 45 ≤ c) 110 (111 ∷ []) (omega arith)
    (All-cons (λ c. 45 ≤ c) 111 [] (omega arith) (All-nil (λ c. 45 ≤ c)))
