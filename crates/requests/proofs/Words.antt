-- What a word looks like takes nothing from it: a number begins with a digit or a minus and has more than two bytes, a
-- lane begins with a digit and has at most two, and a verb begins with a small letter.
use Rattle.std.proofs.Common.{◌≡◌, ℕ, ◌<◌, ◌≤◌, ◌^◌, Bool, true, false, not, ◌&&◌, ◌==◌, nat_lt, cond, ◌⊎◌, inl}
use Rattle.std.proofs.Common.{inr, List, length, get_or}
use Rattle.std.proofs.Common.{Some, None, Err, Option, sym, refl, ap, ◌∙◌, arith, length-append}
use Rattle.std.proofs.lemmas.Bool.Decides.{nat_tests}
use Rattle.std.proofs.Common.{ℤ, pos, negsuc, unsigned_abs, subst, ◌∷◌, ◌≢◌}
use Rattle.std.proofs.lemmas.Fmt.{decimal_nonempty}
use Rattle.std.proofs.lemmas.List.{get_or_append_left}
use Rattle.std.specs.Fmt.{signed_decimal}
use Rattle.reading.proofs.Naturals.{small, natural_plain, decimal_natural}
use Rattle.reading.proofs.Integers.{decimal_byte}
use Rattle.reading.proofs.Numerals.{signed_byte, spelled_numeral}
use Rattle.std.specs.Borrow.{Bor}
use Rattle.std.specs.Char.{is_ascii_digit, is_ascii_lowercase}
use Rattle.std.specs.Int.{IsInRange}
use Rattle.rounding.specs.declared.Refusal.TheVariants.{NoNumber}
use Rattle.rounding.specs.Refusals.{number}
use Rattle.reading.specs.declared.Numeral.{Numeral}
use Rattle.reading.specs.Words.{numeral_of, lane_of}
use Rattle.requests.specs.declared.verb.Verb.{Verb}
use Rattle.requests.specs.declared.verb.Verb.TheVariants.{Sum, Determinant, Product, Turn, Restart, Read}
use Rattle.requests.specs.declared.word.Word.{Word}
use Rattle.requests.specs.declared.word.Word.TheVariants as word
use Rattle.requests.specs.Verbs.{verb_text, verb_of}
use Rattle.requests.specs.Words.{word_of, figure_in, lane_in, ReadsAs}
use Rattle.requests.proofs.Verbs.{none_spelled}

-- the first byte of a text
abbrev begin : List ℕ → ℕ
begin text = get_or text 0 0

small_first : (verb : Verb) → is_ascii_lowercase (begin (verb_text verb)) ≡ true
small_first Sum = refl
small_first Determinant = refl
small_first Product = refl
small_first Turn = refl
small_first Restart = refl
small_first Read = refl

no_verb : (text : List ℕ) → is_ascii_lowercase (begin text) ≡ false → None ≡ verb_of text
no_verb text other =
    none_spelled text (λ verb is.
    let clash : false ≡ true = sym other ∙ ap (λ t. is_ascii_lowercase (begin t)) is ∙ small_first verb in cc)

signed_some : (z : ℤ) → unsigned_abs z < 2 ^ 64 → 0 < length (signed_decimal z)
signed_some (pos n) small = decimal_nonempty n small
signed_some (negsuc n) small = omega arith

numeral_begins : (text : List ℕ) (n : Numeral) → numeral_of text ≡ Some n
    → ((begin text ≡ 45) ⊎ IsInRange 48 57 (begin text)) × (2 < length text)
numeral_begins text n read =
    let spelled = spelled_numeral text n read in
    let s = n.figure.s in
    let q = n.figure.q in
    let front = signed_some s (small 8 _ (omega arith) spelled.significand) in
    let behind = signed_some q (small 4 _ (omega arith) spelled.exponent) in
    rw spelled.text (
      rw (get_or_append_left (signed_decimal s) (n.mark ∷ signed_decimal q) 0 0 front)
          (signed_byte s 0 (small 8 _ (omega arith) spelled.significand) front),
      omega (arith, length-append (signed_decimal s) (n.mark ∷ signed_decimal q)),
    )

lane_begins : (text : List ℕ) (n : ℕ) → lane_of text ≡ Some n → IsInRange 48 57 (begin text) × (length text ≤ 2)
unfolding lane_of
lane_begins text n read =
    let plain = (natural_plain 2 text n read).0 in
    let text_is = decimal_natural 2 text n (omega arith) read in
    let fits = small 2 n (omega arith) text_is.1 in
    let first = decimal_byte n 0 fits (decimal_nonempty n fits) in
    (subst (λ t. IsInRange 48 57 (begin t)) (sym text_is.0) first, plain.few)

never : {X : Type 0} (o : Option X) → ((x : X) → o ≡ Some x → ⊥) → o ≡ None
never None not = refl
never (Some x) not = absurd (not x refl)

no_numeral : (text : List ℕ) → ((begin text ≢ 45) × ¬ (IsInRange 48 57 (begin text))) ⊎ (length text ≤ 2)
    → numeral_of text ≡ None
no_numeral text other = never (numeral_of text) (λ n read. elim other [
  | inl first ↦ elim (numeral_begins text n read).0 [ inl minus ↦ first.0 minus | inr digit ↦ first.1 digit ]
  | inr short ↦ omega (arith, short, (numeral_begins text n read).1)
])

no_lane : (text : List ℕ) → ¬ (IsInRange 48 57 (begin text)) ⊎ (2 < length text) → lane_of text ≡ None
no_lane text other = never (lane_of text) (λ n read. elim other [
  | inl first ↦ first (lane_begins text n read).0
  | inr long ↦ omega (arith, long, (lane_begins text n read).1)
])

-- a word reads as its text, whatever the text looks like
pub reads_as : (text : Bor (List ℕ)) → ReadsAs (word_of text) text.now
unfolding word_of
reads_as text = (go (is_ascii_lowercase b) (b == 45) (is_ascii_digit b) (nat_lt 2 (length t)) refl refl refl refl)
  where
    t : List ℕ
    t = text.now

    b : ℕ
    b = begin t

    looks : Bool → Bool → Bool → Bool → Word
    looks letter minus digit long =
        cond letter (word.Verb text)
        (cond (not minus && not digit) (word.Unknown text) (cond long (word.Number text) (word.Lane text)))

    no_figure : numeral_of t ≡ None → (mark : ℕ) → Err (number NoNumber) ≡ figure_in mark t
    no_figure none mark = rw none refl

    no_lane_in : lane_of t ≡ None → Err (number NoNumber) ≡ lane_in t
    no_lane_in none = rw none refl

    unlettered : is_ascii_lowercase b ≡ false → nat_lt 2 (length t) ≡ true → ReadsAs (word.Number text) t
    unlettered e h = record {
      figure = λ mark. refl;
      lane = no_lane_in (no_lane t (inr (grind (arith, nat_tests))));
      verb = no_verb t e;
    }

    brief : is_ascii_lowercase b ≡ false → nat_lt 2 (length t) ≡ false → ReadsAs (word.Lane text) t
    brief e h = record {
      figure = no_figure (no_numeral t (inr (grind (arith, nat_tests))));
      lane = refl;
      verb = no_verb t e;
    }

    go : (letter minus digit long : Bool) → is_ascii_lowercase b ≡ letter → (b == 45) ≡ minus
        → is_ascii_digit b ≡ digit → nat_lt 2 (length t) ≡ long → ReadsAs (looks letter minus digit long) t
    go true minus digit long e f g h = record {
      figure = no_figure (no_numeral t (inl (grind (arith, nat_tests), grind (arith, nat_tests))));
      lane = no_lane_in (no_lane t (inl (grind (arith, nat_tests))));
      verb = refl;
    }
    go false false false long e f g h = record {
      figure = no_figure (no_numeral t (inl (grind (arith, nat_tests), grind (arith, nat_tests))));
      lane = no_lane_in (no_lane t (inl (grind (arith, nat_tests))));
      verb = no_verb t e;
    }
    go false true digit true e f g h = unlettered e h
    go false true digit false e f g h = brief e h
    go false false true true e f g h = unlettered e h
    go false false true false e f g h = brief e h
