-- What the words of a line tell of its row.
use Rattle.std.proofs.Common.{◌≡◌, ◌≢◌, ◌↔◌, ℕ, ◌<◌, ◌≤◌, ◌==◌, false, List, [], ◌∷◌, length, get_or, All}
use Rattle.std.proofs.Common.{codes, decimal, Ok, Err, Result, IsErr, refl, sym, ap, ◌∙◌, arith, length-append}
use Rattle.std.proofs.lemmas.Bool.Decides.{nat_tests}
use Rattle.std.proofs.lemmas.List.Elements.{All-cons, All-append}
use Rattle.std.proofs.lemmas.List.Splits.{slice_split_at, slice_split_none}
use Rattle.rounding.specs.declared.Figure.{Figure}
use Rattle.kinds.specs.Kinds.{IsMark}
use Rattle.reading.proofs.Numerals.{numeral_spelled}
use Rattle.reading.proofs.Texts.{none_below}
use Rattle.lines.specs.Laws.{Lacks}
use Rattle.lines.specs.Texts.{words_of}
use Rattle.requests.specs.Faults.{Stop}
use Rattle.runs.specs.declared.Answer.{Answer}
use Rattle.runs.specs.declared.Answer.TheVariants.{Value, Parts, Count, Shown}
use Rattle.reports.specs.Reports.{spaced, figure_text, answer_text, outcome_text, row_text, report_line}
use Rattle.reports.specs.Tells.{SaysFigure, SaysParts, Says, RowTells, LineTells}
use Rattle.reports.proofs.Bytes.{decimal_text, figure_is_text, no_high}

no_space : (word : List ℕ) → All (λ c. 45 ≤ c) word → All (λ c. (c == 32) ≡ false) word
no_space word high k d within =
    let above = high k d within in grind (arith, nat_tests)

first_word : (word words : List ℕ) → All (λ c. 45 ≤ c) word → words_of (spaced word words) ≡ word ∷ words_of words
first_word word words high = slice_split_at (λ b. b == 32) word 32 words (no_space word high) refl

last_word : (word : List ℕ) → All (λ c. 45 ≤ c) word → words_of word ≡ word ∷ []
last_word word high = slice_split_none (λ b. b == 32) word (no_space word high)

word_lacks : (word : List ℕ) → All (λ c. 45 ≤ c) word → Lacks 10 word
word_lacks word high = none_below word 10 high (omega arith)

spaced_lacks : (word words : List ℕ) → All (λ c. 45 ≤ c) word → Lacks 10 words → Lacks 10 (spaced word words)
spaced_lacks word words high lacks =
    All-append (λ b. b ≢ 10) word (32 ∷ words) (word_lacks word high)
    (All-cons (λ b. b ≢ 10) 32 words (λ is. omega arith) lacks)

-- words of which the first begins with a minus or a digit
record BeginLow (words : List (List ℕ)) : Type 0 where
  word : List ℕ
  rest : List (List ℕ)
  are : words ≡ word ∷ rest
  low : get_or word 0 0 ≤ 57

-- so that it is not `no`
not_no : (words : List (List ℕ)) → BeginLow words → get_or words 0 [] ≢ codes "no"
not_no words begin is =
    let first : get_or words 0 [] ≡ begin.word = ap (λ ws. get_or ws 0 []) begin.are in
    let letter : get_or begin.word 0 0 ≡ 110 = ap (λ w. get_or w 0 0) (sym first ∙ is) in
    let low = begin.low in
    omega arith

module _ (mark : ℕ) (marked : IsMark mark) where
  says_figure : (f : Figure) → SaysFigure mark f (figure_text mark f)
  says_figure f = record { text = refl; reads = λ short. numeral_spelled mark f.s f.q marked short.0 short.1 }

  says_parts : (a b : Figure) → SaysParts mark a b (words_of (spaced (figure_text mark a) (figure_text mark b)))
  says_parts a b = record {
    real = figure_text mark a;
    imaginary = figure_text mark b;
    two = first_word _ (figure_text mark b) (figure_is_text mark a marked).high
        ∙ ap (λ ws. figure_text mark a ∷ ws) (last_word _ (figure_is_text mark b marked).high);
    says_real = says_figure a;
    says_imaginary = says_figure b;
  }

  outcome_says : (outcome : Result Answer Stop) → Says mark outcome (words_of (outcome_text mark outcome))
  outcome_says (Ok (Value f)) =
      (figure_text mark f, last_word _ (figure_is_text mark f marked).high, says_figure f)
  outcome_says (Ok (Parts a b)) = says_parts a b
  outcome_says (Ok (Count n)) = last_word _ (decimal_text n).high
  outcome_says (Ok (Shown reading)) = (
    words_of (spaced (figure_text mark reading.real) (figure_text mark reading.imaginary)),
    first_word _ _ (decimal_text reading.count).high,
    says_parts reading.real reading.imaginary,
  )
  outcome_says (Err stop) =
      first_word (codes "no") (spaced (decimal stop.0) (decimal stop.1)) no_high
      ∙ ap (λ ws. codes "no" ∷ ws) (first_word (decimal stop.0) (decimal stop.1) (decimal_text stop.0).high
      ∙ ap (λ ws. decimal stop.0 ∷ ws) (last_word _ (decimal_text stop.1).high))

  answer_begins : (answer : Answer) → BeginLow (words_of (answer_text mark answer))
  answer_begins (Value f) =
      let is = figure_is_text mark f marked in
      record { word = figure_text mark f; rest = []; are = last_word (figure_text mark f) is.high; low = is.begin }
  answer_begins (Parts a b) =
      let is = figure_is_text mark a marked in record {
        word = figure_text mark a;
        rest = words_of (figure_text mark b);
        are = first_word (figure_text mark a) (figure_text mark b) is.high;
        low = is.begin;
      }
  answer_begins (Count n) =
      let is = decimal_text n in
      record { word = decimal n; rest = []; are = last_word (decimal n) is.high; low = is.begin }
  answer_begins (Shown reading) =
      let is = decimal_text reading.count in
      let behind = spaced (figure_text mark reading.real) (figure_text mark reading.imaginary) in record {
        word = decimal reading.count;
        rest = words_of behind;
        are = first_word (decimal reading.count) behind is.high;
        low = is.begin;
      }

  outcome_refused : (outcome : Result Answer Stop)
      → (get_or (words_of (outcome_text mark outcome)) 0 [] ≡ codes "no") ↔ IsErr outcome
  outcome_refused (Ok answer) = (λ no. absurd (not_no _ (answer_begins answer) no), λ err. cc)
  outcome_refused (Err stop) = (
    λ no. refl,
    λ err. ap (λ ws. get_or ws 0 []) (first_word (codes "no") (spaced (decimal stop.0) (decimal stop.1)) no_high),
  )

  parts_lack : (a b : Figure) → Lacks 10 (spaced (figure_text mark a) (figure_text mark b))
  parts_lack a b =
      spaced_lacks _ _ (figure_is_text mark a marked).high (word_lacks _ (figure_is_text mark b marked).high)

  outcome_lacks : (outcome : Result Answer Stop) → Lacks 10 (outcome_text mark outcome)
  outcome_lacks (Ok (Value f)) = word_lacks _ (figure_is_text mark f marked).high
  outcome_lacks (Ok (Parts a b)) = parts_lack a b
  outcome_lacks (Ok (Count n)) = word_lacks _ (decimal_text n).high
  outcome_lacks (Ok (Shown reading)) =
      spaced_lacks _ _ (decimal_text reading.count).high (parts_lack reading.real reading.imaginary)
  outcome_lacks (Err stop) =
      spaced_lacks (codes "no") (spaced (decimal stop.0) (decimal stop.1)) no_high
      (spaced_lacks (decimal stop.0) (decimal stop.1) (decimal_text stop.0).high
      (word_lacks (decimal stop.1) (decimal_text stop.1).high))

  pub row_tells : (number : ℕ) (outcome : Result Answer Stop)
      → RowTells mark number outcome (row_text mark number outcome)
  row_tells number outcome =
      let first = decimal_text number in
      let words = outcome_text mark outcome in
      let some : 0 < length (decimal number) = first.some in
      record {
        is_line = (
          omega (arith, length-append (decimal number) (32 ∷ words)),
          spaced_lacks (decimal number) words first.high (outcome_lacks outcome),
        );
        behind = words_of words;
        words = first_word (decimal number) words first.high;
        says = outcome_says outcome;
        refused = outcome_refused outcome;
      }

-- the line of a row tells what it should
pub line_tells : (mark number : ℕ) (outcome : Result Answer Stop) (bytes : List ℕ) → IsMark mark
    → bytes ≡ report_line mark number outcome → LineTells mark number outcome bytes
line_tells mark number outcome bytes marked is = record {
  line = row_text mark number outcome;
  closed = is;
  row = row_tells mark marked number outcome;
}
