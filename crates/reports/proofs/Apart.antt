-- No line of a report is that of two rows.
use Rattle.std.proofs.Common.{◌≡◌, ◌≢◌, ◌↔◌, ℕ, ◌<◌, List, [], ◌∷◌, length, get_or, inl, inr}
use Rattle.std.proofs.Common.{decimal, Ok, Err, Result, IsErr, refl, sym, ap, ◌∙◌, subst, arith, length-append}
use Rattle.std.proofs.lemmas.Fmt.{decimal_injective}
use Rattle.std.proofs.lemmas.List.{get_or_at, append_cancel_right}
use Rattle.std.specs.Fmt.{signed_decimal}
use Rattle.std.specs.Int.{IsInRange}
use Rattle.rounding.specs.declared.Figure.{Figure}
use Rattle.kinds.specs.Kinds.{IsMark}
use Rattle.reading.specs.declared.Numeral.{Numeral}
use Rattle.requests.specs.Faults.{Stop}
use Rattle.console.specs.declared.Reading.{Reading}
use Rattle.runs.specs.declared.Answer.{Answer}
use Rattle.runs.specs.declared.Answer.TheVariants.{Value, Parts, Count, Shown}
use Rattle.reports.specs.Reports.{figure_text, row_text}
use Rattle.reports.specs.Tells.{IsShort, SaysFigure, SaysParts, Says, RowTells, IsReadable, TellsOneRow}
use Rattle.reports.proofs.Bytes.{decimal_digits}
use Rattle.reports.proofs.Tells.{row_tells}

module _ (mark : ℕ) (marked : IsMark mark) where
  same_figure : (f g : Figure) (word other : List ℕ) → word ≡ other → SaysFigure mark f word → SaysFigure mark g other
      → IsShort f → IsShort g → f ≡ g
  same_figure f g word other same one two short too =
      let first = one.reads short in
      let second = two.reads too in
      let both : record { figure = f; mark = mark } ≡ record { figure = g; mark = mark } = cc in
      ap (λ (n : Numeral). n.figure) both

  same_parts : (a b c d : Figure) (words : List (List ℕ)) → SaysParts mark a b words → SaysParts mark c d words
      → IsShort a × IsShort b → IsShort c × IsShort d → (a ≡ c) × (b ≡ d)
  same_parts a b c d words one two short too =
      let real : one.real ≡ two.real = cc in
      let imaginary : one.imaginary ≡ two.imaginary = cc in (
        same_figure a c _ _ real one.says_real two.says_real short.0 too.0,
        same_figure b d _ _ imaginary one.says_imaginary two.says_imaginary short.1 too.1,
      )

  -- a figure has a mark, and a count has digits alone
  no_count : (f : Figure) (n : ℕ) → figure_text mark f ≢ decimal n
  no_count f n same =
      let i = length (signed_decimal f.s) in
      let at : get_or (figure_text mark f) i 0 ≡ mark =
      get_or_at (signed_decimal f.s) mark (signed_decimal f.q) 0 i refl in
      let within : i < length (decimal n) =
      omega (arith, ap length same, length-append (signed_decimal f.s) (mark ∷ signed_decimal f.q)) in
      let digit : IsInRange 48 57 (get_or (decimal n) i 0) = (decimal_digits n).each i 0 within in
      let here : get_or (decimal n) i 0 ≡ mark = ap (λ t. get_or t i 0) (sym same) ∙ at in
      elim marked [ inl p ↦ omega arith | inr e ↦ omega arith ]

  figure_no_count : (f : Figure) (n : ℕ) (words : List (List ℕ)) → Says mark (Ok (Value f)) words
      → Says mark (Ok (Count n)) words → ⊥
  figure_no_count f n words one two = no_count f n (cc)

  same_answer : (x y : Answer) (words : List (List ℕ)) → Says mark (Ok x) words → Says mark (Ok y) words
      → IsReadable (Ok x) → IsReadable (Ok y) → x ≡ y
  same_answer (Value f) (Value g) words one two short too =
      let same : one.0 ≡ two.0 = cc in
      ap Value (same_figure f g _ _ same one.2 two.2 short too)
  same_answer (Value f) (Parts c d) words one two short too = cc
  same_answer (Value f) (Count n) words one two short too = absurd (figure_no_count f n words one two)
  same_answer (Value f) (Shown r) words one two short too = cc
  same_answer (Parts a b) (Value g) words one two short too = cc
  same_answer (Parts a b) (Parts c d) words one two short too =
      let same = same_parts a b c d words one two short too in cc
  same_answer (Parts a b) (Count n) words one two short too = cc
  same_answer (Parts a b) (Shown r) words one two short too = cc
  same_answer (Count n) (Value g) words one two short too = absurd (figure_no_count g n words two one)
  same_answer (Count n) (Parts c d) words one two short too = cc
  same_answer (Count n) (Count m) words one two short too =
      let same : decimal n ≡ decimal m = cc in
      ap Count (decimal_injective n m short too same)
  same_answer (Count n) (Shown r) words one two short too = cc
  same_answer (Shown r) (Value g) words one two short too = cc
  same_answer (Shown r) (Parts c d) words one two short too = cc
  same_answer (Shown r) (Count n) words one two short too = cc
  same_answer (Shown r) (Shown t) words one two short too =
      let counts : decimal r.count ≡ decimal t.count = cc in
      let behind : two.0 ≡ one.0 = cc in
      let same = same_parts r.real r.imaginary t.real t.imaginary one.0 one.2
      (subst (λ ws. SaysParts mark t.real t.imaginary ws) behind two.2)
      (short.1, short.2) (too.1, too.2) in
      let count = decimal_injective r.count t.count short.0 too.0 counts in
      let both : ◌≡◌ {A = Reading} (record { count = r.count; real = r.real; imaginary = r.imaginary })
      (record { count = t.count; real = t.real; imaginary = t.imaginary }) = cc in
      ap Shown both

  same_stop : (x y : Stop) (words : List (List ℕ)) → Says mark (Err x) words → Says mark (Err y) words
      → IsReadable (Err x) → IsReadable (Err y) → x ≡ y
  same_stop x y words one two short too =
      let refusals : decimal x.0 ≡ decimal y.0 = cc in
      let places : decimal x.1 ≡ decimal y.1 = cc in
      let refusal = decimal_injective x.0 y.0 short.0 too.0 refusals in
      let place = decimal_injective x.1 y.1 short.1 too.1 places in
      let both : (x.0, x.1) ≡ (y.0, y.1) = cc in
      both

  same_outcome : (n m : ℕ) (x y : Result Answer Stop) (line : List ℕ) → RowTells mark n x line
      → RowTells mark m y line → IsReadable x → IsReadable y → x ≡ y
  same_outcome n m x y line one two short too =
      let behind : two.behind ≡ one.behind = cc in
      go x y one.behind one.says (subst (λ ws. Says mark y ws) behind two.says) one.refused
      (subst (λ ws. (get_or ws 0 [] ≡ no) ↔ IsErr y) behind two.refused) short too
    where
      no : List ℕ
      no = 110 ∷ 111 ∷ []

      go : (x y : Result Answer Stop) (words : List (List ℕ)) → Says mark x words → Says mark y words
          → (get_or words 0 [] ≡ no) ↔ IsErr x → (get_or words 0 [] ≡ no) ↔ IsErr y
          → IsReadable x → IsReadable y → x ≡ y
      go (Ok a) (Ok b) words one two r s short too = ap Ok (same_answer a b words one two short too)
      go (Ok a) (Err t) words one two r s short too = let wrong = r.0 (s.1 refl) in cc
      go (Err t) (Ok b) words one two r s short too = let wrong = s.0 (r.1 refl) in cc
      go (Err t) (Err u) words one two r s short too = ap Err (same_stop t u words one two short too)

  pub one_row : TellsOneRow mark
  one_row n m x y fits too short also same =
      let one = row_tells mark marked n x in
      let two = row_tells mark marked m y in
      let line = append_cancel_right (row_text mark n x) (row_text mark m y) (10 ∷ []) same in
      let second : RowTells mark m y (row_text mark n x) =
      subst (λ l. RowTells mark m y l) (sym line) two in
      let numbers : decimal n ≡ decimal m = cc in
      (decimal_injective n m fits too numbers, same_outcome n m x y _ one second short also)
