-- What compares as equal is the same: refusals, answers, and results of both.
use Rattle.std.proofs.Common.{◌≡◌, true, ◌&&◌, Ok, Err, Result, nat_eq, rules, ap, sym}
use Rattle.std.specs.Result.{result_eq}
use Rattle.std.proofs.lemmas.Bool.{and_parts}
use Rattle.rounding.specs.declared.Refusal.{Refusal}
use Rattle.rounding.specs.contracts.RefusalPartialEq.TheImpl.{eq-value as refusals_equal}
use Rattle.rounding.specs.declared.Figure.{Figure}
use Rattle.rounding.specs.contracts.FigurePartialEq.TheImpl.{eq-value as figures_equal}
use Rattle.console.specs.declared.Reading.{Reading}
use Rattle.console.specs.contracts.ReadingPartialEq.TheImpl.{eq-value as readings_equal}
use Rattle.runs.specs.declared.Answer.{Answer}
use Rattle.runs.specs.declared.Answer.TheVariants.{Value, Parts, Count, Shown}
use Rattle.runs.specs.contracts.AnswerPartialEq.TheImpl.{eq-value as answers_equal}

same_refusal : (e f : Refusal) → refusals_equal.it e f ≡ true → e ≡ f
same_refusal e f h = search rules

same_figure : (f g : Figure) → figures_equal.it f g ≡ true → f ≡ g
same_figure f g h = search rules

pub same_reading : (r s : Reading) → readings_equal.it r s ≡ true → r ≡ s
same_reading r s h =
    let real_is = figures_equal.it r.real s.real in
    let imaginary_is = figures_equal.it r.imaginary s.imaginary in
    let parts = and_parts (nat_eq r.count s.count) (real_is && imaginary_is) h in
    let figures = and_parts real_is imaginary_is parts.1 in
    let count : r.count ≡ s.count = search (rules, parts.0) in
    let real = same_figure r.real s.real figures.0 in
    let imaginary = same_figure r.imaginary s.imaginary figures.1 in
    λ i. record { count = count i; real = real i; imaginary = imaginary i }

same_answer : (x y : Answer) → answers_equal.it x y ≡ true → x ≡ y
same_answer (Value f) y h = search rules
same_answer (Parts f g) (Parts k l) h =
    let e = and_parts (figures_equal.it f k) (figures_equal.it g l) h in
    cc (same_figure f k e.0, same_figure g l e.1)
same_answer (Parts f g) (Value k) h = cc
same_answer (Parts f g) (Count n) h = cc
same_answer (Parts f g) (Shown r) h = cc
same_answer (Count n) y h = search rules
same_answer (Shown r) (Shown s) h = ap Shown (same_reading r s h)
same_answer (Shown r) (Value k) h = cc
same_answer (Shown r) (Parts k l) h = cc
same_answer (Shown r) (Count n) h = cc

pub same_outcome : (r s : Result Answer Refusal) → true ≡ result_eq answers_equal.it refusals_equal.it r s → r ≡ s
same_outcome (Ok x) (Ok y) h = ap Ok (same_answer x y (sym h))
same_outcome (Err e) (Err f) h = ap Err (same_refusal e f (sym h))
same_outcome (Ok x) (Err f) h = cc
same_outcome (Err e) (Ok y) h = cc
