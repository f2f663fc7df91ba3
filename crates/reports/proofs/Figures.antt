-- The figures that a batch shows have few digits, so that their texts read back.
use Rattle.std.proofs.Common.{◌≡◌, ℕ, zero, suc, ◌+◌, ◌-◌, ◌^◌, ◌<◌, inl, inr, Bool, true, false, if◌then◌else◌}
use Rattle.std.proofs.Common.{◌&&◌, ◌==◌, nat_lt, nat_le, unsigned_abs, Some, None, Ok, Option}
use Rattle.std.proofs.Common.{Result, refl, sym, ◌∙◌, subst, arith}
use Rattle.std.proofs.lemmas.Bool.Decides.{nat_tests}
use Rattle.rounding.specs.declared.Figure.{Figure}
use Rattle.rounding.specs.declared.Refusal.TheVariants.{OperandNoFigure, OperandRange}
use Rattle.rounding.specs.Operations.{is_figure, reaches}
use Rattle.rounding.specs.Refusals.{number, unless}
use Rattle.figures.specs.Figures.{opposite}
use Rattle.kinds.specs.Kinds.{IsKind}
use Rattle.bounds.specs.Fours.{fault, faults, Accepted}
use Rattle.bounds.specs.Methods.{Function, IsReliable}
use Rattle.bounds.proofs.Orders.{determinant_accepted, real_accepted, imaginary_accepted}
use Rattle.lanes.specs.Turning.{no_lane}
use Rattle.histories.specs.declared.Call.{Call}
use Rattle.histories.specs.declared.Call.TheVariants.{Sum, Determinant, Product, Turn, Restart, Read}
use Rattle.histories.specs.Histories.{History, course}
use Rattle.runs.specs.declared.Answer.{Answer}
use Rattle.runs.specs.declared.Answer.TheVariants.{Value, Count, Shown}
use Rattle.runs.specs.Answers.{mapped, parts}
use Rattle.runs.specs.Following.{foreseen, Follows, TurnFollows, ReadingFollows}
use Rattle.reports.specs.Tells.{IsShort, HasShort}

-- a figure of a kind has a significand of at most 24 bits, and an exponent in -2000..2000
pub figure_short : (β p : ℕ) (f : Figure) → IsKind β p → is_figure β p f ≡ true → IsShort f
figure_short β p f kind test = go (unsigned_abs f.s) (unsigned_abs f.q) refl refl test
  where
    go : (s q : ℕ) → unsigned_abs f.s ≡ s → unsigned_abs f.q ≡ q
        → (if s == 0 then q == 0 else (nat_le (β ^ (p - 1)) s && (nat_lt s (β ^ p) && nat_le q 2000))) ≡ true
        → IsShort f
    go zero q es eq is = let none : q ≡ 0 = grind (arith, nat_tests) in (omega arith, omega arith)
    go (suc s) q es eq is =
        let high : suc s < β ^ p = grind (arith, nat_tests) in
        let near : q < 2001 = grind (arith, nat_tests) in
        (omega (arith, kind.3), omega arith)

-- so has what a method accepts
pub accepted_short : (β p : ℕ) (f : Figure) → IsKind β p → fault β p f ≡ None → IsShort f
accepted_short β p f kind none = figure_short β p f kind (go (is_figure β p f) (reaches 200 f) none)
  where
    go : (a b : Bool)
        → (if a then (if b then None else Some (number OperandRange)) else Some (number OperandNoFigure)) ≡ None
        → a ≡ true
    go true b is = refl
    go false b is = cc

-- an answer is the case of what was not refused
value_short : (o : Option ℕ) (f : Figure) (answer : Answer) → (o ≡ None → IsShort f)
    → mapped Value (unless o f) ≡ Ok answer → HasShort answer
value_short None f answer short is = let same : Value f ≡ answer = cc in subst HasShort same (short refl)
value_short (Some e) f answer short is = cc

parts_short : (o : Option ℕ) (z : Figure × Figure) (answer : Answer) → (o ≡ None → IsShort z.0 × IsShort z.1)
    → mapped parts (unless o z) ≡ Ok answer → HasShort answer
parts_short None z answer short is = let same : parts z ≡ answer = cc in subst HasShort same (short refl)
parts_short (Some e) z answer short is = cc

count_short : (o : Option ℕ) (n : ℕ) (answer : Answer) → mapped Count (unless o n) ≡ Ok answer → HasShort answer
count_short None n answer is = let same : Count n ≡ answer = cc in subst HasShort same tt
count_short (Some e) n answer is = cc

module _ (β p : ℕ) (kind : IsKind β p) (N D : ℕ) (m : Function) (law : IsReliable β p N D m) where
  method_short : (a b c d : Figure) → Accepted β p a b c d → IsShort (m a b c d)
  method_short a b c d accepted = figure_short β p (m a b c d) kind (law.figure a b c d accepted)

  module _ (h : History) (r : Result Answer ℕ) (answer : Answer) (is : r ≡ Ok answer) where
    turn_short : (i : ℕ) (c d : Figure) → TurnFollows β p (course β i h) i c d r → HasShort answer
    turn_short i c d follows = go (foreseen β p (course β i h).turns i c d) refl
      where
        go : (o : Option ℕ) → foreseen β p (course β i h).turns i c d ≡ o → HasShort answer
        go (Some e) stopped = let refused = follows.refused e stopped in cc
        go None free = elim (follows.accepted free) [
          | inl counted ↦ subst HasShort (let same : Count ((course β i h).turns + 1) ≡ answer = cc in same) tt
          | inr strayed ↦ cc
        ]

    reading_short : (i : ℕ) → ReadingFollows β p N D (course β i h) i r → HasShort answer
    reading_short i follows = go (no_lane i) refl
      where
        go : (o : Option ℕ) → no_lane i ≡ o → HasShort answer
        go (Some e) stopped = let refused = follows.refused e stopped in cc
        go None there =
            let shown = follows.accepted there in
            let given = shown.1.0 in
            let same : Shown shown.0 ≡ answer = cc in
            subst HasShort same (
              accepted_short β p shown.0.real kind shown.1.1.real,
              accepted_short β p shown.0.imaginary kind shown.1.1.imaginary,
            )

    -- what answers a call after a history has short figures alone
    pub answers_short : (call : Call) → Follows β p N D m h call r → HasShort answer
    answers_short (Sum a b c d) follows =
        value_short _ _ answer (method_short a b c d) (sym follows ∙ is)
    answers_short (Determinant a b c d) follows =
        value_short _ _ answer
        (λ accepted. method_short a d (opposite b) c (determinant_accepted β p kind a b c d accepted))
        (sym follows ∙ is)
    answers_short (Product a b c d) follows =
        parts_short (faults β p a b c d) (m a c (opposite b) d, m a d b c) answer
        (λ accepted. (
          method_short a c (opposite b) d (real_accepted β p kind a b c d accepted),
          method_short a d b c (imaginary_accepted β p kind a b c d accepted),
        ))
        (sym follows ∙ is)
    answers_short (Turn i c d) follows = turn_short i c d follows
    answers_short (Restart i) follows = count_short (no_lane i) 0 answer (sym follows ∙ is)
    answers_short (Read i) follows = reading_short i follows
