-- What an accepted four consists of, and when an operation on figures does not refuse.
use Rattle.std.proofs.Common.{◌≡◌, ℕ, zero, suc, ◌-◌, ◌^◌, ◌<◌, ◌≤◌, Bool, true, false, cond, if◌then◌else◌, ◌&&◌}
use Rattle.std.proofs.Common.{◌==◌, nat_lt, nat_le, unsigned_abs, Some, None, Ok, Option, refl, ap, ◌∙◌, inl, inr}
use Rattle.std.proofs.Common.{arith}
use Rattle.std.proofs.lemmas.Bool.Decides.{nat_tests}
use Rattle.whole.proofs.Comparisons.{size_zero}
use Rattle.rounding.specs.declared.Figure.{Figure}
use Rattle.rounding.specs.declared.Refusal.TheVariants.{NoFigure, OperandNoFigure, OperandRange, ResultRange}
use Rattle.rounding.specs.Exact.{Exact, value, product, plus}
use Rattle.rounding.specs.Rounding.{rounded}
use Rattle.rounding.specs.Nearest.{Normal}
use Rattle.rounding.specs.Refusals.{number, first, unless}
use Rattle.rounding.specs.Operations.{is_figure, reaches, no_figure, outside, answered, multiplied, added, fused_sum}
use Rattle.bounds.specs.Fours.{fault, Accepted}

-- the figure test, on sizes
abbrev Test : ℕ → ℕ → ℕ → ℕ → Bool
Test β p s q = if s == 0 then q == 0 else (nat_le (β ^ (p - 1)) s && (nat_lt s (β ^ p) && nat_le q 2000))

pub normal_of : (β p : ℕ) (f : Figure) → is_figure β p f ≡ true → Normal β p f
normal_of β p f t = go (unsigned_abs f.s) (unsigned_abs f.q) refl refl t
  where
    go : (s q : ℕ) → unsigned_abs f.s ≡ s → unsigned_abs f.q ≡ q → Test β p s q ≡ true → Normal β p f
    go zero q es eq h =
        let z : q ≡ 0 = grind (arith, nat_tests) in inl (size_zero f.s es, size_zero f.q (eq ∙ z))
    go (suc s) q es eq h =
        let lo : β ^ (p - 1) ≤ suc s = grind (arith, nat_tests) in
        let hi : suc s < β ^ p = grind (arith, nat_tests) in
        inr (omega arith, omega arith)

pub figure_of : (β p : ℕ) (f : Figure) → Normal β p f → 1 ≤ β ^ (p - 1) → unsigned_abs f.q ≤ 2000
    → is_figure β p f ≡ true
figure_of β p f (inl z) one near =
    none (unsigned_abs f.s) (unsigned_abs f.q) (ap unsigned_abs z.0) (ap unsigned_abs z.1)
  where
    none : (s q : ℕ) → s ≡ 0 → q ≡ 0 → Test β p s q ≡ true
    none s q a b = grind (arith, nat_tests)
figure_of β p f (inr z) one near = full (unsigned_abs f.s) (unsigned_abs f.q) z.0 z.1 near
  where
    full : (s q : ℕ) → β ^ (p - 1) ≤ s → s < β ^ p → q ≤ 2000 → Test β p s q ≡ true
    full s q a b c = grind (arith, nat_tests)

-- an operand without a fault
pub record Operand (β p : ℕ) (f : Figure) : Type 0 where
  pub figure : is_figure β p f ≡ true
  pub near : unsigned_abs f.q ≤ 200

operand : (β p : ℕ) (f : Figure) → fault β p f ≡ None → Operand β p f
operand β p f e = go (is_figure β p f) (reaches 200 f) refl refl e
  where
    go : (a b : Bool) → is_figure β p f ≡ a → reaches 200 f ≡ b
        → (if a then (if b then None else Some (number OperandRange)) else Some (number OperandNoFigure)) ≡ None
        → Operand β p f
    go true true x y h = record { figure = x; near = grind (arith, nat_tests) }
    go true false x y h = cc
    go false b x y h = cc

pub none_first : (o u : Option ℕ) → first o u ≡ None → (o ≡ None) × (u ≡ None)
none_first (Some e) u h = cc
none_first None u h = (refl, h)

pub record Four (β p : ℕ) (a b c d : Figure) : Type 0 where
  pub a_in : Operand β p a
  pub b_in : Operand β p b
  pub c_in : Operand β p c
  pub d_in : Operand β p d

pub four : (β p : ℕ) (a b c d : Figure) → Accepted β p a b c d → Four β p a b c d
four β p a b c d h =
    let x = none_first (fault β p a) (first (fault β p b) (first (fault β p c) (fault β p d))) h in
    let y = none_first (fault β p b) (first (fault β p c) (fault β p d)) x.1 in
    let z = none_first (fault β p c) (fault β p d) y.1 in
    record {
      a_in = operand β p a x.0;
      b_in = operand β p b y.0;
      c_in = operand β p c z.0;
      d_in = operand β p d z.1;
    }

-- operations that do not refuse
answered_ok : (β p : ℕ) (o : Option ℕ) (x : Exact) → o ≡ None → unsigned_abs (rounded β p x).q ≤ 500
    → answered β p o x ≡ Ok (rounded β p x)
answered_ok β p o x e h =
    let t : reaches 2000 (rounded β p x) ≡ true = grind (arith, nat_tests) in
    ap (λ (u : Option ℕ). unless (first u (outside (rounded β p x))) (rounded β p x)) e
    ∙ ap (λ (b : Bool). unless (cond b None (Some (number ResultRange))) (rounded β p x)) t

no_fault : (β p : ℕ) (f : Figure) → is_figure β p f ≡ true → no_figure β p f ≡ None
no_fault β p f t = ap (λ (b : Bool). cond b None (Some (number NoFigure))) t

no_faults : (β p : ℕ) (x y : Figure) → is_figure β p x ≡ true → is_figure β p y ≡ true
    → first (no_figure β p x) (no_figure β p y) ≡ None
no_faults β p x y a b = ap (λ (o : Option ℕ). first o (no_figure β p y)) (no_fault β p x a) ∙ no_fault β p y b

pub multiplied_ok : (β p : ℕ) (x y : Figure) → is_figure β p x ≡ true → is_figure β p y ≡ true
    → unsigned_abs (rounded β p (product x y)).q ≤ 500 → multiplied β p x y ≡ Ok (rounded β p (product x y))
multiplied_ok β p x y a b t = answered_ok β p _ (product x y) (no_faults β p x y a b) t

pub added_ok : (β p : ℕ) (x y : Figure) → is_figure β p x ≡ true → is_figure β p y ≡ true
    → unsigned_abs (rounded β p (plus β (value x) (value y))).q ≤ 500
    → added β p x y ≡ Ok (rounded β p (plus β (value x) (value y)))
added_ok β p x y a b t = answered_ok β p _ (plus β (value x) (value y)) (no_faults β p x y a b) t

pub fused_ok : (β p : ℕ) (x y z : Figure) → is_figure β p x ≡ true → is_figure β p y ≡ true → is_figure β p z ≡ true
    → unsigned_abs (rounded β p (plus β (product x y) (value z))).q ≤ 500
    → fused_sum β p x y z ≡ Ok (rounded β p (plus β (product x y) (value z)))
fused_ok β p x y z a b c t = answered_ok β p _ (plus β (product x y) (value z))
    (ap (λ (o : Option ℕ). first o (first (no_figure β p y) (no_figure β p z))) (no_fault β p x a)
    ∙ no_faults β p y z b c) t
