-- An identity of ℤ in one line: `identity ρ (search reads depth n) (search reads depth n) tt`, where ρ lists the terms
-- that count as variables. The search reads each side of the goal back into an expression, and the test computes.
use Rattle.std.proofs.Common.{◌≡◌, ℕ, zero, suc, T, List, ◌∷◌, ℤ, pos, ◌+ℤ◌, ◌*ℤ◌, neg_ℤ, sym, refl, ap, ◌∙◌, ap₂}
use Rattle.whole.proofs.Polynomials.{Expression, variable, constant, ◌⊕◌, ◌⊗◌, opposite, look, value, same, same_value}

-- a place of the list at which z stands
pub record Listed (ρ : List ℤ) (z : ℤ) : Type 0 where
  pub place : ℕ
  pub is : look ρ place ≡ z

abbrev pub here : {ρ : List ℤ} {z : ℤ} → Listed (z ∷ ρ) z
here = record { place = zero; is = refl }

abbrev pub there : {ρ : List ℤ} {x z : ℤ} → Listed ρ z → Listed (x ∷ ρ) z
there l = record { place = suc l.place; is = l.is }

-- an expression for z
pub record Read (ρ : List ℤ) (z : ℤ) : Type 0 where
  pub term : Expression
  pub is : value ρ term ≡ z

abbrev pub read_variable : {ρ : List ℤ} {z : ℤ} → Listed ρ z → Read ρ z
read_variable l = record { term = variable l.place; is = l.is }

abbrev pub read_sum : {ρ : List ℤ} (x y : ℤ) → Read ρ x → Read ρ y → Read ρ (x +ℤ y)
read_sum x y a b = record { term = a.term ⊕ b.term; is = ap₂ (λ (p q : ℤ). p +ℤ q) a.is b.is }

abbrev pub read_product : {ρ : List ℤ} (x y : ℤ) → Read ρ x → Read ρ y → Read ρ (x *ℤ y)
read_product x y a b = record { term = a.term ⊗ b.term; is = ap₂ (λ (p q : ℤ). p *ℤ q) a.is b.is }

abbrev pub read_opposite : {ρ : List ℤ} (x : ℤ) → Read ρ x → Read ρ (neg_ℤ x)
read_opposite x a = record { term = opposite a.term; is = ap neg_ℤ a.is }

abbrev pub read_constant : {ρ : List ℤ} (n : ℕ) → Read ρ (pos n)
read_constant n = record { term = constant (pos n); is = refl }

pub ruleset reads = (here, there, read_variable, read_sum, read_product, read_opposite, read_constant)

pub identity : (ρ : List ℤ) {x y : ℤ} (a : Read ρ x) (b : Read ρ y) → T (same a.term b.term) → x ≡ y
identity ρ a b t = sym a.is ∙ same_value ρ a.term b.term t ∙ b.is
