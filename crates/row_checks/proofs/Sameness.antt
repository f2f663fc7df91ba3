-- Lists of rows that compare as equal are the same.
use Rattle.std.proofs.Common.{◌≡◌, Bool, true, ◌&&◌, List, [], ◌∷◌, nat_eq, rules, refl}
use Rattle.std.specs.Cmp.Lexicographic.{pointwise}
use Rattle.std.proofs.lemmas.Bool.{and_parts}
use Rattle.rounding.specs.declared.Figure.{Figure}
use Rattle.rounding.specs.contracts.FigurePartialEq.TheImpl.{eq-value as figures_equal}
use Rattle.rows.specs.declared.Row.{Row}
use Rattle.rows.specs.contracts.RowPartialEq.TheImpl.{eq-value as rows_equal}

same_figure : (f g : Figure) → figures_equal.it f g ≡ true → f ≡ g
same_figure f g h = search rules

-- one figure, and what is compared after it
same_then : (f g : Figure) (rest : Bool) → (figures_equal.it f g && rest) ≡ true → (f ≡ g) × (rest ≡ true)
same_then f g rest h = let parts = and_parts (figures_equal.it f g) rest h in (same_figure f g parts.0, parts.1)

same_row : (r s : Row) → rows_equal.it r s ≡ true → r ≡ s
same_row r s h =
    let code = and_parts (nat_eq r.code s.code) _ h in
    let a = same_then r.a s.a _ code.1 in
    let b = same_then r.b s.b _ a.1 in
    let c = same_then r.c s.c _ b.1 in
    let d = same_then r.d s.d _ c.1 in
    let first = same_then r.first s.first _ d.1 in
    let second = same_then r.second s.second _ first.1 in
    let code_is : r.code ≡ s.code = search (rules, code.0) in
    let outcome_is : r.outcome ≡ s.outcome = search (rules, second.1) in
    λ i. record {
      code = code_is i;
      a = a.0 i;
      b = b.0 i;
      c = c.0 i;
      d = d.0 i;
      first = first.0 i;
      second = second.0 i;
      outcome = outcome_is i;
    }

pub same_rows : (rs ss : List Row) → pointwise rows_equal.it rs ss ≡ true → rs ≡ ss
same_rows [] [] h = refl
same_rows [] (s ∷ ss) h = cc
same_rows (r ∷ rs) [] h = cc
same_rows (r ∷ rs) (s ∷ ss) h =
    let parts = and_parts (rows_equal.it r s) (pointwise rows_equal.it rs ss) h in
    cc (same_row r s parts.0, same_rows rs ss parts.1)
