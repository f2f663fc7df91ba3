-- The symmetric method for ab + cd: p1 = RN(ab), p2 = RN(cd), e1 = RN(ab - p1), e2 = RN(cd - p2), r = RN(p1 + p2),
-- e = RN(e1 + e2), and the answer RN(r + e).
use Rattle.std.specs.Prelude.{ℕ, Result}
use Rattle.rounding.specs.declared.Figure.{Figure}
use Rattle.rounding.specs.Exact.{value, plus}
use Rattle.rounding.specs.Rounding.{rounded}
use Rattle.rounding.specs.Refusals.{after}
use Rattle.rounding.specs.Operations.{multiplied, added, fused_sum}
use Rattle.figures.specs.Figures.{flipped}
use Rattle.bounds.specs.Kahan.{rounded_product, product_error}

abbrev pub products_sum : ℕ → ℕ → Figure → Figure → Figure → Figure → Figure
products_sum β p a b c d = rounded β p (plus β (value (rounded_product β p a b)) (value (rounded_product β p c d)))

abbrev pub errors_sum : ℕ → ℕ → Figure → Figure → Figure → Figure → Figure
errors_sum β p a b c d = rounded β p (plus β (value (product_error β p a b)) (value (product_error β p c d)))

unfoldable pub symmetric : ℕ → ℕ → Figure → Figure → Figure → Figure → Figure
symmetric β p a b c d = rounded β p (plus β (value (products_sum β p a b c d)) (value (errors_sum β p a b c d)))

-- the same as seven operations, each of which may refuse
abbrev pub symmetric_steps : ℕ → ℕ → Figure → Figure → Figure → Figure → Result Figure ℕ
symmetric_steps β p a b c d =
    after (multiplied β p a b) (λ x. after (multiplied β p c d)
    (λ y. after (fused_sum β p a b (flipped x)) (λ s. after (fused_sum β p c d (flipped y))
    (λ t. after (added β p x y) (λ r. after (added β p s t) (λ e. added β p r e))))))
