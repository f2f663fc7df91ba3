-- Kahan's method for ab + cd: w = RN(cd), e = RN(cd - w), f = RN(ab + w), and the answer RN(f + e).
use Rattle.std.specs.Prelude.{ℕ, Result}
use Rattle.rounding.specs.declared.Figure.{Figure}
use Rattle.rounding.specs.Exact.{value, product, plus}
use Rattle.rounding.specs.Rounding.{rounded}
use Rattle.rounding.specs.Refusals.{after}
use Rattle.rounding.specs.Operations.{multiplied, added, fused_sum}
use Rattle.figures.specs.Figures.{opposite, flipped}

abbrev pub rounded_product : ℕ → ℕ → Figure → Figure → Figure
rounded_product β p c d = rounded β p (product c d)

abbrev pub product_error : ℕ → ℕ → Figure → Figure → Figure
product_error β p c d = rounded β p (plus β (product c d) (value (opposite (rounded_product β p c d))))

abbrev pub fused_first : ℕ → ℕ → Figure → Figure → Figure → Figure → Figure
fused_first β p a b c d = rounded β p (plus β (product a b) (value (rounded_product β p c d)))

unfoldable pub kahan : ℕ → ℕ → Figure → Figure → Figure → Figure → Figure
kahan β p a b c d = rounded β p (plus β (value (fused_first β p a b c d)) (value (product_error β p c d)))

-- the same as four operations, each of which may refuse
abbrev pub kahan_steps : ℕ → ℕ → Figure → Figure → Figure → Figure → Result Figure ℕ
kahan_steps β p a b c d =
    after (multiplied β p c d) (λ w. after (fused_sum β p c d (flipped w))
    (λ e. after (fused_sum β p a b w) (λ f. added β p f e)))
