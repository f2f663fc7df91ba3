-- The difference ab - cd, worked out in two ways, as chains of operations.
use Rattle.std.specs.Prelude.{ℕ, Result}
use Rattle.rounding.specs.declared.Figure.{Figure}
use Rattle.figures.specs.Figures.{flipped}
use Rattle.rounding.specs.Refusals.{after}
use Rattle.checked_calls.specs.declared.calls.Arrangement.{Arrangement}
use Rattle.checked_calls.specs.declared.calls.Call.TheVariants.{Multiply, Add, Fused}
use Rattle.checked_calls.specs.Calls.{answer_of}
use Rattle.heats.specs.declared.Heat.{Heat}

-- both products rounded, and then their difference
abbrev pub products_first : Arrangement → Heat → Result Figure ℕ
products_first by h =
    after (answer_of by (Multiply h.a h.b))
    (λ x. after (answer_of by (Multiply h.c h.d)) (λ y. answer_of by (Add x (flipped y))))

-- one product rounded and its error kept: w = -cd, e = -cd - w, f = ab + w, and f + e
abbrev pub error_kept : Arrangement → Heat → Result Figure ℕ
error_kept by h =
    after (answer_of by (Multiply (flipped h.c) h.d))
    (λ w. after (answer_of by (Fused (flipped h.c) h.d (flipped w)))
    (λ e. after (answer_of by (Fused h.a h.b w)) (λ f. answer_of by (Add f e))))
