-- Of an accepted four no operation of either method refuses, and every step lies in a known range.
use Rattle.std.proofs.Common.{◌≡◌, ℕ, ◌+◌, ◌-◌, ◌*◌, ◌^◌, ◌<◌, ◌≤◌, Bool, true, cond, nat_lt, ℤ, pos, ◌+ℤ◌}
use Rattle.std.proofs.Common.{unsigned_abs, ◌≤ℤ◌, Ok, Result, sym, ap, ◌∙◌, subst, inl, inr, arith}
use borrow.Author.Differences.{ints}
use Rattle.std.proofs.lemmas.Bool.Decides.{nat_tests}
use Rattle.whole.proofs.Powers.{power_pos}
use Rattle.rounding.specs.declared.Figure.{Figure}
use Rattle.rounding.specs.Exact.{value, product}
use Rattle.rounding.specs.Refusals.{after}
use Rattle.rounding.specs.Operations.{is_figure, multiplied, added, fused_sum}
use Rattle.figures.specs.Figures.{opposite, flipped}
use Rattle.kinds.specs.Kinds.{IsKind}
use Rattle.kinds.proofs.Sizes.{radix_two, few_digits}
use Rattle.bounds.specs.Fours.{Accepted}
use Rattle.bounds.specs.Kahan.{rounded_product, product_error, fused_first, kahan, kahan_steps}
use Rattle.bounds.specs.Symmetric.{products_sum, errors_sum, symmetric, symmetric_steps}
use Rattle.bounds.proofs.Ranges.{Lies, Spans, lies_small, lies_near, lies_spans, lies_opposite, spans_later}
use Rattle.bounds.proofs.Ranges.{product_spans, rounded_lies, sum_lies}
use Rattle.bounds.proofs.Operands.{normal_of, figure_of, Operand, Four, four, multiplied_ok, added_ok, fused_ok}

module _ (β p : ℕ) (kind : IsKind β p) where
  two : 2 ≤ β
  two = radix_two β p kind

  some : 2 ≤ p
  some = kind.1

  few : p ≤ 24
  few = few_digits β p kind

  -- a figure at one of the levels is a figure of the kind, and its opposite fits a word
  pub lies_figure : (n : ℕ) (f : Figure) → n ≤ 4 → Lies β p n f → is_figure β p f ≡ true
  lies_figure n f h l = figure_of β p f l.normal (power_pos β (p - 1) two)
      (let near : unsigned_abs f.q ≤ 500 = lies_near β p two some few n f h l in omega arith)

  lies_flipped : (n : ℕ) (f : Figure) → Lies β p n f → flipped f ≡ opposite f
  lies_flipped n f l =
      let small : unsigned_abs f.s < β ^ p = lies_small β p two some few n f l in
      let top : β ^ p ≤ 16777216 = kind.3 in
      let t : nat_lt (unsigned_abs f.s) (2 ^ 31) ≡ true = grind (arith, nat_tests) in
      ap (λ (b : Bool). cond b (opposite f) f) t

  -- two operands, their product, its rounding and its error
  module _ (c d : Figure) (c_in : Operand β p c) (d_in : Operand β p d) where
    size : (f : Figure) → is_figure β p f ≡ true → unsigned_abs f.s < β ^ p
    size f t = elim (normal_of β p f t) [
      | inl z ↦ subst (λ (s : ℤ). unsigned_abs s < β ^ p) (sym z.0) (power_pos β p two)
      | inr n ↦ n.1
    ]

    pub product_in : Spans β 0 (product c d)
    product_in = product_spans β p two some few c d (size c c_in.figure) (size d d_in.figure)
        c_in.near d_in.near

    pub w_lies : Lies β p 1 (rounded_product β p c d)
    w_lies = rounded_lies β p two some few 0 (product c d) product_in.m product_in.small product_in.low
        (room (product c d).e product_in.m product_in.high)
      where
        room : (e : ℤ) (m : ℕ) → (e +ℤ pos m) ≤ℤ pos (448 + 2 * 0) → (e +ℤ pos m) ≤ℤ pos (449 + 2 * 0)
        room e m h = omega (arith, ints)

    pub e_lies : Lies β p 2 (product_error β p c d)
    e_lies = sum_lies β p two some few 1 (product c d) (value (opposite (rounded_product β p c d)))
        (spans_later β p two some few 0 (product c d) product_in)
        (lies_spans β p two some few 1 (opposite (rounded_product β p c d))
        (lies_opposite β p two some few 1 (rounded_product β p c d) w_lies))

    pub w_ok : multiplied β p c d ≡ Ok (rounded_product β p c d)
    w_ok = multiplied_ok β p c d c_in.figure d_in.figure (lies_near β p two some few 1 _ (omega arith) w_lies)

    pub e_ok : fused_sum β p c d (flipped (rounded_product β p c d)) ≡ Ok (product_error β p c d)
    e_ok = ap (fused_sum β p c d) (lies_flipped 1 (rounded_product β p c d) w_lies)
        ∙ fused_ok β p c d (opposite (rounded_product β p c d)) c_in.figure d_in.figure
        (lies_figure 1 _ (omega arith) (lies_opposite β p two some few 1 _ w_lies))
        (lies_near β p two some few 2 _ (omega arith) e_lies)

  -- an accepted four
  module _ (a b c d : Figure) (accepted : Accepted β p a b c d) where
    all : Four β p a b c d
    all = four β p a b c d accepted

    p1 : Lies β p 1 (rounded_product β p a b)
    p1 = w_lies a b all.a_in all.b_in

    p2 : Lies β p 1 (rounded_product β p c d)
    p2 = w_lies c d all.c_in all.d_in

    e1 : Lies β p 2 (product_error β p a b)
    e1 = e_lies a b all.a_in all.b_in

    e2 : Lies β p 2 (product_error β p c d)
    e2 = e_lies c d all.c_in all.d_in

    spans : (n : ℕ) (f : Figure) → Lies β p n f → Spans β n (value f)
    spans n f l = lies_spans β p two some few n f l

    near : (n : ℕ) (f : Figure) → n ≤ 4 → Lies β p n f → unsigned_abs f.q ≤ 500
    near n f h l = lies_near β p two some few n f h l

    pub f_lies : Lies β p 2 (fused_first β p a b c d)
    f_lies = sum_lies β p two some few 1 (product a b) (value (rounded_product β p c d))
        (spans_later β p two some few 0 (product a b) (product_in a b all.a_in all.b_in))
        (spans 1 (rounded_product β p c d) p2)

    pub kahan_lies : Lies β p 3 (kahan β p a b c d)
    unfolding kahan
    kahan_lies = sum_lies β p two some few 2 (value (fused_first β p a b c d)) (value (product_error β p c d))
        (spans 2 _ f_lies) (spans 2 _ e2)

    pub kahan_steps_lem : kahan_steps β p a b c d ≡ Ok (kahan β p a b c d)
    unfolding kahan
    kahan_steps_lem =
        ap (λ (r : Result Figure ℕ). after r (λ w. after (fused_sum β p c d (flipped w))
        (λ e. after (fused_sum β p a b w) (λ f. added β p f e)))) (w_ok c d all.c_in all.d_in)
        ∙ ap (λ (r : Result Figure ℕ). after r (λ e. after (fused_sum β p a b (rounded_product β p c d))
        (λ f. added β p f e))) (e_ok c d all.c_in all.d_in)
        ∙ ap (λ (r : Result Figure ℕ). after r (λ f. added β p f (product_error β p c d)))
        (fused_ok β p a b (rounded_product β p c d) all.a_in.figure all.b_in.figure
        (lies_figure 1 _ (omega arith) p2) (near 2 _ (omega arith) f_lies))
        ∙ added_ok β p (fused_first β p a b c d) (product_error β p c d) (lies_figure 2 _ (omega arith) f_lies)
        (lies_figure 2 _ (omega arith) e2) (near 3 _ (omega arith) kahan_lies)

    pub r_lies : Lies β p 2 (products_sum β p a b c d)
    r_lies = sum_lies β p two some few 1 (value (rounded_product β p a b)) (value (rounded_product β p c d))
        (spans 1 _ p1) (spans 1 _ p2)

    pub e_sum : Lies β p 3 (errors_sum β p a b c d)
    e_sum = sum_lies β p two some few 2 (value (product_error β p a b)) (value (product_error β p c d))
        (spans 2 _ e1) (spans 2 _ e2)

    pub symmetric_lies : Lies β p 4 (symmetric β p a b c d)
    unfolding symmetric
    symmetric_lies = sum_lies β p two some few 3 (value (products_sum β p a b c d)) (value (errors_sum β p a b c d))
        (spans_later β p two some few 2 _ (spans 2 _ r_lies)) (spans 3 _ e_sum)

    abbrev x : Figure
    x = rounded_product β p a b

    abbrev y : Figure
    y = rounded_product β p c d

    abbrev s : Figure
    s = product_error β p a b

    abbrev t : Figure
    t = product_error β p c d

    pub symmetric_steps_lem : symmetric_steps β p a b c d ≡ Ok (symmetric β p a b c d)
    unfolding symmetric
    symmetric_steps_lem =
        ap (λ (r : Result Figure ℕ). after r (λ x. after (multiplied β p c d)
        (λ y. after (fused_sum β p a b (flipped x)) (λ s. after (fused_sum β p c d (flipped y))
        (λ t. after (added β p x y) (λ r. after (added β p s t) (λ e. added β p r e)))))))
        (w_ok a b all.a_in all.b_in)
        ∙ ap (λ (r : Result Figure ℕ). after r
        (λ y. after (fused_sum β p a b (flipped x)) (λ s. after (fused_sum β p c d (flipped y))
        (λ t. after (added β p x y) (λ r. after (added β p s t) (λ e. added β p r e))))))
        (w_ok c d all.c_in all.d_in)
        ∙ ap (λ (r : Result Figure ℕ). after r (λ s. after (fused_sum β p c d (flipped y))
        (λ t. after (added β p x y) (λ r. after (added β p s t) (λ e. added β p r e)))))
        (e_ok a b all.a_in all.b_in)
        ∙ ap (λ (r : Result Figure ℕ). after r (λ t. after (added β p x y)
        (λ r. after (added β p s t) (λ e. added β p r e)))) (e_ok c d all.c_in all.d_in)
        ∙ ap (λ (r : Result Figure ℕ). after r (λ r. after (added β p s t) (λ e. added β p r e)))
        (added_ok β p x y (lies_figure 1 _ (omega arith) p1) (lies_figure 1 _ (omega arith) p2)
        (near 2 _ (omega arith) r_lies))
        ∙ ap (λ (r : Result Figure ℕ). after r (λ e. added β p (products_sum β p a b c d) e))
        (added_ok β p s t (lies_figure 2 _ (omega arith) e1) (lies_figure 2 _ (omega arith) e2)
        (near 3 _ (omega arith) e_sum))
        ∙ added_ok β p (products_sum β p a b c d) (errors_sum β p a b c d) (lies_figure 2 _ (omega arith) r_lies)
        (lies_figure 3 _ (omega arith) e_sum) (near 4 _ (omega arith) symmetric_lies)
