-- What is promised of the methods' answers to an accepted four: their range, and their distance from ab + cd.
use Rattle.std.proofs.Common.{◌≡◌, ℕ, suc, ◌+◌, ◌-◌, ◌*◌, ◌^◌, ◌<◌, ◌≤◌, true, ℤ, pos, ◌+ℤ◌, ◌-ℤ◌, ◌*ℤ◌, neg_ℤ}
use Rattle.std.proofs.Common.{unsigned_abs, ◌≤ℤ◌, sym, ap, ◌∙◌, subst, ap₂, inl, inr, mul-le-mul_right, mul-le-mul}
use Rattle.std.proofs.Common.{mul-le-mul_left, pow-suc, arith}
use borrow.Author.Differences.{ints}
use Rattle.std.specs.Int.{int_min}
use Rattle.std.proofs.lemmas.Int.{clamps, unsigned_abs-mul}
use Rattle.std.proofs.lemmas.Bool.{cases_lt}
use native.Mathlib.Nat.{le_of_mul-le-mul_right}
use Rattle.whole.proofs.Comparisons.{≤ℤ-trans}
use Rattle.whole.proofs.Powers.{power_pos, power_split}
use Rattle.rounding.specs.declared.Figure.{Figure}
use Rattle.rounding.specs.Exact.{Exact, value, product, units, plus, distance}
use Rattle.rounding.specs.Errors.{Within, ulp, WithinPlaces}
use Rattle.rounding.specs.Operations.{is_figure}
use Rattle.rounding.proofs.Units.{units_finer, distance_finer, plus_comm}
use Rattle.rounding.proofs.LastPlaces.{units_one, ulp_is_last_place}
use Rattle.kinds.specs.Kinds.{IsKind}
use Rattle.kinds.proofs.Sizes.{radix_two, few_digits}
use Rattle.bounds.specs.Fours.{Accepted, exact_sum, limit_num, limit_den, UpperLimit}
use Rattle.rounding.specs.Rounding.{rounded}
use Rattle.bounds.specs.Methods.{IsReliable}
use Rattle.bounds.specs.Kahan.{rounded_product, product_error, kahan}
use Rattle.bounds.specs.Symmetric.{symmetric}
use Rattle.bounds.proofs.Laws.{Laws}
use Rattle.bounds.proofs.Products.{Term}
use Rattle.bounds.proofs.Sums.{kahan_whole, symmetric_whole, kahan_close, kahan_placed, symmetric_close}
use Rattle.bounds.proofs.Whole.{near_z, near_laws}
use Rattle.bounds.proofs.Ranges.{lies_near}
use Rattle.bounds.proofs.Operands.{normal_of, Four, four}
use Rattle.bounds.proofs.Chains.{lies_figure, kahan_lies, symmetric_lies}
use Rattle.bounds.proofs.Counts.{ground, product_term, sum_units, kahan_count, symmetric_count}

-- a comparison that holds in finer units holds
coarser : (β n d : ℕ) (r x y : Exact) (k l : ℤ) → 2 ≤ β → l ≤ℤ k → k ≤ℤ r.e → k ≤ℤ x.e → k ≤ℤ y.e
    → d * distance β l r x ≤ n * unsigned_abs (units β l y) → d * distance β k r x ≤ n * unsigned_abs (units β k y)
coarser β n d r x y k l two lk kr kx ky h =
    le_of_mul-le-mul_right {k = E}
    (spread (distance β l r x) (distance β k r x) (unsigned_abs (units β l y)) (unsigned_abs (units β k y)) E
    (distance_finer β l k r x lk kr kx)
    (ap unsigned_abs (units_finer β l k y lk ky) ∙ unsigned_abs-mul (units β k y) (pos (β ^ unsigned_abs (k -ℤ l)))) h)
    (power_pos β (unsigned_abs (k -ℤ l)) two)
  where
    E : ℕ
    E = β ^ unsigned_abs (k -ℤ l)

    spread : (a b u v E : ℕ) → a ≡ b * E → u ≡ v * E → d * a ≤ n * u → d * b * E ≤ n * v * E
    spread a b u v E e f h = omega (arith, ap (λ (m : ℕ). d * m) e, ap (λ (m : ℕ). n * m) f)

-- a unit finer than k and than every step
finest : (k : ℤ) → (int_min k (neg_ℤ (pos 500)) ≤ℤ k) × (int_min k (neg_ℤ (pos 500)) ≤ℤ neg_ℤ (pos 500))
finest k = (omega (arith, ints, clamps), omega (arith, ints, clamps))

module _ (β p : ℕ) (kind : IsKind β p) (a b c d : Figure) (accepted : Accepted β p a b c d) where
  two : 2 ≤ β
  two = radix_two β p kind

  law : Laws β (β ^ (p - 1)) (near_z β p)
  law = near_laws β p kind.0 two kind.1

  all : Four β p a b c d
  all = four β p a b c d accepted

  abbrev x : Exact
  x = exact_sum β a b c d

  X_term : (k : ℤ)
      → Term β (β ^ (p - 1)) (ground β p kind) (units β k (product a b)) (unsigned_abs ((product a b).e -ℤ k))
  X_term k = product_term β p kind a b k (normal_of β p a all.a_in.figure) (normal_of β p b all.b_in.figure)

  Y_term : (k : ℤ)
      → Term β (β ^ (p - 1)) (ground β p kind) (units β k (product c d)) (unsigned_abs ((product c d).e -ℤ k))
  Y_term k = product_term β p kind c d k (normal_of β p c all.c_in.figure) (normal_of β p d all.d_in.figure)

  pub kahan_figure : is_figure β p (kahan β p a b c d) ≡ true
  kahan_figure = lies_figure β p kind 3 (kahan β p a b c d) (omega arith) (kahan_lies β p kind a b c d accepted)

  pub kahan_range : unsigned_abs (kahan β p a b c d).q ≤ 500
  kahan_range = lies_near β p two kind.1 (few_digits β p kind) 3 (kahan β p a b c d) (omega arith)
      (kahan_lies β p kind a b c d accepted)

  pub symmetric_figure : is_figure β p (symmetric β p a b c d) ≡ true
  symmetric_figure = lies_figure β p kind 4 (symmetric β p a b c d) (omega arith)
      (symmetric_lies β p kind a b c d accepted)

  pub symmetric_range : unsigned_abs (symmetric β p a b c d).q ≤ 500
  symmetric_range = lies_near β p two kind.1 (few_digits β p kind) 4 (symmetric β p a b c d) (omega arith)
      (symmetric_lies β p kind a b c d accepted)

  -- an answer that counts as a whole-number answer within 1/B is within 1/B
  relative : (r : Figure) (whole : (ℤ → ℤ) → ℤ → ℤ → ℤ)
      → ((k : ℤ) → k ≤ℤ neg_ℤ (pos 500) → units β k (value r)
      ≡ whole (near_z β p) (units β k (product a b)) (units β k (product c d)))
      → ((k : ℤ) → let X = units β k (product a b) in let Y = units β k (product c d) in
      β ^ (p - 1) * unsigned_abs (whole (near_z β p) X Y -ℤ (X +ℤ Y)) ≤ unsigned_abs (X +ℤ Y))
      → Within β 1 (β ^ (p - 1)) (value r) (exact_sum β a b c d)
  relative r whole count close k kr kx =
      let l : ℤ = int_min k (neg_ℤ (pos 500)) in
      let f = finest k in
      let u : units β l (exact_sum β a b c d) ≡ units β l (product a b) +ℤ units β l (product c d) =
      sum_units β p kind l f.1 a b c d accepted in
      coarser β 1 (β ^ (p - 1)) (value r) x x k l two f.0 kr kx kx
      (once (β ^ (p - 1) * distance β l (value r) x) (unsigned_abs (units β l x))
      (subst (λ (s : ℤ). β ^ (p - 1) * unsigned_abs (units β l (value r) -ℤ s) ≤ unsigned_abs s) (sym u)
      (subst (λ (s : ℤ). β ^ (p - 1) * unsigned_abs (s -ℤ (units β l (product a b) +ℤ units β l (product c d)))
      ≤ unsigned_abs (units β l (product a b) +ℤ units β l (product c d))) (sym (count l f.1)) (close l))))
    where
      once : (m n : ℕ) → m ≤ n → m ≤ 1 * n
      once m n h = omega arith

  pub kahan_within : Within β 1 (β ^ (p - 1)) (value (kahan β p a b c d)) (exact_sum β a b c d)
  kahan_within = relative (kahan β p a b c d) kahan_whole
      (λ k h. kahan_count β p kind k h a b c d accepted)
      (λ k. kahan_close β (β ^ (p - 1)) (ground β p kind) (near_z β p) law _ _ _ _ (X_term k) (Y_term k))

  pub symmetric_within : Within β 1 (β ^ (p - 1)) (value (symmetric β p a b c d)) (exact_sum β a b c d)
  symmetric_within = relative (symmetric β p a b c d) symmetric_whole
      (λ k h. symmetric_count β p kind k h a b c d accepted)
      (λ k. symmetric_close β (β ^ (p - 1)) (ground β p kind) (near_z β p) law _ _ _ _ (X_term k) (Y_term k))

  -- the limit of every allowance is above 1/B
  pub symmetric_limit : Within β (limit_num (β ^ (p - 1))) (limit_den (β ^ (p - 1)))
      (value (symmetric β p a b c d)) (exact_sum β a b c d)
  symmetric_limit k kr kx = weaken (β ^ (p - 1)) (distance β k (value (symmetric β p a b c d)) x)
      (unsigned_abs (units β k x)) (symmetric_within k kr kx)
    where
      weaken : (B e n : ℕ) → B * e ≤ 1 * n → 4 * (B * B * B) * e ≤ (4 * (B * B) + 7 * B + 3) * n
      weaken B e n h = omega (arith, mul-le-mul_left (4 * (B * B)) h)

  -- in units as fine as l, where x is not zero: v is the place of the last digit
  placed : (l : ℤ) → l ≤ℤ neg_ℤ (pos 500) → l ≤ℤ x.e → l ≤ℤ (ulp β p x).e → 0 < unsigned_abs x.m
      → 2 * distance β l (value (kahan β p a b c d)) x ≤ (β + 1) * unsigned_abs (units β l (ulp β p x))
  placed l fine lx lu full =
      let last = ulp_is_last_place β p two (omega (arith, kind.1)) x in
      let v : ℕ = unsigned_abs ((ulp β p x).e -ℤ l) in
      let one : unsigned_abs (units β l (ulp β p x)) ≡ β ^ v =
      ap (λ (m : ℤ). unsigned_abs (m *ℤ pos (β ^ v))) (last.power full) ∙ units_one β l (ulp β p x).e in
      let sum : units β l x ≡ units β l (product a b) +ℤ units β l (product c d) =
      sum_units β p kind l fine a b c d accepted in
      let few : unsigned_abs (units β l x) < β * β ^ (p - 1) * β ^ v =
      subst (λ (V : ℕ). unsigned_abs (units β l x) < β * β ^ (p - 1) * V) one
      (subst (λ (P : ℕ). unsigned_abs (units β l x) < P * unsigned_abs (units β l (ulp β p x)))
      (power_split β p (omega (arith, kind.1))) (last.most full l lx lu)) in
      let near : 2 * distance β l (value (kahan β p a b c d)) x ≤ β ^ suc v + β ^ v =
      subst (λ (s : ℤ). 2 * unsigned_abs (units β l (value (kahan β p a b c d)) -ℤ s) ≤ β ^ suc v + β ^ v) (sym sum)
      (subst (λ (s : ℤ). 2 * unsigned_abs
      (s -ℤ (units β l (product a b) +ℤ units β l (product c d))) ≤ β ^ suc v + β ^ v)
      (sym (kahan_count β p kind l fine a b c d accepted))
      (kahan_placed β (β ^ (p - 1)) (ground β p kind) (near_z β p) law _ _ _ _ (X_term l) (Y_term l) v
      (subst (λ (s : ℤ). unsigned_abs s < β * β ^ (p - 1) * β ^ v) sum few))) in
      subst (λ (V : ℕ). 2 * distance β l (value (kahan β p a b c d)) x ≤ (β + 1) * V) (sym one)
      (spread (distance β l (value (kahan β p a b c d)) x) (β ^ suc v) (β ^ v) (pow-suc β v) near)
    where
      spread : (n W V : ℕ) → W ≡ V * β → 2 * n ≤ W + V → 2 * n ≤ (β + 1) * V
      spread n W V e h = omega arith

  -- of zero, nothing is off
  exact_zero : (l : ℤ) → l ≤ℤ (value (kahan β p a b c d)).e → l ≤ℤ x.e → unsigned_abs x.m ≤ 0
      → distance β l (value (kahan β p a b c d)) x ≤ 0
  exact_zero l lr lx none =
      let gone : unsigned_abs (units β l x) ≡ 0 = unsigned_abs-mul x.m (pos (β ^ unsigned_abs (x.e -ℤ l)))
      ∙ nothing (unsigned_abs x.m) (β ^ unsigned_abs (x.e -ℤ l)) none in
      off (β ^ (p - 1)) (distance β l (value (kahan β p a b c d)) x) (unsigned_abs (units β l x))
      (power_pos β (p - 1) two)
      gone (kahan_within l lr lx)
    where
      nothing : (m V : ℕ) → m ≤ 0 → m * V ≡ 0
      nothing m V h = let z : m ≡ 0 = omega arith in omega (arith, ap (λ (n : ℕ). n * V) z)

      off : (B e n : ℕ) → 1 ≤ B → n ≡ 0 → B * e ≤ 1 * n → e ≤ 0
      off B e n some z h = omega (arith, mul-le-mul_right e some)

  pub kahan_places : WithinPlaces β p (β + 1) 2 (value (kahan β p a b c d)) (exact_sum β a b c d)
  kahan_places k kr kx ku = elim (cases_lt 0 (unsigned_abs x.m)) [
    | inr none ↦ (let z : distance β k (value (kahan β p a b c d)) x ≤ 0 = exact_zero k kr kx none in omega arith)
    | inl full ↦ coarser β (β + 1) 2 (value (kahan β p a b c d)) x (ulp β p x) k l two f.0 kr kx ku
        (placed l f.1 (≤ℤ-trans l k x.e f.0 kx) (≤ℤ-trans l k (ulp β p x).e f.0 ku) full)
  ]
    where
      l : ℤ
      l = int_min k (neg_ℤ (pos 500))

      f : (int_min k (neg_ℤ (pos 500)) ≤ℤ k) × (int_min k (neg_ℤ (pos 500)) ≤ℤ neg_ℤ (pos 500))
      f = finest k

-- exchanging the two products changes neither exact sum
pub symmetric_exchanged : (β p : ℕ) (a b c d : Figure) → symmetric β p a b c d ≡ symmetric β p c d a b
unfolding symmetric
symmetric_exchanged β p a b c d =
    ap₂ (λ (r e : Exact). rounded β p (plus β (value (rounded β p r)) (value (rounded β p e))))
    (plus_comm β (value (rounded_product β p a b)) (value (rounded_product β p c d)))
    (plus_comm β (value (product_error β p a b)) (value (product_error β p c d)))

-- the allowances are within the limit
pub kahan_limit : (B : ℕ) → UpperLimit B 1 B
kahan_limit B = omega arith

pub symmetric_at_limit : (B : ℕ) → UpperLimit B (limit_num B) (limit_den B)
symmetric_at_limit B = omega arith

pub limit_some : (β p : ℕ) → IsKind β p → 1 ≤ limit_den (β ^ (p - 1))
limit_some β p kind = go (β ^ (p - 1)) kind.2
  where
    go : (B : ℕ) → 24 ≤ B → 1 ≤ 4 * (B * B * B)
    go B h =
        let two : 24 * 24 ≤ B * B = mul-le-mul h h in
        let three : 24 * 24 * 24 ≤ B * B * B = mul-le-mul two h in
        omega arith

-- both methods are reliable
pub kahan_reliable : (β p : ℕ) → IsKind β p → IsReliable β p 1 (β ^ (p - 1)) (kahan β p)
kahan_reliable β p kind = record {
  positive = power_pos β (p - 1) (radix_two β p kind);
  limit = kahan_limit (β ^ (p - 1));
  figure = kahan_figure β p kind;
  range = kahan_range β p kind;
  near = kahan_within β p kind;
}

pub symmetric_reliable : (β p : ℕ) → IsKind β p
    → IsReliable β p (limit_num (β ^ (p - 1))) (limit_den (β ^ (p - 1))) (symmetric β p)
symmetric_reliable β p kind = record {
  positive = limit_some β p kind;
  limit = symmetric_at_limit (β ^ (p - 1));
  figure = symmetric_figure β p kind;
  range = symmetric_range β p kind;
  near = symmetric_limit β p kind;
}
