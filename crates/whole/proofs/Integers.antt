-- Laws of ℤ that the library lacks: associativity and distributivity of the product, and opposites.
use Rattle.std.proofs.Common.{◌≡◌, ℕ, ◌+◌, ◌*◌, ℤ, pos, negsuc, ◌+ℤ◌, ◌*ℤ◌, neg_ℤ, unsigned_abs, sym, ap, ◌∙◌, ap₂}
use Rattle.std.proofs.Common.{arith}
use borrow.Author.Differences.{up, down, same_in, sum_is_lem, neg_is, product_is, ints}
use lib.IntN.{*ℤ_comm}

-- the parts of a product: z is read as up z − down z
up_product : (a b : ℤ) → up (a *ℤ b) ≡ up a * up b + down a * down b
up_product a b = (product_is a b).0

down_product : (a b : ℤ) → down (a *ℤ b) ≡ up a * down b + down a * up b
down_product a b = (product_is a b).1

pub *ℤ-assoc : (a b c : ℤ) → (a *ℤ b) *ℤ c ≡ a *ℤ (b *ℤ c)
*ℤ-assoc a b c = same_in _ _ (simp (up_product, down_product) (omega arith))

pub *ℤ-+ℤ : (a b c : ℤ) → a *ℤ (b +ℤ c) ≡ a *ℤ b +ℤ a *ℤ c
*ℤ-+ℤ a b c =
    let rise : up a * (up (b +ℤ c) + (down b + down c)) ≡ up a * (up b + up c + down (b +ℤ c)) =
    ap (λ (n : ℕ). up a * n) (omega (arith, sum_is_lem b c)) in
    let fall : down a * (up (b +ℤ c) + (down b + down c)) ≡ down a * (up b + up c + down (b +ℤ c)) =
    ap (λ (n : ℕ). down a * n) (omega (arith, sum_is_lem b c)) in
    same_in _ _ (simp (up_product, down_product) (omega (
      arith,
      sum_is_lem (a *ℤ b) (a *ℤ c),
      up_product a b,
      up_product a c,
      down_product a b,
      down_product a c,
      rise,
      fall,
    )))

pub +ℤ-*ℤ : (a b c : ℤ) → (a +ℤ b) *ℤ c ≡ a *ℤ c +ℤ b *ℤ c
+ℤ-*ℤ a b c = *ℤ_comm (a +ℤ b) c ∙ *ℤ-+ℤ c a b ∙ ap₂ (λ (x y : ℤ). x +ℤ y) (*ℤ_comm c a) (*ℤ_comm c b)

pub one_left : (a : ℤ) → pos 1 *ℤ a ≡ a
one_left a = same_in _ _ (simp (up_product, down_product) (omega arith))

pub minus_one : (a : ℤ) → negsuc 0 *ℤ a ≡ neg_ℤ a
minus_one a = same_in _ _ (simp (up_product, down_product) (omega (arith, neg_is a)))

pub neg_left : (a b : ℤ) → neg_ℤ a *ℤ b ≡ neg_ℤ (a *ℤ b)
neg_left a b = ap (λ (z : ℤ). z *ℤ b) (sym (minus_one a)) ∙ *ℤ-assoc (negsuc 0) a b ∙ minus_one (a *ℤ b)

pub unsigned_abs_neg : (z : ℤ) → unsigned_abs (neg_ℤ z) ≡ unsigned_abs z
unsigned_abs_neg z = omega (arith, ints)
