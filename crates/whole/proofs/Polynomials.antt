-- Expressions over ℤ are brought to polynomials by computation; those whose difference is the zero polynomial are
-- equal.
use Rattle.std.proofs.Common.{◌≡◌, ℕ, zero, suc, Bool, true, false, T, ◌==◌, nat_le, List, [], ◌∷◌, ℤ, pos, negsuc}
use Rattle.std.proofs.Common.{◌+ℤ◌, ◌*ℤ◌, neg_ℤ, sym, refl, ap, ◌∙◌, subst, ap₂, arith, eqb→eq}
use Prim.Native.Nat.{compare, Ordering}
use lib.Dec.{compare_is_eq}
use lib.IntN.{*ℤ_comm, *ℤ-zero, zero-*ℤ, +ℤ_comm, +ℤ_assoc, +ℤ_idl, +ℤ_idr}
use borrow.Author.Differences.{ints}
use Rattle.whole.proofs.Integers.{*ℤ-assoc, *ℤ-+ℤ, +ℤ-*ℤ, one_left, minus_one}

pub data Expression : Type 0 where
  variable : ℕ → Expression
  constant : ℤ → Expression
  ◌⊕◌ : Expression → Expression → Expression
  ◌⊗◌ : Expression → Expression → Expression
  opposite : Expression → Expression

infixl 6 ◌⊕◌
infixl 7 ◌⊗◌
-- the value of the variable i
abbrev pub look : List ℤ → ℕ → ℤ
look [] i = pos 0
look (x ∷ xs) zero = x
look (x ∷ xs) (suc i) = look xs i

abbrev pub value : List ℤ → Expression → ℤ
value ρ (variable i) = look ρ i
value ρ (constant c) = c
value ρ (a ⊕ b) = value ρ a +ℤ value ρ b
value ρ (a ⊗ b) = value ρ a *ℤ value ρ b
value ρ (opposite a) = neg_ℤ (value ρ a)

-- a monomial is a sorted list of variables, a polynomial a sorted list of monomials with coefficients
pub data Polynomial : Type 0 where
  nil : Polynomial
  term : ℤ → List ℕ → Polynomial → Polynomial

abbrev monomial : List ℤ → List ℕ → ℤ
monomial ρ [] = pos 1
monomial ρ (i ∷ m) = look ρ i *ℤ monomial ρ m

abbrev polynomial : List ℤ → Polynomial → ℤ
polynomial ρ nil = pos 0
polynomial ρ (term c m p) = c *ℤ monomial ρ m +ℤ polynomial ρ p

abbrev pub order : List ℕ → List ℕ → Ordering
order [] [] = Ordering.eq
order [] (j ∷ n) = Ordering.lt
order (i ∷ m) [] = Ordering.gt
order (i ∷ m) (j ∷ n) = elim (compare i j) [
  | Ordering.lt ↦ Ordering.lt
  | Ordering.eq ↦ order m n
  | Ordering.gt ↦ Ordering.gt
]

abbrev pub insert : ℕ → List ℕ → List ℕ
insert i [] = i ∷ []
insert i (j ∷ m) = elim (nat_le i j) [ true ↦ i ∷ j ∷ m | false ↦ j ∷ insert i m ]

abbrev pub merge : List ℕ → List ℕ → List ℕ
merge [] n = n
merge (i ∷ m) n = insert i (merge m n)

-- one term more
abbrev pub extend : ℤ → List ℕ → Polynomial → Polynomial
extend c m nil = term c m nil
extend c m (term d n p) = elim (order m n) [
  | Ordering.lt ↦ term c m (term d n p)
  | Ordering.eq ↦ term (c +ℤ d) n p
  | Ordering.gt ↦ term d n (extend c m p)
]

abbrev pub plus : Polynomial → Polynomial → Polynomial
plus nil q = q
plus (term c m p) q = extend c m (plus p q)

-- one term times a polynomial
abbrev pub scale : ℤ → List ℕ → Polynomial → Polynomial
scale c m nil = nil
scale c m (term d n p) = extend (c *ℤ d) (merge m n) (scale c m p)

abbrev pub times : Polynomial → Polynomial → Polynomial
times nil q = nil
times (term c m p) q = plus (scale c m q) (times p q)

abbrev pub normal : Expression → Polynomial
normal (variable i) = term (pos 1) (i ∷ []) nil
normal (constant c) = term c [] nil
normal (a ⊕ b) = plus (normal a) (normal b)
normal (a ⊗ b) = times (normal a) (normal b)
normal (opposite a) = scale (negsuc 0) [] (normal a)

abbrev pub is_zero : ℤ → Bool
is_zero (pos n) = n == 0
is_zero (negsuc n) = false

abbrev pub vanishes : Polynomial → Bool
vanishes nil = true
vanishes (term c m p) = elim (is_zero c) [ true ↦ vanishes p | false ↦ false ]

-- the test that a use computes
abbrev pub same : Expression → Expression → Bool
same a b = vanishes (normal (a ⊕ opposite b))

same_order : (m n : List ℕ) → T (compare_is_eq (order m n)) → m ≡ n
same_order [] [] t = refl
same_order [] (j ∷ n) t = absurd t
same_order (i ∷ m) [] t = absurd t
same_order (i ∷ m) (j ∷ n) t = go (same_order m n) (compare i j) refl t
  where
    go : (T (compare_is_eq (order m n)) → m ≡ n) → (o : Ordering) → compare i j ≡ o
        → T (compare_is_eq (elim o [ Ordering.lt ↦ Ordering.lt | Ordering.eq ↦ order m n | Ordering.gt ↦ Ordering.gt ]))
        → (i ∷ m) ≡ (j ∷ n)
    go rest Ordering.lt e t = absurd t
    go rest Ordering.eq e t =
        ap₂ (λ (x : ℕ) (y : List ℕ). x ∷ y) (eqb→eq i j (subst (λ (o : Ordering). T (compare_is_eq o)) (sym e) tt))
        (rest t)
    go rest Ordering.gt e t = absurd t

module _ (ρ : List ℤ) where
  middle_sum : (a b c : ℤ) → a +ℤ (b +ℤ c) ≡ b +ℤ (a +ℤ c)
  middle_sum a b c = sym (+ℤ_assoc a b c) ∙ ap (λ (x : ℤ). x +ℤ c) (+ℤ_comm a b) ∙ +ℤ_assoc b a c

  middle_product : (a b c : ℤ) → a *ℤ (b *ℤ c) ≡ b *ℤ (a *ℤ c)
  middle_product a b c = sym (*ℤ-assoc a b c) ∙ ap (λ (x : ℤ). x *ℤ c) (*ℤ_comm a b) ∙ *ℤ-assoc b a c

  insert_is : (i : ℕ) (m : List ℕ) → monomial ρ (insert i m) ≡ look ρ i *ℤ monomial ρ m
  insert_is i [] = refl
  insert_is i (j ∷ m) = go (insert_is i m) (nat_le i j)
    where
      go : monomial ρ (insert i m) ≡ look ρ i *ℤ monomial ρ m → (b : Bool)
          → monomial ρ (elim b [ true ↦ i ∷ j ∷ m | false ↦ j ∷ insert i m ])
          ≡ look ρ i *ℤ (look ρ j *ℤ monomial ρ m)
      go rest true = refl
      go rest false =
          ap (λ (x : ℤ). look ρ j *ℤ x) rest ∙ middle_product (look ρ j) (look ρ i) (monomial ρ m)

  merge_is : (m n : List ℕ) → monomial ρ (merge m n) ≡ monomial ρ m *ℤ monomial ρ n
  merge_is [] n = sym (one_left (monomial ρ n))
  merge_is (i ∷ m) n =
      insert_is i (merge m n) ∙ ap (λ (x : ℤ). look ρ i *ℤ x) (merge_is m n)
      ∙ sym (*ℤ-assoc (look ρ i) (monomial ρ m) (monomial ρ n))

  extend_is : (c : ℤ) (m : List ℕ) (p : Polynomial)
      → polynomial ρ (extend c m p) ≡ c *ℤ monomial ρ m +ℤ polynomial ρ p
  extend_is c m nil = refl
  extend_is c m (term d n p) = go (extend_is c m p) (order m n) refl
    where
      go : polynomial ρ (extend c m p) ≡ c *ℤ monomial ρ m +ℤ polynomial ρ p → (o : Ordering) → order m n ≡ o
          → polynomial ρ (elim o [
            | Ordering.lt ↦ term c m (term d n p)
            | Ordering.eq ↦ term (c +ℤ d) n p
            | Ordering.gt ↦ term d n (extend c m p)
          ]) ≡ c *ℤ monomial ρ m +ℤ (d *ℤ monomial ρ n +ℤ polynomial ρ p)
      go rest Ordering.lt e = refl
      go rest Ordering.eq e =
          ap (λ (x : ℤ). x +ℤ polynomial ρ p) (+ℤ-*ℤ c d (monomial ρ n))
          ∙ +ℤ_assoc (c *ℤ monomial ρ n) (d *ℤ monomial ρ n) (polynomial ρ p)
          ∙ ap (λ (l : List ℕ). c *ℤ monomial ρ l +ℤ (d *ℤ monomial ρ n +ℤ polynomial ρ p))
          (sym (same_order m n (subst (λ (o : Ordering). T (compare_is_eq o)) (sym e) tt)))
      go rest Ordering.gt e =
          ap (λ (x : ℤ). d *ℤ monomial ρ n +ℤ x) rest
          ∙ middle_sum (d *ℤ monomial ρ n) (c *ℤ monomial ρ m) (polynomial ρ p)

  plus_is : (p q : Polynomial) → polynomial ρ (plus p q) ≡ polynomial ρ p +ℤ polynomial ρ q
  plus_is nil q = sym (+ℤ_idl (polynomial ρ q))
  plus_is (term c m p) q =
      extend_is c m (plus p q) ∙ ap (λ (x : ℤ). c *ℤ monomial ρ m +ℤ x) (plus_is p q)
      ∙ sym (+ℤ_assoc (c *ℤ monomial ρ m) (polynomial ρ p) (polynomial ρ q))

  scale_is : (c : ℤ) (m : List ℕ) (p : Polynomial)
      → polynomial ρ (scale c m p) ≡ c *ℤ monomial ρ m *ℤ polynomial ρ p
  scale_is c m nil = sym (*ℤ-zero (c *ℤ monomial ρ m))
  scale_is c m (term d n p) =
      extend_is (c *ℤ d) (merge m n) (scale c m p)
      ∙ ap₂ (λ (x y : ℤ). c *ℤ d *ℤ x +ℤ y) (merge_is m n) (scale_is c m p)
      ∙ ap (λ (x : ℤ). x +ℤ c *ℤ monomial ρ m *ℤ polynomial ρ p) (pairs c d (monomial ρ m) (monomial ρ n))
      ∙ sym (*ℤ-+ℤ (c *ℤ monomial ρ m) (d *ℤ monomial ρ n) (polynomial ρ p))
    where
      pairs : (a b c d : ℤ) → a *ℤ b *ℤ (c *ℤ d) ≡ a *ℤ c *ℤ (b *ℤ d)
      pairs a b c d =
          *ℤ-assoc a b (c *ℤ d) ∙ ap (λ (x : ℤ). a *ℤ x) (middle_product b c d) ∙ sym (*ℤ-assoc a c (b *ℤ d))

  times_is : (p q : Polynomial) → polynomial ρ (times p q) ≡ polynomial ρ p *ℤ polynomial ρ q
  times_is nil q = sym (zero-*ℤ (polynomial ρ q))
  times_is (term c m p) q =
      plus_is (scale c m q) (times p q) ∙ ap₂ (λ (x y : ℤ). x +ℤ y) (scale_is c m q) (times_is p q)
      ∙ sym (+ℤ-*ℤ (c *ℤ monomial ρ m) (polynomial ρ p) (polynomial ρ q))

  normal_is : (e : Expression) → polynomial ρ (normal e) ≡ value ρ e
  normal_is (variable i) = +ℤ_idr (pos 1 *ℤ (look ρ i *ℤ pos 1)) ∙ one_left (look ρ i *ℤ pos 1) ∙ one_right (look ρ i)
    where
      one_right : (a : ℤ) → a *ℤ pos 1 ≡ a
      one_right a = *ℤ_comm a (pos 1) ∙ one_left a
  normal_is (constant c) = +ℤ_idr (c *ℤ pos 1) ∙ *ℤ_comm c (pos 1) ∙ one_left c
  normal_is (a ⊕ b) = plus_is (normal a) (normal b) ∙ ap₂ (λ (x y : ℤ). x +ℤ y) (normal_is a) (normal_is b)
  normal_is (a ⊗ b) = times_is (normal a) (normal b) ∙ ap₂ (λ (x y : ℤ). x *ℤ y) (normal_is a) (normal_is b)
  normal_is (opposite a) =
      scale_is (negsuc 0) [] (normal a) ∙ minus_one (polynomial ρ (normal a)) ∙ ap neg_ℤ (normal_is a)

  vanishes_is : (p : Polynomial) → T (vanishes p) → polynomial ρ p ≡ pos 0
  vanishes_is nil t = refl
  vanishes_is (term c m p) t = go (vanishes_is p) (is_zero c) refl t
    where
      zero_is : (c : ℤ) → T (is_zero c) → c ≡ pos 0
      zero_is (pos n) t = ap pos (eqb→eq n 0 t)
      zero_is (negsuc n) t = absurd t

      go : (T (vanishes p) → polynomial ρ p ≡ pos 0) → (b : Bool) → is_zero c ≡ b
          → T (elim b [ true ↦ vanishes p | false ↦ false ]) → c *ℤ monomial ρ m +ℤ polynomial ρ p ≡ pos 0
      go rest true e t =
          ap₂ (λ (x y : ℤ). x *ℤ monomial ρ m +ℤ y) (zero_is c (subst T (sym e) tt)) (rest t)
          ∙ ap (λ (x : ℤ). x +ℤ pos 0) (zero-*ℤ (monomial ρ m))
      go rest false e t = absurd t

  -- expressions that the test calls the same have the same value, whatever their variables stand for
  pub same_value : (a b : Expression) → T (same a b) → value ρ a ≡ value ρ b
  same_value a b t =
      equal (value ρ a) (value ρ b) (sym (normal_is (a ⊕ opposite b)) ∙ vanishes_is (normal (a ⊕ opposite b)) t)
    where
      equal : (x y : ℤ) → x +ℤ neg_ℤ y ≡ pos 0 → x ≡ y
      equal x y e = omega (arith, ints)
