-- Bounds on lengths without roots: a length is known by its square, and an inner product by its size.
use Rattle.std.proofs.Common.{◌≡◌, ℕ, ◌+◌, ◌-◌, ◌*◌, ◌≤◌, sym, ap, subst, mul-le-mul_right, mul-le-mul}
use Rattle.std.proofs.Common.{mul-le-mul_left, arith}
use native.Mathlib.Nat.{add-sub_of_le}
use Rattle.whole.proofs.Comparisons.{root}

-- f times the length whose square is u is at most a times the length whose square is v
abbrev pub AtMost : ℕ → ℕ → ℕ → ℕ → Type 0
AtMost f u a v = u * (f * f) ≤ a * a * v

-- the triangle inequality: i is the size of the inner product of the two numbers, w the square of their sum's length
pub triangle : (f u v i w a b l : ℕ) → i * i ≤ u * v → w ≤ u + 2 * i + v → AtMost f u a l → AtMost f v b l
    → AtMost f w (a + b) l
triangle f u v i w a b l schwarz sum hu hv =
    let product : u * (f * f) * (v * (f * f)) ≤ a * a * l * (b * b * l) = mul-le-mul hu hv in
    let inner : i * (f * f) ≤ a * b * l =
    root (i * (f * f)) (a * b * l) (omega (arith, mul-le-mul_right (f * f * (f * f)) schwarz)) in
    omega (arith, mul-le-mul_right (f * f) sum)

-- Both parts of a number within N/D: so is the number.
pub parts_within : (D N x y u v : ℕ) → D * x ≤ N * u → D * y ≤ N * v
    → AtMost D (x * x + y * y) N (u * u + v * v)
parts_within D N x y u v h g =
    let a : D * x * (D * x) ≤ N * u * (N * u) = mul-le-mul h h in
    let b : D * y * (D * y) ≤ N * v * (N * v) = mul-le-mul g g in
    omega (arith, a, b)

-- One turn by a factor. Squares of lengths: c of the factor, x of the exact product, z of the phasor, e of the phasor's
-- error, d of the error that the turn adds, e' of the error after it; i is the inner product of the exact product and
-- the error, j that of the two errors. Before the turn the error is at most A/S - 1 of the exact product, and the turn
-- adds at most N/D of the phasor times the factor.
pub turn_within : (S A D N c x z e d e' i j : ℕ) → S ≤ A
    → i * i ≤ x * e → z ≤ x + 2 * i + e → j * j ≤ d * (e * c) → e' ≤ d + 2 * j + e * c
    → AtMost S e (A - S) x → AtMost D d N (z * c)
    → AtMost (S * D) e' (A * (D + N) - S * D) (x * c)
turn_within S A D N c x z e d e' i j some schwarz long schwarz' sum before added =
    subst (λ (n : ℕ). AtMost (S * D) e' n (x * c)) (sym (whole S A D N some))
    (triangle (S * D) d (e * c) j e' (N * A) (D * (A - S)) (x * c) schwarz' sum fresh old)
  where
    phasor : AtMost S z A x
    phasor = subst (λ (n : ℕ). AtMost S z n x) (add-sub_of_le some)
        (triangle S x e i z S (A - S) x schwarz long (omega arith) before)

    fresh : AtMost (S * D) d (N * A) (x * c)
    fresh = omega (arith, mul-le-mul_right (S * S) added, mul-le-mul_left (N * N * c) phasor)

    old : AtMost (S * D) (e * c) (D * (A - S)) (x * c)
    old = scaled (A - S) before
      where
        scaled : (T : ℕ) → e * (S * S) ≤ T * T * x → AtMost (S * D) (e * c) (D * T) (x * c)
        scaled T h = omega (arith, mul-le-mul_left (D * D * c) h)

    whole : (S A D N : ℕ) → S ≤ A → A * (D + N) - S * D ≡ N * A + D * (A - S)
    whole S A D N h = go (A - S) (omega arith)
      where
        go : (T : ℕ) → A ≡ S + T → A * (D + N) - S * D ≡ N * A + D * T
        go T e = omega (arith, mul-le-mul_right D h, ap (λ (n : ℕ). n * D) e)
