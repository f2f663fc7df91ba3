-- What the error theorems use of a rounding on ℤ, and of the radix: nothing else.
use Rattle.std.proofs.Common.{◌≡◌, ℕ, suc, ◌+◌, ◌*◌, ◌^◌, ◌<◌, ◌≤◌, ◌⊎◌, ℤ, pos, ◌-ℤ◌, neg_ℤ, unsigned_abs, ◌≤ℤ◌}
use Prim.Native.Nat.{◌∣◌}

-- the radix β = 2 h, the least significand B = β^q and the largest one, c = β B - 1
pub record Ground (β B : ℕ) : Type 0 where
  pub h : ℕ
  pub even : β ≡ h + h
  pub two : 2 ≤ β
  pub q : ℕ
  pub power : B ≡ β ^ q
  pub eight : 8 ≤ B
  pub wide : β ≤ B
  pub c : ℕ
  pub top : β * B ≡ c + 1

-- t is cut at the unit β^(k+1), and its rounding r is a multiple of that
pub record Coarse (β B : ℕ) (t r : ℤ) : Type 0 where
  pub k : ℕ
  pub lo : B * β ^ suc k ≤ unsigned_abs t
  pub hi : unsigned_abs t < β * B * β ^ suc k
  pub multiple : β ^ suc k ∣ unsigned_abs r

pub record Laws (β B : ℕ) (rn : ℤ → ℤ) : Type 0 where
  pub odd : (t : ℤ) → rn (neg_ℤ t) ≡ neg_ℤ (rn t)
  pub ordered : (a b : ℤ) → a ≤ℤ b → rn a ≤ℤ rn b
  pub relative : (t : ℤ) → 2 * (B * unsigned_abs (rn t -ℤ t)) ≤ unsigned_abs t
  pub half : (t : ℤ) (k : ℕ) → unsigned_abs t ≤ β * B * β ^ k → 2 * unsigned_abs (rn t -ℤ t) ≤ β ^ k
  pub fixed : (t : ℤ) (k : ℕ) → β ^ k ∣ unsigned_abs t → unsigned_abs t ≤ β * B * β ^ k → rn t ≡ t
  pub multiple : (t : ℤ) (k : ℕ) → B * β ^ k ≤ unsigned_abs t → β ^ k ∣ unsigned_abs (rn t)
  pub unit : (t : ℤ) → (rn t ≡ t) ⊎ Coarse β B t (rn t)
  pub middle : (t k n : ℕ) → B ≤ n → n < β * B → 2 * t < (2 * n + 1) * β ^ k → rn (pos t) ≤ℤ pos (n * β ^ k)
  pub tie : (t k : ℕ) → 2 * t ≡ (2 * B + 1) * β ^ suc k → rn (pos t) ≡ pos (B * β ^ suc k)
