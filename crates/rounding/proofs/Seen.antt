-- A number that is not zero and its rounded figure, counted in any unit as fine as the widened digits.
use Rattle.std.proofs.Common.{◌≡◌, ℕ, suc, ◌+◌, ◌-◌, ◌*◌, ◌%◌, ◌^◌, ◌<◌, ◌≤◌, Bool, cond, ◌⊎◌, ℤ, pos, ◌+ℤ◌, ◌-ℤ◌}
use Rattle.std.proofs.Common.{◌*ℤ◌, unsigned_abs, ◌≤ℤ◌, sym, refl, ap, ◌∙◌, subst, inl, inr, mul-le-mul_right}
use Rattle.std.proofs.Common.{mul_left_comm, arith}
use borrow.Author.Differences.{ints}
use Rattle.std.proofs.lemmas.Bool.Decides.{leb_tells}
use Rattle.whole.proofs.Powers.{power_pos, power_split, power_parts, power_even, power_one}
use Rattle.rounding.specs.declared.Figure.{Figure}
use Rattle.rounding.specs.Exact.{Exact, value, units}
use Rattle.rounding.specs.Rounding.{negative, signed, carried, widened, rounded}
use Rattle.rounding.proofs.Places.{Placed, raise_few, scaled_place}
use Rattle.rounding.proofs.Computed.{Found, found}
use Rattle.rounding.proofs.Signs.{signed_size, signed_times}

-- the two ways in which d + b digits at the exponent q become a figure of p digits
pub record Plain (β p : ℕ) (neg : Bool) (s : ℕ) (q : ℤ) (f : Figure) : Type 0 where
  pub fits : s < β ^ p
  pub is : f ≡ record { s = signed neg s; q = q }

pub record Carry (β p : ℕ) (neg : Bool) (s : ℕ) (q : ℤ) (f : Figure) : Type 0 where
  pub full : β ^ p ≤ s
  pub is : f ≡ record { s = signed neg (β ^ (p - 1)); q = q +ℤ pos 1 }

pub carried_cases : (β p : ℕ) (neg : Bool) (s : ℕ) (q : ℤ) (f : Figure) → f ≡ carried β p neg s q
    → Plain β p neg s q f ⊎ Carry β p neg s q f
carried_cases β p neg s q f e =
    let pick : Bool → Figure = λ b. cond b (record { s = signed neg s; q = q })
    (record { s = signed neg (β ^ (p - 1)); q = q +ℤ pos 1 }) in
    elim (leb_tells (suc s) (β ^ p)) [
      | inl h ↦ inl (record { fits = omega (arith, h.1); is = e ∙ ap pick h.0 })
      | inr h ↦ inr (record { full = omega (arith, h.1); is = e ∙ ap pick h.0 })
    ]

-- in units of β^k, x is T and its figure f is (d + b) β^l
pub record Seen (β p : ℕ) (x : Exact) (f : Figure) (k : ℤ) : Type 0 where
  pub l : ℕ
  pub d : ℕ
  pub w : ℕ
  pub b : ℕ
  pub place : Placed (β ^ (p - 1)) (β ^ p) (β ^ l) (unsigned_abs x.m * β ^ unsigned_abs (x.e -ℤ k)) d w b
  pub is : units β k (value f) ≡ signed (negative x.m) ((d + b) * β ^ l)
  pub below : k ≤ℤ f.q
  pub least : β ^ (p - 1) ≤ unsigned_abs f.s
  pub most : unsigned_abs f.s < β ^ p
  pub sign : f.s ≡ signed (negative x.m) (unsigned_abs f.s)
  pub parity : (d + b) % 2 ≡ 0 → unsigned_abs f.s % 2 ≡ 0

module _ (β p : ℕ) (even : β % 2 ≡ 0) (two : 2 ≤ β) (some : 2 ≤ p) (x : Exact) (full : 0 < unsigned_abs x.m) where
  one : 1 ≤ p
  one = omega arith

  B_pos : 1 ≤ β ^ (p - 1)
  B_pos = power_pos β (p - 1) two

  B_lt_P : β ^ (p - 1) < β ^ p
  B_lt_P = omega (arith, power_split β p one, mul-le-mul_right (β ^ (p - 1)) two, B_pos)

  pub seen : (k : ℤ) → k ≤ℤ (x.e -ℤ pos (p - 1)) → Seen β p x (rounded β p x) k
  seen k fine = elim (carried_cases β p (negative x.m) (f.d + f.b) q (rounded β p x) f.is) [
    | inl h ↦ record {
      l = c + f.j;
      d = f.d;
      w = β ^ c * f.w;
      b = f.b;
      place = place;
      is = ap (λ (g : Figure). units β k (value g)) h.is
          ∙ ap (λ (n : ℕ). signed (negative x.m) (f.d + f.b) *ℤ pos (β ^ n)) (reach x.e f.j fine)
          ∙ signed_times (negative x.m) (f.d + f.b) (β ^ (c + f.j));
      below = subst (λ (g : Figure). k ≤ℤ g.q) (sym h.is) (under x.e f.j fine);
      least = subst (λ (n : ℕ). β ^ (p - 1) ≤ n) (sym (size h)) (omega (arith, f.place.d_lo));
      most = subst (λ (n : ℕ). n < β ^ p) (sym (size h)) h.fits;
      sign = ap (λ (g : Figure). g.s) h.is ∙ sym (ap (signed (negative x.m)) (size h));
      parity = λ e. ap (λ (n : ℕ). n % 2) (size h) ∙ e;
    }
    | inr h ↦ record {
      l = c + f.j;
      d = f.d;
      w = β ^ c * f.w;
      b = f.b;
      place = place;
      is = ap (λ (g : Figure). units β k (value g)) h.is
          ∙ ap (λ (n : ℕ). signed (negative x.m) (β ^ (p - 1)) *ℤ pos (β ^ n)) (reach_next x.e f.j fine)
          ∙ signed_times (negative x.m) (β ^ (p - 1)) (β ^ (1 + (c + f.j)))
          ∙ ap (signed (negative x.m)) (renormal (c + f.j) (whole h));
      below = subst (λ (g : Figure). k ≤ℤ g.q) (sym h.is) (under_next x.e f.j fine);
      least = subst (λ (n : ℕ). β ^ (p - 1) ≤ n) (sym (least_size h)) (omega arith);
      most = subst (λ (n : ℕ). n < β ^ p) (sym (least_size h)) B_lt_P;
      sign = ap (λ (g : Figure). g.s) h.is ∙ sym (ap (signed (negative x.m)) (least_size h));
      parity = λ _. ap (λ (n : ℕ). n % 2) (least_size h) ∙ power_even β (p - 1) even (omega arith);
    }
  ]
    where
      f : Found β p x
      f = found β p two one x full

      q : ℤ
      q = x.e -ℤ pos (p - 1) +ℤ pos f.j

      c : ℕ
      c = unsigned_abs (x.e -ℤ pos (p - 1) -ℤ k)

      -- the widened digits in units of β^k
      spread : (e : ℤ) → k ≤ℤ (e -ℤ pos (p - 1))
          → unsigned_abs (e -ℤ pos (p - 1) -ℤ k) + (p - 1) ≡ unsigned_abs (e -ℤ k)
      spread e h = omega (arith, ints)

      wide : β ^ c * widened β p x ≡ unsigned_abs x.m * β ^ unsigned_abs (x.e -ℤ k)
      wide = mul_left_comm (β ^ c) (unsigned_abs x.m) (β ^ (p - 1))
          ∙ ap (λ (n : ℕ). unsigned_abs x.m * n)
          (sym (power_parts β c (p - 1) (unsigned_abs (x.e -ℤ k)) (spread x.e fine)))

      place : Placed (β ^ (p - 1)) (β ^ p) (β ^ (c + f.j)) (unsigned_abs x.m * β ^ unsigned_abs (x.e -ℤ k))
          f.d (β ^ c * f.w) f.b
      place =
          subst (λ (T : ℕ). Placed (β ^ (p - 1)) (β ^ p) (β ^ (c + f.j)) T f.d (β ^ c * f.w) f.b) wide
          (subst (λ (V : ℕ). Placed (β ^ (p - 1)) (β ^ p) V (β ^ c * widened β p x) f.d (β ^ c * f.w) f.b)
          (sym (power_parts β c f.j (c + f.j) refl))
          (scaled_place (β ^ c) (β ^ (p - 1)) (β ^ p) (β ^ f.j) (widened β p x) f.d f.w f.b
          (power_pos β c two) f.place))

      -- exponents above k
      under : (e : ℤ) (j : ℕ) → k ≤ℤ (e -ℤ pos (p - 1)) → k ≤ℤ (e -ℤ pos (p - 1) +ℤ pos j)
      under e j h = omega (arith, ints)

      under_next : (e : ℤ) (j : ℕ) → k ≤ℤ (e -ℤ pos (p - 1)) → k ≤ℤ (e -ℤ pos (p - 1) +ℤ pos j +ℤ pos 1)
      under_next e j h = omega (arith, ints)

      reach : (e : ℤ) (j : ℕ) → k ≤ℤ (e -ℤ pos (p - 1))
          → unsigned_abs (e -ℤ pos (p - 1) +ℤ pos j -ℤ k) ≡ unsigned_abs (e -ℤ pos (p - 1) -ℤ k) + j
      reach e j h = omega (arith, ints)

      reach_next : (e : ℤ) (j : ℕ) → k ≤ℤ (e -ℤ pos (p - 1))
          → unsigned_abs (e -ℤ pos (p - 1) +ℤ pos j +ℤ pos 1 -ℤ k) ≡ 1 + (unsigned_abs (e -ℤ pos (p - 1) -ℤ k) + j)
      reach_next e j h = omega (arith, ints)

      -- significands
      size : Plain β p (negative x.m) (f.d + f.b) q (rounded β p x) → unsigned_abs (rounded β p x).s ≡ f.d + f.b
      size h = ap (λ (g : Figure). unsigned_abs g.s) h.is ∙ signed_size (negative x.m) (f.d + f.b)

      least_size : Carry β p (negative x.m) (f.d + f.b) q (rounded β p x)
          → unsigned_abs (rounded β p x).s ≡ β ^ (p - 1)
      least_size h = ap (λ (g : Figure). unsigned_abs g.s) h.is ∙ signed_size (negative x.m) (β ^ (p - 1))

      whole : Carry β p (negative x.m) (f.d + f.b) q (rounded β p x) → f.d + f.b ≡ β ^ p
      whole h = omega (arith, h.full, f.place.d_hi, f.place.raised, raise_few (β ^ f.j) f.d (2 * f.w))

      renormal : (l : ℕ) → f.d + f.b ≡ β ^ p → β ^ (p - 1) * β ^ (1 + l) ≡ (f.d + f.b) * β ^ l
      renormal l e =
          ap (λ (n : ℕ). β ^ (p - 1) * n) (power_parts β 1 l (1 + l) refl ∙ ap (λ (n : ℕ). n * β ^ l) (power_one β))
          ∙ regroup (β ^ (p - 1)) (β ^ l) (β ^ p) (f.d + f.b) e (power_split β p one)
        where
          regroup : (B V P s : ℕ) → s ≡ P → P ≡ β * B → B * (β * V) ≡ s * V
          regroup B V P s e g = omega (arith, ap (λ (n : ℕ). n * V) e, ap (λ (n : ℕ). n * V) g)
