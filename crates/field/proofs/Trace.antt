-- The trace is additive, is 0 or 1, and its bits Tr(x), Tr(ax), .. tell any two elements apart.
--   trace-xor       the trace is additive;  trace-lt  it is an element;  trace-bit  it is 0 or 1
--   squared-power   n squarings are the power 2^n;  sum-term  the terms of the trace are x^(2^i)
--   trace-of-square a square has the trace of its root
--   power-low       below the degree, a^i is the number 2^i
--   bits-apart      no two elements have the same trace bits, where some element has trace 1
--   trace-bits      no two elements of a known field have the same trace bits Tr(x), Tr(ax), .., Tr(a^(m-1) x)
-- Assumes nothing.
use mathlib.Core.Path.{◌≡◌, refl, sym, ap, ap₂, ◌∙◌, subst}
use mathlib.Core.Logic.{◌⊎◌, inl, inr, ⊎_elim}
use Prim.Native.Nat.{ℕ, zero, suc, ◌*◌, ◌^◌, ◌<◌}
use native.Mathlib.Nat.{pow-suc, mul_comm as times-comm}
use native.Mathlib.Decide.{dec_lt}
use native.Mathlib.Omega.{arith}
use lib.Bits.{bit_xor, xor_comm, xor_self, xor_zero_r, xor_lt}
use lib.Dec.{lit<}
use lib.Pow.{pow-lt}
use Rattle.algebra.specs.Field.{power, squared, trace}
use Rattle.field.specs.Rows.{ListedRow}
use Rattle.field.proofs.Known.{by_row}
use Rattle.field.specs.Field.{cut, Field, size, mul, numbers, inverse, Tr, field_of}
use Rattle.field.proofs.Xor.{xor_assoc, xor-cancel, xor-swap, xor-equal}
use Rattle.field.proofs.Reduce.{cut_below}
use Rattle.field.proofs.Additive.{Additive, additive-agree}
use Rattle.field.proofs.Ring.{ring, power-lt, power-of-power}
use Rattle.field.proofs.Generator.{Generated, generated, one_below, power_size, mul-inverse, zero-product}

module _ (F : Field) (gen : Generated F) where
  open ring F gen.monic use {mul_comm, mul_assoc, mul-xor-l, mul-xor-r, mul-zero-l, mul-one-r, mul-lt, mul-two, square-xor}

  sum-xor : (n : ℕ) → Additive (trace (numbers F) n)
  unfolding trace
  sum-xor zero x y = refl
  sum-xor (suc n) x y =
      ap (bit_xor (bit_xor x y)) (ap (trace (numbers F) n) (square-xor x y) ∙ sum-xor n (mul F x x) (mul F y y))
      ∙ xor-swap x y (trace (numbers F) n (mul F x x)) (trace (numbers F) n (mul F y y))

  pub trace-xor : Additive (Tr F)
  unfolding trace
  trace-xor = sum-xor F.degree

  pub trace-lt : (x : ℕ) → x < size F → Tr F x < size F
  unfolding trace
  trace-lt = go F.degree
    where
      go : (n x : ℕ) → x < size F → trace (numbers F) n x < size F
      go zero x h = let u = one_below F gen in omega arith
      go (suc n) x h = xor_lt F.degree x (trace (numbers F) n (mul F x x)) h (go n (mul F x x) (mul-lt x x))

  -- the square of the sum is the sum of the squares
  sum-square : (n x : ℕ) → mul F (trace (numbers F) n x) (trace (numbers F) n x) ≡ trace (numbers F) n (mul F x x)
  unfolding trace
  sum-square zero x = mul-zero-l 0
  sum-square (suc n) x =
      square-xor x (trace (numbers F) n (mul F x x)) ∙ ap (bit_xor (mul F x x)) (sum-square n (mul F x x))

  -- one term more, at either end
  sum-shift : (n x : ℕ) → bit_xor x (trace (numbers F) n (mul F x x)) ≡ bit_xor (trace (numbers F) n x) (squared (numbers F) n x)
  unfolding trace squared
  sum-shift zero x = xor_zero_r x
  sum-shift (suc n) x =
      ap (bit_xor x) (sum-shift n (mul F x x)) ∙ sym (xor_assoc x (trace (numbers F) n (mul F x x)) (squared (numbers F) n (mul F x x)))

  pub squared-power : (n x : ℕ) → x < size F → squared (numbers F) n x ≡ power (numbers F) x (2 ^ n)
  unfolding squared power
  squared-power zero x h = sym (mul-one-r x h)
  squared-power (suc n) x h =
      squared-power n (mul F x x) (mul-lt x x)
      ∙ ap (λ (y : ℕ). power (numbers F) (mul F x y) (2 ^ n)) (sym (mul-one-r x h))
      ∙ sym (power-of-power F gen.monic (one_below F gen) x 2 (2 ^ n))
      ∙ ap (power (numbers F) x) (times-comm 2 (2 ^ n) ∙ sym (pow-suc 2 n))

  -- the sum's terms are x^(2^i), as the trace is told
  pub sum-term : (n x : ℕ) → x < size F → trace (numbers F) (suc n) x ≡ bit_xor (trace (numbers F) n x) (power (numbers F) x (2 ^ n))
  unfolding trace
  sum-term n x h = sum-shift n x ∙ ap (bit_xor (trace (numbers F) n x)) (squared-power n x h)

  trace-square : (x : ℕ) → x < size F → mul F (Tr F x) (Tr F x) ≡ Tr F x
  unfolding trace
  trace-square x h =
      sum-square F.degree x ∙ sym (xor-cancel x (trace (numbers F) F.degree (mul F x x)))
      ∙ ap (bit_xor x)
      (sum-shift F.degree x ∙ ap (bit_xor (trace (numbers F) F.degree x)) (squared-power F.degree x h ∙ power_size F gen x h)
      ∙ xor_comm (trace (numbers F) F.degree x) x)
      ∙ xor-cancel x (trace (numbers F) F.degree x)

  -- a square has the trace of its root
  pub trace-of-square : (x : ℕ) → x < size F → Tr F (mul F x x) ≡ Tr F x
  unfolding trace
  trace-of-square x h = sym (sum-square F.degree x) ∙ trace-square x h

  pub trace-bit : (x : ℕ) → x < size F → (Tr F x ≡ 0) ⊎ (Tr F x ≡ 1)
  trace-bit x h = ⊎_elim inl (λ e. inr (xor-equal e)) (zero-product F gen t (bit_xor t 1) (trace-lt x h) (xor_lt F.degree t 1 (trace-lt x h) (one_below F gen)) zero-by)
    where
      t : ℕ
      t = Tr F x

      zero-by : mul F t (bit_xor t 1) ≡ 0
      zero-by = mul-xor-r t t 1 ∙ ap₂ bit_xor (trace-square x h) (mul-one-r t (trace-lt x h)) ∙ xor_self t

  -- ---- the trace bits
  -- below the degree, a power of 2 in the field is the number
  pub power-low : (i : ℕ) → i < F.degree → power (numbers F) 2 i ≡ 2 ^ i
  unfolding power
  power-low zero h = refl
  power-low (suc i) h =
      mul-two (power (numbers F) 2 i) (power-lt F gen.monic (one_below F gen) 2 i)
      ∙ ap (λ (y : ℕ). cut F (y * 2)) (power-low i (omega arith)) ∙ ap (cut F) (sym (pow-suc 2 i))
      ∙ cut_below F (2 ^ suc i) (pow-lt h)

  -- a map x ↦ Tr(x c)
  by : ℕ → ℕ → ℕ
  by c x = Tr F (mul F x c)

  by-xor : (c : ℕ) → Additive (by c)
  unfolding by
  by-xor c x y = ap (Tr F) (mul-xor-l x y c) ∙ trace-xor (mul F x c) (mul F y c)

  -- no two elements have the same trace bits, where some element has trace 1
  module _ (w : ℕ) (hw : w < size F) (one : Tr F w ≡ 1) where
    -- only 0 has trace 0 with every multiple
    vanish : (c : ℕ) → c < size F → ((x : ℕ) → x < size F → Tr F (mul F x c) ≡ 0) → c ≡ 0
    vanish c hc all = go (dec_lt 0 c)
      where
        go : Dec (0 < c) → c ≡ 0
        go (no h) = omega arith
        go (yes h) =
            let z : ◌≡◌ {A = ℕ} 0 1 =
            sym (all (mul F w (inverse F c)) (mul-lt w (inverse F c)))
            ∙ ap (Tr F)
            (mul_assoc w (inverse F c) c
            ∙ ap (mul F w) (mul_comm (inverse F c) c ∙ mul-inverse F gen c h hc) ∙ mul-one-r w hw)
            ∙ one in
            absurd (let b : ⊥ = omega arith in b)

    pub bits-apart : (x y : ℕ) → x < size F → y < size F
        → ((i : ℕ) → i < F.degree → Tr F (mul F (power (numbers F) 2 i) x) ≡ Tr F (mul F (power (numbers F) 2 i) y)) → x ≡ y
    unfolding by
    bits-apart x y hx hy e =
        xor-equal (vanish (bit_xor x y) (xor_lt F.degree x y hx hy)
        (λ z hz. ap (Tr F) (mul-xor-r z x y) ∙ trace-xor (mul F z x) (mul F z y)
        ∙ ap (λ (t : ℕ). bit_xor t (Tr F (mul F z y))) (same z hz) ∙ xor_self (Tr F (mul F z y))))
      where
        same : (z : ℕ) → z < size F → Tr F (mul F z x) ≡ Tr F (mul F z y)
        same =
            additive-agree F.degree (by x) (by y) (by-xor x) (by-xor y)
            (λ i hi. subst (λ (t : ℕ). Tr F (mul F t x) ≡ Tr F (mul F t y)) (power-low i hi) (e i hi))

-- an element of each known field whose trace is 1
abbrev Witness : ℕ → ℕ → Type 0
Witness m p = (w : ℕ) × (w < 2 ^ m) × (Tr (field_of m p) w ≡ 1)

witness4 : Witness 4 19
unfolding trace mul
witness4 = (8, lit< tt, refl)

witness8 : Witness 8 285
unfolding trace mul
witness8 = (32, lit< tt, refl)

witness11 : Witness 11 2053
unfolding trace mul
witness11 = (1, lit< tt, refl)

witness : {m p : ℕ} → ListedRow m p → Witness m p
witness = by_row Witness witness4 witness8 witness11

-- no two elements of a known field have the same trace bits Tr(x), Tr(ax), .., Tr(a^(m-1) x)
pub trace-bits : {m p : ℕ} → ListedRow m p → (x y : ℕ) → x < 2 ^ m → y < 2 ^ m
    → ((i : ℕ) → i < m → Tr (field_of m p) (mul (field_of m p) (power (numbers (field_of m p)) 2 i) x) ≡ Tr (field_of m p) (mul (field_of m p) (power (numbers (field_of m p)) 2 i) y))
    → x ≡ y
trace-bits {m} {p} l = let w = witness l in bits-apart (field_of m p) (generated l) w.0 w.1 w.2
