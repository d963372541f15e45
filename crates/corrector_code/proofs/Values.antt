-- The value of a word is that of its number; where a generator is zero, the remainder by it has the value of the
-- number.
--   value_of_digits-xor     the value of a sum
--   digit-turn            the value by digits from the lowest, a turn at a time;  value_of_digits-join  two numbers one
--                         above the other
--   value_of_digits-reduce  the remainder by a generator that is zero at x
--   value-digits          the value of a word
-- Assumes nothing.
use mathlib.Core.Path.{◌≡◌, refl, sym, ap, ap₂, ◌∙◌, subst}
use Prim.Native.Nat.{ℕ, zero, suc, ◌+◌, ◌*◌, ◌/◌, ◌%◌, ◌^◌, ◌<◌}
use native.Mathlib.Nat.{zero-mul, one-mul, zero-lt-suc, pow-suc, div-lt_iff_lt-mul}
use native.Mathlib.Omega.{arith}
use lib.Arith.{bin_ind, lt-one}
use lib.Bits.{bit_xor, xor_mod, xor_lt}
use lib.Pow.{pow_pos}
use lib.Dec.{eqb}
use Rattle.algebra.specs.Polynomial.{eval}
use Rattle.field.specs.Field.{Field, size, horner, cut, reduce, mul, numbers}
use Rattle.field.proofs.Digits.{bit-cases, horner-step}
use Rattle.field.proofs.Xor.{xor_assoc, xor-half, xor-swap}
use Rattle.field.proofs.Reduce.{reduce-step, reduce-zero}
use Rattle.field.proofs.Ring.{FullDegree, ring}
use Rattle.field.proofs.Additive.{Additive}
use Rattle.algebra.specs.Field.{power}
use Rattle.corrector_code.specs.Word.{bit, word_value}
use Rattle.corrector_code.specs.Digits.{value_of_digits, digits}

half_lt : {x : ℕ} (n : ℕ) → x < 2 ^ suc n → x / 2 < 2 ^ n
half_lt {x} n h = (div-lt_iff_lt-mul (zero-lt-suc 1)).1 (subst (λ (t : ℕ). x < t) (pow-suc 2 n) h)

module _ (F : Field) (monic : FullDegree F) (one-lt : 1 < size F) (x : ℕ) where
  open ring F monic use {mul_comm, mul_assoc, mul-zero-r, mul-one-r, mul-xor-r, mul-lt}

  at-step : (n : ℕ) → value_of_digits F x n ≡ bit_xor (n % 2) (mul F x (value_of_digits F x (n / 2)))
  unfolding value_of_digits
  at-step = horner-step (λ r d. bit_xor d (mul F x r)) (mul-zero-r x)

  pub value_of_digits-zero : value_of_digits F x 0 ≡ 0
  unfolding value_of_digits horner
  value_of_digits-zero = refl

  bit-lt : (n : ℕ) → n % 2 < size F
  bit-lt n = omega arith

  -- a value is an element, unless the field has none
  pub value_of_digits-lt : (n : ℕ) → value_of_digits F x n < size F
  value_of_digits-lt =
      bin_ind (λ (n : ℕ). value_of_digits F x n < size F) (subst (λ (y : ℕ). y < size F) (sym value_of_digits-zero) (pow_pos F.degree))
      (λ n ih. subst (λ (y : ℕ). y < size F) (sym (at-step n)) (xor_lt F.degree (n % 2) (mul F x (value_of_digits F x (n / 2))) (bit-lt n) (mul-lt x (value_of_digits F x (n / 2)))))

  pub value_of_digits-xor : Additive (value_of_digits F x)
  value_of_digits-xor m =
      bin_ind (λ (n : ℕ). (y : ℕ) → value_of_digits F x (bit_xor n y) ≡ bit_xor (value_of_digits F x n) (value_of_digits F x y)) (λ y. sym (ap (λ (t : ℕ). bit_xor t (value_of_digits F x y)) value_of_digits-zero))
      (λ n ih y. at-step (bit_xor n y)
      ∙ ap₂ (λ (s t : ℕ). bit_xor s (mul F x t)) (xor_mod n y 1) (ap (value_of_digits F x) (xor-half n y) ∙ ih (y / 2))
      ∙ ap (bit_xor (bit_xor (n % 2) (y % 2))) (mul-xor-r x (value_of_digits F x (n / 2)) (value_of_digits F x (y / 2)))
      ∙ xor-swap (n % 2) (y % 2) (mul F x (value_of_digits F x (n / 2))) (mul F x (value_of_digits F x (y / 2)))
      ∙ ap₂ bit_xor (sym (at-step n)) (sym (at-step y))) m

  -- the value by digits from the lowest: a turn takes the lowest digit of n into the sum, y being the power of x that
  -- it stands for
  pub digit-turn : (sum y n : ℕ) → y < size F → bit_xor (bit_xor sum (n % 2 * y)) (mul F (mul F x y) (value_of_digits F x (n / 2))) ≡ bit_xor sum (mul F y (value_of_digits F x n))
  digit-turn sum y n h =
      xor_assoc sum (n % 2 * y) (mul F (mul F x y) (value_of_digits F x (n / 2)))
      ∙ ap (bit_xor sum)
      (ap₂ bit_xor (bit-cases (λ (d : ℕ). d * y ≡ mul F y d) (zero-mul y ∙ sym (mul-zero-r y)) (one-mul y ∙ sym (mul-one-r y h)) n)
      (ap (λ (t : ℕ). mul F t (value_of_digits F x (n / 2))) (mul_comm x y) ∙ mul_assoc y x (value_of_digits F x (n / 2)))
      ∙ sym (mul-xor-r y (n % 2) (mul F x (value_of_digits F x (n / 2)))) ∙ ap (mul F y) (sym (at-step n)))

  -- where the generator is zero, the remainder by it has the value of the number
  module _ (G : Field) (root : value_of_digits F x G.poly ≡ 0) where
    at_cut : (y : ℕ) → value_of_digits F x (cut G y) ≡ value_of_digits F x y
    unfolding cut
    at_cut y =
        value_of_digits-xor (y / size G % 2 * G.poly) y
        ∙ ap (λ (t : ℕ). bit_xor t (value_of_digits F x y)) (bit-cases (λ (d : ℕ). value_of_digits F x (d * G.poly) ≡ 0) (ap (value_of_digits F x) (zero-mul G.poly) ∙ value_of_digits-zero) (ap (value_of_digits F x) (one-mul G.poly) ∙ root) (y / size G))

    at-digits : (r n : ℕ) → value_of_digits F x (r * 2 + n % 2) ≡ bit_xor (n % 2) (mul F x (value_of_digits F x r))
    at-digits r n =
        let h : (r * 2 + n % 2) / 2 ≡ r = omega arith in
        let d : (r * 2 + n % 2) % 2 ≡ n % 2 = omega arith in
        at-step (r * 2 + n % 2) ∙ ap₂ (λ (s t : ℕ). bit_xor s (mul F x (value_of_digits F x t))) d h

    pub value_of_digits-reduce : (y : ℕ) → value_of_digits F x (reduce G y) ≡ value_of_digits F x y
    value_of_digits-reduce =
        bin_ind (λ (n : ℕ). value_of_digits F x (reduce G n) ≡ value_of_digits F x n) (ap (value_of_digits F x) (reduce-zero G))
        (λ n ih. ap (value_of_digits F x) (reduce-step G n) ∙ at_cut (reduce G (n / 2) * 2 + n % 2) ∙ at-digits (reduce G (n / 2)) n
        ∙ ap (λ (t : ℕ). bit_xor (n % 2) (mul F x t)) ih ∙ sym (at-step n))

  -- the value of a word is the value of its number
  pub value-digits : (n W : ℕ) → W < 2 ^ n → word_value (numbers F) (digits n W) x ≡ value_of_digits F x W
  unfolding digits eval
  value-digits zero W h = sym (ap (value_of_digits F x) (lt-one h) ∙ value_of_digits-zero)
  value-digits (suc n) W h =
      ap₂ (λ (s t : ℕ). bit_xor s (mul F x t)) (bit-cases (λ (d : ℕ). bit (numbers F) (eqb d 1) ≡ d) refl refl W) (value-digits n (W / 2) (half_lt n h))
      ∙ sym (at-step W)

  -- two numbers one above the other
  pub value_of_digits-join : (k n m : ℕ) → m < 2 ^ k → value_of_digits F x (n * 2 ^ k + m) ≡ bit_xor (value_of_digits F x m) (mul F (power (numbers F) x k) (value_of_digits F x n))
  unfolding power
  value_of_digits-join zero n m h =
      let z : m ≡ 0 = lt-one h in
      ap (value_of_digits F x) (let e : n * 1 + m ≡ n = omega arith in e) ∙ sym (ap₂ bit_xor (ap (value_of_digits F x) z ∙ value_of_digits-zero) (mul_comm 1 (value_of_digits F x n) ∙ mul-one-r (value_of_digits F x n) (value_of_digits-lt n)))
  value_of_digits-join (suc k) n m h =
      let half : (n * 2 ^ suc k + m) / 2 ≡ n * 2 ^ k + m / 2 = rw pow-suc (omega arith) in
      let low : (n * 2 ^ suc k + m) % 2 ≡ m % 2 = rw pow-suc (omega arith) in
      let p : ℕ = power (numbers F) x k in
      at-step (n * 2 ^ suc k + m)
      ∙ ap₂ (λ (s t : ℕ). bit_xor s (mul F x t)) low (ap (value_of_digits F x) half ∙ value_of_digits-join k n (m / 2) (half_lt k h))
      ∙ ap (bit_xor (m % 2)) (mul-xor-r x (value_of_digits F x (m / 2)) (mul F p (value_of_digits F x n)))
      ∙ sym (xor_assoc (m % 2) (mul F x (value_of_digits F x (m / 2))) (mul F x (mul F p (value_of_digits F x n))))
      ∙ ap₂ bit_xor (sym (at-step m)) (sym (mul_assoc x p (value_of_digits F x n)))
