-- The product of a field is commutative and associative and distributes over the sum, with no bound on its arguments;
-- 1 is its unit below 2^m.
-- All that is asked is that the polynomial has the field's degree.
--   FullDegree           the polynomial has the field's degree
--   mul_comm, mul_assoc, mul-xor-l, mul-xor-r   the product is commutative, associative, and distributes over the sum
--   mul-zero-l ..   the product with 0 and with 1;  mul-lt  it is an element
--   mul-two         twice an element;  mul-peel  the product by its first factor's last digit and the rest
--   mul-swap        the inner factors of four change places;  square-xor  the square of a sum is the sum of the
--                   squares
--   power-lt, power-add, power-of-power   powers are elements; x^(i+j) and x^(ij)
--   RingLaws, ring  the laws of the product as one value, for a section to open
-- Assumes nothing.
use mathlib.Core.Path.{◌≡◌, sym, ap, ap₂, ◌∙◌}
use Prim.Native.Nat.{ℕ, zero, suc, ◌+◌, ◌*◌, ◌/◌, ◌%◌, ◌<◌}
use native.Mathlib.Nat.{zero-mul, one-mul, zero-add, suc-add, mul-zero, mul-suc}
use lib.Bits.{bit_xor}
use Rattle.algebra.specs.Field.{power}
use Rattle.field.specs.Field.{carry_free, cut, reduce, Field, size, mul, numbers}
use Rattle.field.proofs.Xor.{xor_assoc, xor-cancel, xor-digits}
use Rattle.field.proofs.Digits.{bit-cases}
use Rattle.field.proofs.CarryFree.{carry_free-zero-l, carry_free-comm, carry_free-assoc, carry_free-xor-r, carry_free-one-l, carry_free-double-l, carry_free-double-r}
use Rattle.field.proofs.Reduce.{reduce-zero, reduce-xor, reduce-double, reduce-below, reduce-lt, reduce-left, reduce-right}

-- the polynomial has the field's degree
abbrev pub FullDegree : Field → Type 0
FullDegree F = F.poly / size F ≡ 1

module _ (F : Field) (monic : FullDegree F) where
  pub mul_comm : (a b : ℕ) → mul F a b ≡ mul F b a
  unfolding mul
  mul_comm a b = ap (reduce F) (carry_free-comm a b)

  pub mul_assoc : (a b c : ℕ) → mul F (mul F a b) c ≡ mul F a (mul F b c)
  unfolding mul
  mul_assoc a b c =
      reduce-left F monic (carry_free a b) c ∙ ap (reduce F) (carry_free-assoc a b c)
      ∙ sym (reduce-right F monic a (carry_free b c))

  pub mul-xor-r : (a b c : ℕ) → mul F a (bit_xor b c) ≡ bit_xor (mul F a b) (mul F a c)
  unfolding mul
  mul-xor-r a b c =
      ap (reduce F) (carry_free-xor-r a b c) ∙ reduce-xor F (carry_free a b) (carry_free a c)

  pub mul-xor-l : (a b c : ℕ) → mul F (bit_xor a b) c ≡ bit_xor (mul F a c) (mul F b c)
  mul-xor-l a b c = mul_comm (bit_xor a b) c ∙ mul-xor-r c a b ∙ ap₂ bit_xor (mul_comm c a) (mul_comm c b)

  pub mul-zero-l : (a : ℕ) → mul F 0 a ≡ 0
  unfolding mul
  mul-zero-l a = ap (reduce F) (carry_free-zero-l a) ∙ reduce-zero F

  pub mul-zero-r : (a : ℕ) → mul F a 0 ≡ 0
  mul-zero-r a = mul_comm a 0 ∙ mul-zero-l a

  pub mul-one-l : (a : ℕ) → a < size F → mul F 1 a ≡ a
  unfolding mul
  mul-one-l a h = ap (reduce F) (carry_free-one-l a) ∙ reduce-below F a h

  pub mul-one-r : (a : ℕ) → a < size F → mul F a 1 ≡ a
  mul-one-r a h = mul_comm a 1 ∙ mul-one-l a h

  pub mul-lt : (a b : ℕ) → mul F a b < size F
  unfolding mul
  mul-lt a b = reduce-lt F monic (carry_free a b)

  -- twice an element
  pub mul-two : (a : ℕ) → a < size F → mul F 2 a ≡ cut F (a * 2)
  unfolding mul
  mul-two a h =
      ap (reduce F) (carry_free-double-l 1 a ∙ ap (λ (t : ℕ). t * 2) (carry_free-one-l a))
      ∙ reduce-double F a ∙ ap (λ (t : ℕ). cut F (t * 2)) (reduce-below F a h)

  mul-digit : (n a : ℕ) → a < size F → mul F (n % 2) a ≡ n % 2 * a
  mul-digit n a h =
      bit-cases (λ (d : ℕ). mul F d a ≡ d * a) (mul-zero-l a ∙ sym (zero-mul a)) (mul-one-l a h ∙ sym (one-mul a)) n

  mul-double : (n a : ℕ) → a < size F → mul F (n * 2) a ≡ mul F n (cut F (a * 2))
  unfolding mul
  mul-double n a h =
      ap (reduce F) (carry_free-double-l n a ∙ sym (carry_free-double-r n a))
      ∙ sym (reduce-right F monic n (a * 2))
      ∙ ap (λ (t : ℕ). reduce F (carry_free n t))
      (reduce-double F a ∙ ap (λ (t : ℕ). cut F (t * 2)) (reduce-below F a h))

  -- the product by its first factor's last digit and the rest: what a loop over the digits goes by
  pub mul-peel : (n a : ℕ) → a < size F → mul F n a ≡ bit_xor (n % 2 * a) (mul F (n / 2) (cut F (a * 2)))
  mul-peel n a h =
      ap (λ (t : ℕ). mul F t a) (sym (xor-digits n)) ∙ mul-xor-l (n % 2) (n / 2 * 2) a ∙ ap₂ bit_xor (mul-digit n a h) (mul-double (n / 2) a h)

  -- the inner factors of four change places
  pub mul-swap : (a b c d : ℕ) → mul F (mul F a b) (mul F c d) ≡ mul F (mul F a c) (mul F b d)
  mul-swap a b c d =
      mul_assoc a b (mul F c d)
      ∙ ap (mul F a) (sym (mul_assoc b c d) ∙ ap (λ (x : ℕ). mul F x d) (mul_comm b c) ∙ mul_assoc c b d)
      ∙ sym (mul_assoc a c (mul F b d))

  -- the square of a sum is the sum of the squares
  pub square-xor : (a b : ℕ) → mul F (bit_xor a b) (bit_xor a b) ≡ bit_xor (mul F a a) (mul F b b)
  square-xor a b =
      mul-xor-l a b (bit_xor a b) ∙ ap₂ bit_xor (mul-xor-r a a b) (mul-xor-r b a b)
      ∙ xor_assoc (mul F a a) (mul F a b) (bit_xor (mul F b a) (mul F b b))
      ∙ ap (bit_xor (mul F a a)) (ap (λ (x : ℕ). bit_xor (mul F a b) (bit_xor x (mul F b b))) (mul_comm b a) ∙ xor-cancel (mul F a b) (mul F b b))

  -- ---- powers
  module _ (unit : 1 < size F) where
    pub power-lt : (x n : ℕ) → power (numbers F) x n < size F
    unfolding power
    power-lt x zero = unit
    power-lt x (suc n) = mul-lt x (power (numbers F) x n)

    pub power-add : (x i j : ℕ) → power (numbers F) x (i + j) ≡ mul F (power (numbers F) x i) (power (numbers F) x j)
    unfolding power
    power-add x zero j = ap (power (numbers F) x) (zero-add j) ∙ sym (mul-one-l (power (numbers F) x j) (power-lt x j))
    power-add x (suc i) j =
        ap (power (numbers F) x) (suc-add i j) ∙ ap (mul F x) (power-add x i j) ∙ sym (mul_assoc x (power (numbers F) x i) (power (numbers F) x j))

    pub power-of-power : (x i j : ℕ) → power (numbers F) x (i * j) ≡ power (numbers F) (power (numbers F) x i) j
    unfolding power
    power-of-power x i zero = ap (power (numbers F) x) (mul-zero i)
    power-of-power x i (suc j) = ap (power (numbers F) x) (mul-suc i j) ∙ power-add x (i * j) i ∙ mul_comm (power (numbers F) x (i * j)) (power (numbers F) x i)
        ∙ ap (mul F (power (numbers F) x i)) (power-of-power x i j)

-- the laws of the product as one value, for a section to open: `open ring F monic use {mul_comm, ..}`
pub record RingLaws (F : Field) : Type 0 where
  pub mul_comm : (a b : ℕ) → mul F a b ≡ mul F b a
  pub mul_assoc : (a b c : ℕ) → mul F (mul F a b) c ≡ mul F a (mul F b c)
  pub mul-xor-l : (a b c : ℕ) → mul F (bit_xor a b) c ≡ bit_xor (mul F a c) (mul F b c)
  pub mul-xor-r : (a b c : ℕ) → mul F a (bit_xor b c) ≡ bit_xor (mul F a b) (mul F a c)
  pub mul-zero-l : (a : ℕ) → mul F 0 a ≡ 0
  pub mul-zero-r : (a : ℕ) → mul F a 0 ≡ 0
  pub mul-one-l : (a : ℕ) → a < size F → mul F 1 a ≡ a
  pub mul-one-r : (a : ℕ) → a < size F → mul F a 1 ≡ a
  pub mul-lt : (a b : ℕ) → mul F a b < size F
  pub mul-two : (a : ℕ) → a < size F → mul F 2 a ≡ cut F (a * 2)
  pub mul-peel : (n a : ℕ) → a < size F → mul F n a ≡ bit_xor (n % 2 * a) (mul F (n / 2) (cut F (a * 2)))
  pub mul-swap : (a b c d : ℕ) → mul F (mul F a b) (mul F c d) ≡ mul F (mul F a c) (mul F b d)
  pub square-xor : (a b : ℕ) → mul F (bit_xor a b) (bit_xor a b) ≡ bit_xor (mul F a a) (mul F b b)

pub ring : (F : Field) → FullDegree F → RingLaws F
ring F monic =
    record {
      mul_comm = mul_comm F monic;
      mul_assoc = mul_assoc F monic;
      mul-xor-l = mul-xor-l F monic;
      mul-xor-r = mul-xor-r F monic;
      mul-zero-l = mul-zero-l F monic;
      mul-zero-r = mul-zero-r F monic;
      mul-one-l = mul-one-l F monic;
      mul-one-r = mul-one-r F monic;
      mul-lt = mul-lt F monic;
      mul-two = mul-two F monic;
      mul-peel = mul-peel F monic;
      mul-swap = mul-swap F monic;
      square-xor = square-xor F monic;
    }
