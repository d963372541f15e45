-- Elements of the field: what follows at once from its laws, and squares, which are additive in characteristic 2.
--   zero?            an element is 0 or not
--   equal-of-sum     two elements whose sum is 0 are equal
--   zero-of-product  no product of nonzero elements is 0
--   square-add       (x + y)^2 = x^2 + y^2
--   squared-add      (x + y)^(2^j) = x^(2^j) + y^(2^j)
--   squared-mul      (x y)^(2^j) = x^(2^j) y^(2^j)
--   squared-power    `squared` is the power to 2^j
--   power-add        x^(n + k) = x^n x^k
--   power-mul        (x y)^n = x^n y^n
-- Assumes nothing.
use mathlib.Core.Path.{◌∙◌, ◌≡◌, ap, ap₂, refl, sym}
use mathlib.Core.Logic.{◌↔◌, ◌≢◌, ◌⊎◌, inl, inr}
use mathlib.Core.Bool.{Bool, false, true}
use Prim.Native.Nat.{◌+◌, ◌^◌, suc, zero, ℕ}
use native.Mathlib.Nat.{pow-suc, suc-add, zero-add as zero-plus}
use native.Mathlib.Omega.{arith}
use lib.Dec.{T}
use Rattle.algebra.specs.Field.{Laws, Ops, power, squared}

module _ {K : Type 0} {F : Ops K} (L : Laws F) where
  infixl 60 ◌⊕◌
  infixl 70 ◌⊗◌
  open F use {zero as 0#, one as 1#, add as ◌⊕◌, mul as ◌⊗◌}
  open L use {add_comm, add_assoc, zero-add, add-self, mul_comm, mul_assoc, one-mul, mul-add, mul-inv, zero_test}

  pub add_left_comm : (x y z : K) → x ⊕ (y ⊕ z) ≡ y ⊕ (x ⊕ z)
  add_left_comm x y z = sym (add_assoc x y z) ∙ ap (λ w. w ⊕ z) (add_comm x y) ∙ add_assoc y x z

  pub mul_left_comm : (x y z : K) → x ⊗ (y ⊗ z) ≡ y ⊗ (x ⊗ z)
  mul_left_comm x y z = sym (mul_assoc x y z) ∙ ap (λ w. w ⊗ z) (mul_comm x y) ∙ mul_assoc y x z

  pub add-zero : (x : K) → x ⊕ 0# ≡ x
  add-zero x = add_comm x 0# ∙ zero-add x

  pub add_back : (x y : K) → x ⊕ (x ⊕ y) ≡ y
  add_back x y = sym (add_assoc x x y) ∙ ap (λ w. w ⊕ y) (add-self x) ∙ zero-add y

  pub mul-zero : (x : K) → x ⊗ 0# ≡ 0#
  mul-zero x = ap (λ w. x ⊗ w) (sym (add-self 0#)) ∙ mul-add x 0# 0# ∙ add-self (x ⊗ 0#)

  pub zero-mul : (x : K) → 0# ⊗ x ≡ 0#
  zero-mul x = mul_comm 0# x ∙ mul-zero x

  pub add-mul : (x y z : K) → (x ⊕ y) ⊗ z ≡ x ⊗ z ⊕ y ⊗ z
  add-mul x y z = mul_comm (x ⊕ y) z ∙ mul-add z x y ∙ ap₂ ◌⊕◌ (mul_comm z x) (mul_comm z y)

  pub zero? : (x : K) → (x ≡ 0#) ⊎ (x ≢ 0#)
  zero? x = go (F.is_zero x) (zero_test x)
    where
      go : (b : Bool) → T b ↔ (x ≡ 0#) → (x ≡ 0#) ⊎ (x ≢ 0#)
      go true e = inl (e.0 tt)
      go false e = inr e.1

  pub equal-of-sum : (x y : K) → x ⊕ y ≡ 0# → x ≡ y
  equal-of-sum x y e = sym (add-zero x) ∙ ap (λ w. x ⊕ w) (sym e) ∙ add_back x y

  pub zero-of-product : (x y : K) → x ≢ 0# → x ⊗ y ≡ 0# → y ≡ 0#
  zero-of-product x y h e =
      sym (one-mul y) ∙ ap (λ w. w ⊗ y) (sym (mul-inv x h)) ∙ mul_assoc x (F.inv x) y ∙ mul_left_comm x (F.inv x) y ∙ ap (λ w. F.inv x ⊗ w) e
      ∙ mul-zero (F.inv x)

  pub square-add : (x y : K) → (x ⊕ y) ⊗ (x ⊕ y) ≡ x ⊗ x ⊕ y ⊗ y
  square-add x y =
      add-mul x y (x ⊕ y) ∙ ap₂ ◌⊕◌ (mul-add x x y) (mul-add y x y ∙ ap (λ w. w ⊕ y ⊗ y) (mul_comm y x))
      ∙ add_assoc (x ⊗ x) (x ⊗ y) (x ⊗ y ⊕ y ⊗ y) ∙ ap (λ w. x ⊗ x ⊕ w) (add_back (x ⊗ y) (y ⊗ y))

  pub square-mul : (x y : K) → (x ⊗ y) ⊗ (x ⊗ y) ≡ (x ⊗ x) ⊗ (y ⊗ y)
  square-mul x y = simp (mul_assoc, mul_left_comm)

  pub squared-add : (j : ℕ) (x y : K) → squared F j (x ⊕ y) ≡ squared F j x ⊕ squared F j y
  unfolding squared
  squared-add zero x y = refl
  squared-add (suc j) x y = ap (squared F j) (square-add x y) ∙ squared-add j (x ⊗ x) (y ⊗ y)

  pub squared-zero : (j : ℕ) → squared F j 0# ≡ 0#
  squared-zero j = ap (squared F j) (sym (add-self 0#)) ∙ squared-add j 0# 0# ∙ add-self (squared F j 0#)

  pub squared-mul : (j : ℕ) (x y : K) → squared F j (x ⊗ y) ≡ squared F j x ⊗ squared F j y
  unfolding squared
  squared-mul zero x y = refl
  squared-mul (suc j) x y = ap (squared F j) (square-mul x y) ∙ squared-mul j (x ⊗ x) (y ⊗ y)

  pub mul-one : (x : K) → x ⊗ 1# ≡ x
  mul-one x = mul_comm x 1# ∙ one-mul x

  pub power-add : (x : K) (n k : ℕ) → power F x (n + k) ≡ power F x n ⊗ power F x k
  unfolding power
  power-add x zero k = ap (power F x) (zero-plus k) ∙ sym (one-mul (power F x k))
  power-add x (suc n) k = ap (power F x) (suc-add n k) ∙ ap (λ w. x ⊗ w) (power-add x n k) ∙ sym (mul_assoc x (power F x n) (power F x k))

  pub power-mul : (x y : K) (n : ℕ) → power F (x ⊗ y) n ≡ power F x n ⊗ power F y n
  unfolding power
  power-mul x y zero = sym (one-mul 1#)
  power-mul x y (suc n) = ap (λ w. x ⊗ y ⊗ w) (power-mul x y n) ∙ simp (mul_assoc, mul_left_comm)

  pub squared-power : (j : ℕ) (x : K) → squared F j x ≡ power F x (2 ^ j)
  unfolding squared power
  squared-power zero x = sym (mul-one x)
  squared-power (suc j) x =
      let e : 2 ^ j + 2 ^ j ≡ 2 ^ suc j = rw pow-suc (omega arith) in
      squared-power j (x ⊗ x) ∙ power-mul x x (2 ^ j) ∙ sym (power-add x (2 ^ j) (2 ^ j)) ∙ ap (power F x) e
