-- Commutative rings in which x + x = 0, without 1 and inverses: what the values of polynomials need. The fields of
-- numbers obey these laws for every number, so that no law built on them asks whether a number is an element.
--   Ring        the laws
--   field-ring  a field obeys them;  known-ring  the numbers of a known field do
--   add_left_comm, mul_left_comm, add-zero, add_back, mul-zero, zero-mul, add-mul   what follows at once
-- Assumes nothing.
use mathlib.Core.Path.{◌≡◌, ◌∙◌, refl, sym, ap, ap₂}
use mathlib.Core.Bool.{true}
use Prim.Native.Nat.{ℕ}
use lib.Bits.{xor_self, xor_comm}
use Rattle.algebra.specs.Field.{Ops, Laws}
use Rattle.field.specs.Rows.{known}
use Rattle.field.specs.Field.{field_at, G}
use Rattle.field.proofs.Xor.{xor_assoc}
use Rattle.field.proofs.Known.{listed}
use Rattle.field.proofs.Generator.{generated}
use Rattle.field.proofs.Ring.{RingLaws, ring}

pub record Ring {K : Type 0} (F : Ops K) : Type 0 where
  pub add_comm : (x y : K) → F.add x y ≡ F.add y x
  pub add_assoc : (x y z : K) → F.add (F.add x y) z ≡ F.add x (F.add y z)
  pub zero-add : (x : K) → F.add F.zero x ≡ x
  pub add-self : (x : K) → F.add x x ≡ F.zero
  pub mul_comm : (x y : K) → F.mul x y ≡ F.mul y x
  pub mul_assoc : (x y z : K) → F.mul (F.mul x y) z ≡ F.mul x (F.mul y z)
  pub mul-add : (x y z : K) → F.mul x (F.add y z) ≡ F.add (F.mul x y) (F.mul x z)

-- a field is such a ring
pub field-ring : {K : Type 0} {F : Ops K} → Laws F → Ring F
field-ring L = record {
  add_comm = L.add_comm;
  add_assoc = L.add_assoc;
  zero-add = L.zero-add;
  add-self = L.add-self;
  mul_comm = L.mul_comm;
  mul_assoc = L.mul_assoc;
  mul-add = L.mul-add;
}

-- so are the numbers of a known field, whatever their size
pub known-ring : (m : ℕ) → known m ≡ true → Ring (G m)
known-ring m k =
    let L : RingLaws (field_at m) = ring (field_at m) (generated (listed m k)).monic in
    record {
      add_comm = xor_comm;
      add_assoc = xor_assoc;
      zero-add = λ x. refl;
      add-self = xor_self;
      mul_comm = L.mul_comm;
      mul_assoc = L.mul_assoc;
      mul-add = L.mul-xor-r;
    }

module _ {K : Type 0} {F : Ops K} (R : Ring F) where
  infixl 60 ◌⊕◌
  infixl 70 ◌⊗◌
  open F use {zero as 0#, add as ◌⊕◌, mul as ◌⊗◌}
  open R use {add_comm, add_assoc, zero-add, add-self, mul_comm, mul_assoc, mul-add}

  pub add_left_comm : (x y z : K) → x ⊕ (y ⊕ z) ≡ y ⊕ (x ⊕ z)
  add_left_comm x y z = sym (add_assoc x y z) ∙ ap (λ w. w ⊕ z) (add_comm x y) ∙ add_assoc y x z

  pub mul_left_comm : (x y z : K) → x ⊗ (y ⊗ z) ≡ y ⊗ (x ⊗ z)
  mul_left_comm x y z = sym (mul_assoc x y z) ∙ ap (λ w. w ⊗ z) (mul_comm x y) ∙ mul_assoc y x z

  pub add-zero : (x : K) → x ⊕ 0# ≡ x
  add-zero x = add_comm x 0# ∙ zero-add x

  pub add_back : (x y : K) → x ⊕ (x ⊕ y) ≡ y
  add_back x y = sym (add_assoc x x y) ∙ ap (λ w. w ⊕ y) (add-self x) ∙ zero-add y

  pub mul-zero : (x : K) → x ⊗ 0# ≡ 0#
  mul-zero x = ap (λ w. x ⊗ w) (sym (add-self 0#)) ∙ mul-add x 0# 0# ∙ add-self (x ⊗ 0#)

  pub zero-mul : (x : K) → 0# ⊗ x ≡ 0#
  zero-mul x = mul_comm 0# x ∙ mul-zero x

  pub add-mul : (x y z : K) → (x ⊕ y) ⊗ z ≡ x ⊗ z ⊕ y ⊗ z
  add-mul x y z = mul_comm (x ⊕ y) z ∙ mul-add z x y ∙ ap₂ ◌⊕◌ (mul_comm z x) (mul_comm z y)

  -- characteristic 2: two elements whose sum is 0 are equal
  pub equal-of-sum : (x y : K) → x ⊕ y ≡ 0# → x ≡ y
  equal-of-sum x y e = sym (add-zero x) ∙ ap (λ w. x ⊕ w) (sym e) ∙ add_back x y

  pub square-add : (x y : K) → (x ⊕ y) ⊗ (x ⊕ y) ≡ x ⊗ x ⊕ y ⊗ y
  square-add x y =
      add-mul x y (x ⊕ y) ∙ ap₂ ◌⊕◌ (mul-add x x y) (mul-add y x y)
      ∙ add_assoc (x ⊗ x) (x ⊗ y) (y ⊗ x ⊕ y ⊗ y)
      ∙ ap (λ w. x ⊗ x ⊕ w) (ap (λ w. x ⊗ y ⊕ (w ⊕ y ⊗ y)) (mul_comm y x) ∙ add_back (x ⊗ y) (y ⊗ y))
