-- The trace is additive, and 0 or 1 in a field of 2^m elements.
--   trace-add     Tr(x + y) = Tr(x) + Tr(y)
--   trace-zero    Tr(0) = 0
--   trace-square  Tr(x)^2 = Tr(x^2)
--   trace-shift   the terms but for the ends: Tr(x^2) + x = Tr(x) + x^(2^j)
--   trace-fixed   Tr(x^2) = Tr(x) where x^(2^m) = x
--   trace-bit     Tr(x) is 0 or 1
-- Assumes nothing.
use mathlib.Core.Path.{◌∙◌, ◌≡◌, ap, ap₂, refl, sym}
use mathlib.Core.Logic.{◌≢◌, ◌⊎◌, inl, inr}
use Prim.Native.Nat.{suc, zero, ℕ}
use Rattle.algebra.specs.Field.{Laws, Ops, squared, trace}
use Rattle.algebra.proofs.Elements.{add_left_comm, add-zero, equal-of-sum, mul-zero, square-add, zero-of-product, zero?}

module _ {K : Type 0} {F : Ops K} (L : Laws F) where
  infixl 60 ◌⊕◌
  infixl 70 ◌⊗◌
  open F use {zero as 0#, one as 1#, add as ◌⊕◌, mul as ◌⊗◌}
  open L use {add_comm, add_assoc, zero-add, add-self, mul_comm, one-mul, mul-add}

  pub trace-zero : (j : ℕ) → trace F j 0# ≡ 0#
  unfolding trace
  trace-zero zero = refl
  trace-zero (suc j) = zero-add (trace F j (0# ⊗ 0#)) ∙ ap (trace F j) (mul-zero L 0#) ∙ trace-zero j

  pub trace-add : (j : ℕ) (x y : K) → trace F j (x ⊕ y) ≡ trace F j x ⊕ trace F j y
  unfolding trace
  trace-add zero x y = sym (zero-add 0#)
  trace-add (suc j) x y =
      ap (λ w. x ⊕ y ⊕ w) (ap (trace F j) (square-add L x y) ∙ trace-add j (x ⊗ x) (y ⊗ y))
      ∙ simp (add_assoc, add_left_comm L)

  pub trace-square : (j : ℕ) (x : K) → trace F j x ⊗ trace F j x ≡ trace F j (x ⊗ x)
  unfolding trace
  trace-square zero x = mul-zero L 0#
  trace-square (suc j) x = square-add L x (trace F j (x ⊗ x)) ∙ ap (λ w. x ⊗ x ⊕ w) (trace-square j (x ⊗ x))

  -- the terms but for the ends: Tr(x^2) + x = Tr(x) + x^(2^j)
  pub trace-shift : (j : ℕ) (x : K) → trace F j (x ⊗ x) ⊕ x ≡ trace F j x ⊕ squared F j x
  unfolding trace squared
  trace-shift zero x = refl
  trace-shift (suc j) x =
      ap (λ w. w ⊕ x) (add_comm (x ⊗ x) (trace F j ((x ⊗ x) ⊗ (x ⊗ x))) ∙ trace-shift j (x ⊗ x))
      ∙ add_comm (trace F j (x ⊗ x) ⊕ squared F j (x ⊗ x)) x ∙ sym (add_assoc x (trace F j (x ⊗ x)) (squared F j (x ⊗ x)))

  -- Tr(x^2) = Tr(x) where x^(2^m) = x
  pub trace-fixed : (m : ℕ) (x : K) → squared F m x ≡ x → trace F m (x ⊗ x) ≡ trace F m x
  trace-fixed m x e =
      equal-of-sum L (trace F m (x ⊗ x)) (trace F m x)
      (ap (λ w. w ⊕ trace F m x) (sym (add-zero L _) ∙ ap (λ w. trace F m (x ⊗ x) ⊕ w) (sym (add-self x)) ∙ sym (add_assoc (trace F m (x ⊗ x)) x x))
      ∙ ap (λ w. w ⊕ x ⊕ trace F m x) (trace-shift m x ∙ ap (λ w. trace F m x ⊕ w) e)
      ∙ ap (λ w. w ⊕ trace F m x) (add_assoc (trace F m x) x x ∙ ap (λ w. trace F m x ⊕ w) (add-self x) ∙ add-zero L (trace F m x)) ∙ add-self (trace F m x))

  -- Tr(x) is 0 or 1
  pub trace-bit : (m : ℕ) (x : K) → squared F m x ≡ x → (trace F m x ≡ 0#) ⊎ (trace F m x ≡ 1#)
  trace-bit m x e = go (zero? L t)
    where
      t : K
      t = trace F m x

      fixed : t ⊗ t ≡ t
      fixed = trace-square m x ∙ trace-fixed m x e

      go : (t ≡ 0#) ⊎ (t ≢ 0#) → (t ≡ 0#) ⊎ (t ≡ 1#)
      go (inl z) = inl z
      go (inr h) = inr (equal-of-sum L t 1# (zero-of-product L t (t ⊕ 1#) h (mul-add t t 1# ∙ ap₂ ◌⊕◌ fixed (mul_comm t 1# ∙ one-mul t) ∙ add-self t)))
