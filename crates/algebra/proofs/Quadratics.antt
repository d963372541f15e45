-- Quadratic polynomials z^2 + a z + b: a root r gives the other, r + a.
--   quadratic-sum   (x^2 + a x + b) + (r^2 + a r + b) = (x + r) (x + r + a)
--   quadratic-root  where r is a root, x is one exactly where x = r or x = r + a
-- Assumes nothing.
use mathlib.Core.Path.{◌∙◌, ◌≡◌, ap, ap₂, sym}
use mathlib.Core.Logic.{◌↔◌, ◌≢◌, ◌⊎◌, inl, inr, ⊎_elim}
use mathlib.Core.List.{[], ◌∷◌}
use Rattle.algebra.specs.Field.{Laws, Ops}
use Rattle.algebra.specs.Polynomial.{eval}
use Rattle.algebra.proofs.Elements.{add_back, add_left_comm, add-zero, equal-of-sum, mul-zero, square-add, zero-mul, zero-of-product, zero?}
use Rattle.algebra.proofs.Evaluation.{eval-quadratic}

module _ {K : Type 0} {F : Ops K} (L : Laws F) where
  infixl 60 ◌⊕◌
  infixl 70 ◌⊗◌
  open F use {zero as 0#, one as 1#, add as ◌⊕◌, mul as ◌⊗◌}
  open L use {add_comm, add_assoc, add-self, zero-add, mul_comm, mul-add}

  -- the constants cancel
  without : (p s b : K) → (p ⊕ b) ⊕ (s ⊕ b) ≡ p ⊕ s
  without p s b = add_assoc p b (s ⊕ b) ∙ ap (λ w. p ⊕ w) (ap (λ w. b ⊕ w) (add_comm s b) ∙ add_back L b s)

  exchange : (p s u v : K) → (p ⊕ s) ⊕ (u ⊕ v) ≡ (p ⊕ u) ⊕ (s ⊕ v)
  exchange p s u v = simp (add_assoc, add_left_comm L)

  pub quadratic-sum : (a b x r : K) → (x ⊗ x ⊕ a ⊗ x ⊕ b) ⊕ (r ⊗ r ⊕ a ⊗ r ⊕ b) ≡ (x ⊕ r) ⊗ (x ⊕ r ⊕ a)
  quadratic-sum a b x r =
      without (x ⊗ x ⊕ a ⊗ x) (r ⊗ r ⊕ a ⊗ r) b ∙ exchange (x ⊗ x) (a ⊗ x) (r ⊗ r) (a ⊗ r)
      ∙ sym (mul-add (x ⊕ r) (x ⊕ r) a ∙ ap₂ ◌⊕◌ (square-add L x r) (mul_comm (x ⊕ r) a ∙ mul-add a x r))

  pub quadratic-root : (a b r x : K) → eval F (b ∷ a ∷ 1# ∷ []) r ≡ 0# → (eval F (b ∷ a ∷ 1# ∷ []) x ≡ 0#) ↔ ((x ≡ r) ⊎ (x ≡ r ⊕ a))
  quadratic-root a b r x e = (λ z. split (zero? L (x ⊕ r)) (sym part ∙ z), λ o. part ∙ ⊎_elim first second o)
    where
      part : eval F (b ∷ a ∷ 1# ∷ []) x ≡ (x ⊕ r) ⊗ (x ⊕ r ⊕ a)
      part =
          sym (add-zero L (eval F (b ∷ a ∷ 1# ∷ []) x)) ∙ ap (λ w. eval F (b ∷ a ∷ 1# ∷ []) x ⊕ w) (sym e)
          ∙ ap₂ ◌⊕◌ (eval-quadratic L a b x) (eval-quadratic L a b r) ∙ quadratic-sum a b x r

      split : (x ⊕ r ≡ 0#) ⊎ (x ⊕ r ≢ 0#) → (x ⊕ r) ⊗ (x ⊕ r ⊕ a) ≡ 0# → (x ≡ r) ⊎ (x ≡ r ⊕ a)
      split (inl z) h = inl (equal-of-sum L x r z)
      split (inr n) h = inr (equal-of-sum L x (r ⊕ a) (sym (add_assoc x r a) ∙ zero-of-product L (x ⊕ r) (x ⊕ r ⊕ a) n h))

      first : x ≡ r → (x ⊕ r) ⊗ (x ⊕ r ⊕ a) ≡ 0#
      first i = ap (λ w. w ⊗ (x ⊕ r ⊕ a)) (ap (λ w. w ⊕ r) i ∙ add-self r) ∙ zero-mul L (x ⊕ r ⊕ a)

      second : x ≡ r ⊕ a → (x ⊕ r) ⊗ (x ⊕ r ⊕ a) ≡ 0#
      second i = ap (λ w. (x ⊕ r) ⊗ w) (add_assoc x r a ∙ ap (λ w. w ⊕ (r ⊕ a)) i ∙ add-self (r ⊕ a)) ∙ mul-zero L (x ⊕ r)
