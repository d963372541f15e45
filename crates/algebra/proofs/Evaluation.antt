-- Evaluation is a homomorphism: `eval` takes sums, multiples and products of polynomials to those of the field.
--   eval-same       a value depends on the polynomial, and not on the list that holds it
--   eval_add        sums
--   eval-scale      multiples
--   eval_mul        products
--   eval-linear     (z + r)(x) = r + x
--   eval-append     the coefficients in two parts: p(x) + x^n r(x)
--   eval-monic      p(x) + x^n, with n the degree
--   eval-quadratic  x^2 + a x + b
--   eval-frobenius  repeated squares
--   eval-trace_poly  f + f^2 + f^4 + ..
--   eval-field_poly  z^(2^m) + z
--   eval-trace_of    Tr(b z)
-- Assumes nothing.
use mathlib.Core.Path.{◌∙◌, ◌≡◌, ap, ap₂, refl, sym}
use mathlib.Core.List.{List, [], ◌++◌, ◌∷◌, map}
use Prim.Native.Nat.{suc, zero, ℕ}
use lib.ListN.{length}
use Rattle.algebra.specs.Field.{Laws, Ops, power, squared, trace}
use Rattle.algebra.specs.Polynomial.{add, coef, eval, field_poly, frobenius, linear, mul, trace_of, trace_poly}
use Rattle.algebra.specs.Routines.{monic, square}
use Rattle.algebra.proofs.Elements.{add_left_comm, add-mul, add-zero, mul_left_comm, mul-one, mul-zero, zero-mul}
use Rattle.algebra.proofs.Series.{Series, after_first, nought, times}
use Rattle.algebra.proofs.Coefficients.{coef-mul, coef-square}

module _ {K : Type 0} {F : Ops K} (L : Laws F) where
  infixl 60 ◌⊕◌
  infixl 70 ◌⊗◌
  infixl 70 ◌⊠◌
  open F use {zero as 0#, one as 1#, add as ◌⊕◌, mul as ◌⊗◌}
  open L use {add_comm, add_assoc, zero-add, mul_comm, mul_assoc, one-mul, mul-add}

  abbrev ◌⊠◌ : Series K → Series K → Series K
  f ⊠ g = times F f g

  eval-nought : (p : List K) (x : K) → coef F p ≡ nought F → eval F p x ≡ 0#
  unfolding eval
  eval-nought [] x e = refl
  eval-nought (c ∷ p) x e =
      ap₂ (λ a b. a ⊕ x ⊗ b) (ap (λ f. f 0) e) (eval-nought p x (ap after_first e)) ∙ zero-add (x ⊗ 0#) ∙ mul-zero L x

  -- a value depends on the polynomial, and not on the list that holds it
  pub eval-same : (p q : List K) (x : K) → coef F p ≡ coef F q → eval F p x ≡ eval F q x
  unfolding eval
  eval-same [] q x e = sym (eval-nought q x (sym e))
  eval-same (c ∷ p) [] x e = eval-nought (c ∷ p) x e
  eval-same (c ∷ p) (d ∷ q) x e =
      ap₂ (λ a b. a ⊕ x ⊗ b) (ap (λ f. f 0) e) (eval-same p q x (ap after_first e))

  pub eval_add : (p q : List K) (x : K) → eval F (add F p q) x ≡ eval F p x ⊕ eval F q x
  unfolding eval add
  eval_add [] q x = sym (zero-add (eval F q x))
  eval_add (c ∷ p) [] x = sym (add-zero L (eval F (c ∷ p) x))
  eval_add (c ∷ p) (d ∷ q) x =
      ap (λ v. c ⊕ d ⊕ x ⊗ v) (eval_add p q x)
      ∙ simp (mul-add, add_assoc, add_left_comm L)

  pub eval-scale : (c : K) (p : List K) (x : K) → eval F (map (F.mul c) p) x ≡ c ⊗ eval F p x
  unfolding eval
  eval-scale c [] x = sym (mul-zero L c)
  eval-scale c (d ∷ p) x =
      ap (λ v. c ⊗ d ⊕ x ⊗ v) (eval-scale c p x) ∙ simp (mul-add, mul_left_comm L)

  pub eval_mul : (p q : List K) (x : K) → eval F (mul F p q) x ≡ eval F p x ⊗ eval F q x
  unfolding eval mul
  eval_mul [] q x = sym (zero-mul L (eval F q x))
  eval_mul (c ∷ p) q x =
      eval_add (map (F.mul c) q) (0# ∷ mul F p q) x
      ∙ ap₂ (λ a b. a ⊕ (0# ⊕ x ⊗ b)) (eval-scale c q x) (eval_mul p q x)
      ∙ simp (zero-add, add-mul L, mul_assoc)

  pub eval-linear : (r x : K) → eval F (linear F r) x ≡ r ⊕ x
  unfolding eval
  eval-linear r x = simp (mul-zero L, add-zero L, mul_comm x 1#, one-mul)

  -- n is the length of the first part
  pub eval-append : (p r : List K) (x : K) → eval F (p ++ r) x ≡ eval F p x ⊕ power F x (length p) ⊗ eval F r x
  unfolding eval power
  eval-append [] r x = sym (zero-add (1# ⊗ eval F r x) ∙ one-mul (eval F r x))
  eval-append (c ∷ p) r x =
      ap (λ v. c ⊕ x ⊗ v) (eval-append p r x) ∙ simp (mul-add, mul_assoc, add_assoc)

  pub eval-monic : (p : List K) (x : K) → eval F (monic F p) x ≡ eval F p x ⊕ power F x (length p)
  unfolding eval
  eval-monic p x =
      eval-append p (1# ∷ []) x ∙ ap (λ v. eval F p x ⊕ v) (ap (λ v. power F x (length p) ⊗ v) (ap (λ v. 1# ⊕ v) (mul-zero L x) ∙ add-zero L 1#) ∙ mul-one L (power F x (length p)))

  pub eval-quadratic : (a b x : K) → eval F (b ∷ a ∷ 1# ∷ []) x ≡ x ⊗ x ⊕ a ⊗ x ⊕ b
  unfolding eval
  eval-quadratic a b x =
      ap (λ v. b ⊕ x ⊗ (a ⊕ x ⊗ v)) (ap (λ v. 1# ⊕ v) (mul-zero L x) ∙ add-zero L 1#) ∙ ap (λ v. b ⊕ x ⊗ (a ⊕ v)) (mul-one L x)
      ∙ ap (λ v. b ⊕ v) (mul-add x a x ∙ add_comm (x ⊗ a) (x ⊗ x) ∙ ap (λ v. x ⊗ x ⊕ v) (mul_comm x a)) ∙ add_comm b (x ⊗ x ⊕ a ⊗ x)

  pub eval-frobenius : (j : ℕ) (f : List K) (x : K) → eval F (frobenius F j f) x ≡ squared F j (eval F f x)
  unfolding frobenius squared
  eval-frobenius zero f x = refl
  eval-frobenius (suc j) f x = eval-frobenius j (mul F f f) x ∙ ap (squared F j) (eval_mul f f x)

  pub eval-trace_poly : (j : ℕ) (f : List K) (x : K) → eval F (trace_poly F j f) x ≡ trace F j (eval F f x)
  unfolding trace_poly trace eval
  eval-trace_poly zero f x = refl
  eval-trace_poly (suc j) f x =
      eval_add f (trace_poly F j (mul F f f)) x
      ∙ ap (λ v. eval F f x ⊕ v) (eval-trace_poly j (mul F f f) x ∙ ap (trace F j) (eval_mul f f x))

  pub eval-field_poly : (m : ℕ) (x : K) → eval F (field_poly F m) x ≡ squared F m x ⊕ x
  eval-field_poly m x =
      eval_add (frobenius F m (linear F 0#)) (linear F 0#) x
      ∙ ap₂ ◌⊕◌ (eval-frobenius m (linear F 0#) x ∙ ap (squared F m) (eval-linear 0# x ∙ zero-add x)) (eval-linear 0# x ∙ zero-add x)

  -- Tr(b z) is 0 at r where Tr(b r) is
  pub eval-trace_of : (m : ℕ) (b r : K) → eval F (trace_of F m b) r ≡ trace F m (F.mul b r)
  unfolding eval
  eval-trace_of m b r =
      eval-trace_poly m (0# ∷ b ∷ []) r ∙ ap (trace F m) (simp (mul-zero L, add-zero L, zero-add, mul_comm r b))

  -- a value of a multiple
  pub eval-multiple : (d f e : List K) (r : K) → coef F d ⊠ coef F e ≡ coef F f → eval F d r ⊗ eval F e r ≡ eval F f r
  eval-multiple d f e r h = sym (eval_mul d e r) ∙ eval-same (mul F d e) f r (coef-mul L d e ∙ h)

  -- a value of a square
  pub eval-square : (f : List K) (x : K) → eval F (square F f) x ≡ eval F f x ⊗ eval F f x
  eval-square f x = eval-same (square F f) (mul F f f) x (coef-square L f ∙ sym (coef-mul L f f)) ∙ eval_mul f f x
