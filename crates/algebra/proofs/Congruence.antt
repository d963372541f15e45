-- Congruence modulo p: sums, products, repeated squares and traces may be taken of remainders.
--   Cong         p divides f + g
--   cong-refl, cong-trans   it is reflexive and transitive
--   cong-add     of sums
--   cong-mul     of products
--   cong-square  of repeated squares
--   cong-trace   of f + f^2 + f^4 + ..
-- Assumes nothing.
use mathlib.Core.Path.{◌∙◌, ◌≡◌, ap, ap₂, subst, sym}
use mathlib.Core.List.{List, []}
use Prim.Native.Nat.{suc, zero, ℕ}
use Rattle.algebra.specs.Field.{Laws, Ops}
use Rattle.algebra.specs.Polynomial.{Divides, add, coef, frobenius, mul, trace_poly}
use Rattle.algebra.proofs.Series.{Series, plus, plus_assoc, plus-back, plus-left-comm, plus-self, plus-times, times-comm, times-nought}
use Rattle.algebra.proofs.Coefficients.{coef-add, coef-mul}
use Rattle.algebra.proofs.Divisibility.{divides-plus, divides-times, divides-multiple}
use Rattle.algebra.proofs.Signs.{signs}

abbrev pub Cong : {K : Type 0} (F : Ops K) → List K → List K → List K → Type 0
Cong F p f g = Divides F p (plus F (coef F f) (coef F g))

module _ {K : Type 0} {F : Ops K} (L : Laws F) where
  open signs F use {◌⊞◌, ◌⊠◌, ◌∣◌}

  exchange : (a b c d : Series K) → (a ⊞ c) ⊞ (b ⊞ d) ≡ (a ⊞ b) ⊞ (c ⊞ d)
  exchange a b c d = simp (plus_assoc L, plus-left-comm L)

  cross : (a b c d : Series K) → (a ⊞ b) ⊠ c ⊞ (c ⊞ d) ⊠ b ≡ a ⊠ c ⊞ b ⊠ d
  cross a b c d =
      ap₂ ◌⊞◌ (plus-times L a b c) (plus-times L c d b ∙ ap₂ ◌⊞◌ (times-comm L c b) (times-comm L d b))
      ∙ plus_assoc L (a ⊠ c) (b ⊠ c) (b ⊠ c ⊞ b ⊠ d) ∙ ap (λ w. a ⊠ c ⊞ w) (plus-back L (b ⊠ c) (b ⊠ d))

  pub cong-refl : (p f : List K) → Cong F p f f
  cong-refl p f = subst (λ w. p ∣ w) (times-nought L (coef F p) ∙ sym (plus-self L (coef F f))) (divides-multiple L p [])

  pub cong-trans : {p : List K} (f g h : List K) → Cong F p f g → Cong F p g h → Cong F p f h
  cong-trans {p} f g h a b =
      subst (λ w. p ∣ w) (plus_assoc L (coef F f) (coef F g) (coef F g ⊞ coef F h) ∙ ap (λ w. coef F f ⊞ w) (plus-back L (coef F g) (coef F h))) (divides-plus L a b)

  pub cong-add : {p : List K} (f f' g g' : List K) → Cong F p f f' → Cong F p g g' → Cong F p (add F f g) (add F f' g')
  cong-add {p} f f' g g' h k =
      subst (λ w. p ∣ w) (exchange (coef F f) (coef F g) (coef F f') (coef F g') ∙ sym (ap₂ ◌⊞◌ (coef-add L f g) (coef-add L f' g')))
      (divides-plus L h k)

  pub cong-mul : {p : List K} (f f' g g' : List K) → Cong F p f f' → Cong F p g g' → Cong F p (mul F f g) (mul F f' g')
  cong-mul {p} f f' g g' h k =
      subst (λ w. p ∣ w) (cross (coef F f) (coef F f') (coef F g) (coef F g') ∙ sym (ap₂ ◌⊞◌ (coef-mul L f g) (coef-mul L f' g')))
      (divides-plus L (divides-times L g h) (divides-times L f' k))

  pub cong-square : {p : List K} (j : ℕ) (f f' : List K) → Cong F p f f' → Cong F p (frobenius F j f) (frobenius F j f')
  unfolding frobenius
  cong-square zero f f' h = h
  cong-square (suc j) f f' h = cong-square j (mul F f f) (mul F f' f') (cong-mul f f' f f' h h)

  pub cong-trace : {p : List K} (j : ℕ) (f f' : List K) → Cong F p f f' → Cong F p (trace_poly F j f) (trace_poly F j f')
  unfolding trace_poly
  cong-trace {p} zero f f' h = cong-refl p []
  cong-trace (suc j) f f' h = cong-add f f' _ _ h (cong-trace j (mul F f f) (mul F f' f') (cong-mul f f' f f' h h))
