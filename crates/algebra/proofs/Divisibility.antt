-- Divisibility of polynomials: its laws.
--   quotient-exact       the divisor times the quotient
--   divides-multiple     d divides d e
--   divides-self         d divides d
--   divides-trans        what divides a divisor divides
--   divides-plus         and divides sums
--   divides-times        and products
--   divides-scale        and multiples
--   divides-product      the factors of f, one after the other
--   divides-equal        a monic polynomial that divides another of its degree is the other
-- Assumes nothing.
use mathlib.Core.Path.{◌∙◌, ◌≡◌, ap, ap₂, fun_ext, subst, sym}
use mathlib.Core.List.{List, [], ◌∷◌}
use Prim.Native.Nat.{◌+◌, suc, zero, ℕ}
use native.Mathlib.Omega.{arith}
use Rattle.algebra.specs.Field.{Laws, Ops}
use Rattle.algebra.specs.Polynomial.{add, coef, mul}
use Rattle.algebra.proofs.Series.{Series, starting_with, scale, times-assoc, times-comm, times-plus, times-unit, unit}
use Rattle.algebra.proofs.Coefficients.{coef-add, coef-cons, coef-mul, times-constant}
use Rattle.algebra.proofs.Degree.{Monic, quotient-top}
use Rattle.algebra.proofs.Signs.{signs}

module _ {K : Type 0} {F : Ops K} (L : Laws F) where
  open signs F use {1#, ◌⊞◌, ◌⊠◌, ◌∣◌}
  open L use {one≢zero}

  pub quotient-exact : {d : List K} {f : Series K} (h : d ∣ f) → coef F d ⊠ coef F h.quotient ≡ f
  quotient-exact {d} h = sym (coef-mul L d h.quotient) ∙ h.exact

  pub divides-multiple : (d e : List K) → d ∣ coef F d ⊠ coef F e
  divides-multiple d e = record { quotient = e; exact = coef-mul L d e }

  pub divides-self : (d : List K) → d ∣ coef F d
  divides-self d = subst (λ w. d ∣ w) (ap (λ w. coef F d ⊠ w) (coef-cons L 1# []) ∙ times-unit L (coef F d)) (divides-multiple d (1# ∷ []))

  pub divides-plus : {d : List K} {f g : Series K} → d ∣ f → d ∣ g → d ∣ f ⊞ g
  divides-plus {d} h k =
      subst (λ w. d ∣ w)
      (ap (λ w. coef F d ⊠ w) (coef-add L h.quotient k.quotient)
      ∙ times-plus L (coef F d) (coef F h.quotient) (coef F k.quotient) ∙ ap₂ ◌⊞◌ (quotient-exact h) (quotient-exact k))
      (divides-multiple d (add F h.quotient k.quotient))

  pub divides-times : {d : List K} {f : Series K} (g : List K) → d ∣ f → d ∣ f ⊠ coef F g
  divides-times {d} g h =
      subst (λ w. d ∣ w)
      (ap (λ w. coef F d ⊠ w) (coef-mul L h.quotient g)
      ∙ sym (times-assoc L (coef F d) (coef F h.quotient) (coef F g)) ∙ ap (λ w. w ⊠ coef F g) (quotient-exact h))
      (divides-multiple d (mul F h.quotient g))

  pub divides-trans : {d : List K} (f : List K) {g : Series K} → d ∣ coef F f → f ∣ g → d ∣ g
  divides-trans {d} f h k = subst (λ w. d ∣ w) (quotient-exact k) (divides-times k.quotient h)

  -- the factors of f, one after the other
  pub divides-product : (a b : List K) {f : Series K} (h : a ∣ f) → b ∣ coef F h.quotient → mul F a b ∣ f
  divides-product a b h k =
      subst (λ w. mul F a b ∣ w)
      (ap (λ w. w ⊠ coef F k.quotient) (coef-mul L a b) ∙ times-assoc L (coef F a) (coef F b) (coef F k.quotient)
      ∙ ap (λ w. coef F a ⊠ w) (quotient-exact k) ∙ quotient-exact h)
      (divides-multiple (mul F a b) k.quotient)

  pub one-divides : (f : List K) → 1# ∷ [] ∣ coef F f
  one-divides f =
      subst (λ w. 1# ∷ [] ∣ w)
      (ap (λ w. w ⊠ coef F f) (coef-cons L 1# []) ∙ times-comm L (unit F) (coef F f) ∙ times-unit L (coef F f))
      (divides-multiple (1# ∷ []) f)

  pub divides-scale : {d : List K} {f : Series K} (c : K) → d ∣ f → d ∣ scale F c f
  divides-scale {d} {f} c h = rw (times-constant L) at (divides-times (c ∷ []) h)

  -- a monic polynomial that divides another of its degree is the other
  pub divides-equal : (f : List K) {g : Series K} {n : ℕ} → Monic F (coef F f) n → Monic F g n → f ∣ g → coef F f ≡ g
  unfolding starting_with
  divides-equal f {g} {n} s t h = sym (times-unit L (coef F f)) ∙ ap (λ w. coef F f ⊠ w) (sym one) ∙ quotient-exact h
    where
      q : (j : ℕ) × (n + j ≡ n) × Monic F (coef F h.quotient) j
      q = quotient-top L h.quotient s (quotient-exact h) t one≢zero

      flat : q.0 ≡ 0
      flat = omega (arith, q.1)

      one : coef F h.quotient ≡ unit F
      one = fun_ext (elim [ zero ↦ ap (coef F h.quotient) (sym flat) ∙ q.2.at | suc k ↦ q.2.above (suc k) (omega (arith, flat)) ])
