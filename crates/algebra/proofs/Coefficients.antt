-- Lists as polynomials: `coef` takes sums, multiples, products and squares of lists to those of sequences.
--   coef-cons    c + z p
--   coef-add     the sum
--   coef-scale   a multiple
--   coef-mul     the product
--   coef-square  the square, coefficient by coefficient
--   coef-zeros   a list of zeros is 0
--   coef-top     zeros at the top change nothing
-- Assumes nothing.
use mathlib.Core.Path.{◌∙◌, ◌≡◌, ap, ap₂, fun_ext, refl, sym}
use mathlib.Core.List.{List, [], ◌++◌, ◌∷◌, map}
use Prim.Native.Nat.{suc, zero, ℕ}
use lib.ListN.{replicate}
use Rattle.algebra.specs.Field.{Laws, Ops}
use Rattle.algebra.specs.Polynomial.{add, coef, mul}
use Rattle.algebra.specs.Routines.{square}
use Rattle.algebra.proofs.Elements.{mul-zero}
use Rattle.algebra.proofs.Series.{Series, starting_with, starting_with-plus, starting_with-square, starting_with-times, nought, nought-plus, plus_comm, scale, times-comm, times-nought, times-scale, times-unit, unit, unit-times}
use Rattle.algebra.proofs.Signs.{signs}

module _ {K : Type 0} {F : Ops K} (L : Laws F) where
  open signs F use {0#, 1#, ◌⊕◌, ◌⊗◌, ◌⊞◌, ◌⊠◌}
  open L use {mul_comm, one-mul}

  pub coef-cons : (c : K) (p : List K) → coef F (c ∷ p) ≡ starting_with c (coef F p)
  unfolding starting_with
  coef-cons c p = fun_ext λ k. elim k as (λ k. coef F (c ∷ p) k ≡ starting_with c (coef F p) k) [ zero ↦ refl | suc k ↦ refl ]

  pub coef-add : (p q : List K) → coef F (add F p q) ≡ coef F p ⊞ coef F q
  unfolding add
  coef-add [] q = sym (nought-plus L (coef F q))
  coef-add (c ∷ p) [] = sym (plus_comm L (coef F (c ∷ p)) (nought F) ∙ nought-plus L (coef F (c ∷ p)))
  coef-add (c ∷ p) (d ∷ q) =
      coef-cons (c ⊕ d) (add F p q) ∙ ap (starting_with (c ⊕ d)) (coef-add p q)
      ∙ sym (ap₂ ◌⊞◌ (coef-cons c p) (coef-cons d q) ∙ starting_with-plus L c d (coef F p) (coef F q))

  pub coef-scale : (c : K) (p : List K) → coef F (map (F.mul c) p) ≡ scale F c (coef F p)
  unfolding scale
  coef-scale c p = fun_ext (at p)
    where
      at : (p : List K) (k : ℕ) → coef F (map (F.mul c) p) k ≡ c ⊗ coef F p k
      at [] k = sym (mul-zero L c)
      at (d ∷ p) zero = refl
      at (d ∷ p) (suc k) = at p k

  pub coef-mul : (p q : List K) → coef F (mul F p q) ≡ coef F p ⊠ coef F q
  unfolding mul
  coef-mul [] q = sym (times-comm L (nought F) (coef F q) ∙ times-nought L (coef F q))
  coef-mul (c ∷ p) q =
      coef-add (map (F.mul c) q) (0# ∷ mul F p q)
      ∙ ap₂ ◌⊞◌ (coef-scale c q) (coef-cons 0# (mul F p q) ∙ ap (starting_with 0#) (coef-mul p q))
      ∙ sym (ap (λ f. f ⊠ coef F q) (coef-cons c p) ∙ starting_with-times L c (coef F p) (coef F q))

  pub coef-square : (f : List K) → coef F (square F f) ≡ coef F f ⊠ coef F f
  unfolding square
  coef-square [] = sym (times-nought L (coef F []))
  coef-square (c ∷ f) =
      coef-cons (F.mul c c) (0# ∷ square F f) ∙ ap (starting_with (F.mul c c)) (coef-cons 0# (square F f) ∙ ap (starting_with 0#) (coef-square f))
      ∙ sym (ap (λ w. w ⊠ w) (coef-cons c f) ∙ starting_with-square L c (coef F f))

  pub coef-zeros : (n : ℕ) → coef F (replicate n 0#) ≡ nought F
  unfolding starting_with
  coef-zeros zero = refl
  coef-zeros (suc n) = coef-cons 0# (replicate n 0#) ∙ fun_ext (elim [ zero ↦ refl | suc k ↦ ap (λ f. f k) (coef-zeros n) ])

  -- the list 1 is the unit
  pub coef-one : coef F (1# ∷ []) ≡ unit F
  coef-one = coef-cons 1# []

  pub one-times : (f : Series K) → coef F (1# ∷ []) ⊠ f ≡ f
  one-times f = ap (λ w. w ⊠ f) coef-one ∙ unit-times L f

  pub coef-top : (p : List K) (n : ℕ) → coef F (p ++ replicate n 0#) ≡ coef F p
  coef-top p n = fun_ext (at p)
    where
      at : (p : List K) (k : ℕ) → coef F (p ++ replicate n 0#) k ≡ coef F p k
      at [] k = ap (λ f. f k) (coef-zeros n)
      at (c ∷ p) zero = refl
      at (c ∷ p) (suc k) = at p k

  -- a product by a constant is a multiple
  pub times-constant : (c : K) (f : Series K) → f ⊠ coef F (c ∷ []) ≡ scale F c f
  unfolding starting_with scale
  times-constant c f =
      ap (λ w. f ⊠ w) (coef-cons c [] ∙ fun_ext (elim [ zero ↦ sym (mul_comm c 1# ∙ one-mul c) | suc k ↦ sym (mul-zero L c) ]))
      ∙ times-scale L c f (unit F) ∙ ap (scale F c) (times-unit L f)
