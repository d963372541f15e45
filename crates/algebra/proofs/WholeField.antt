-- The polynomial of the whole field: z^(2^m) + z is the product over all elements, and takes from each polynomial the
-- part that splits.
--   field_poly-monic  z^(2^m) + z is monic of degree 2^m
--   zpow             z^n
--   field_poly-is     its coefficients: 1 at places 2^m and 1, and 0 elsewhere
--   field-product    it is the product of z + r over all elements r
--   gcd-roots        the product over all distinct roots of f is a greatest common divisor of f and z^(2^m) + z
--   begin-gcd        so `gcd` gives it
-- Assumes nothing.
use mathlib.Core.Path.{◌∙◌, ◌≡◌, ap, ap₂, refl, sym}
use mathlib.Core.Logic.{◌≢◌}
use mathlib.Core.List.{List, [], ◌∷◌}
use Prim.Native.Nat.{◌*◌, ◌+◌, ◌<◌, ◌^◌, suc, zero, ℕ}
use native.Mathlib.Nat.{mul-one as mul-one-nat, one-mul as one-mul-nat, pow-suc, suc-add, zero-add as zero-plus}
use native.Mathlib.Omega.{arith}
use lib.ListN.{length}
use Rattle.algebra.specs.Field.{Laws, Ops, squared}
use Rattle.algebra.specs.Trial.{All, Distinct, keep}
use Rattle.algebra.specs.Polynomial.{IsGcd, coef, eval, field_poly, frobenius, from_roots, is_root, linear, mul}
use Rattle.algebra.specs.Routines.{gcd, monic, monic_roots}
use Rattle.algebra.proofs.Series.{Series, starting_with, starting_with-times, nought-plus, plus, times, unit, unit-times, zero-scale}
use Rattle.algebra.proofs.Coefficients.{coef-add, coef-cons, coef-mul}
use Rattle.algebra.proofs.Evaluation.{eval-field_poly}
use Rattle.algebra.proofs.Degree.{Monic, monic-list, monic-times, plus-top}
use Rattle.algebra.proofs.Divisibility.{divides-equal}
use Rattle.algebra.proofs.Factors.{from_roots-monic, monic-roots, roots-divide}
use Rattle.algebra.proofs.CommonDivisors.{gcd-comm}
use Rattle.algebra.proofs.Euclid.{gcd-only}
use Rattle.algebra.proofs.Splitting.{gcd-split}

unfoldable pub zpow : {K : Type 0} → Ops K → ℕ → Series K
zpow F zero = unit F
zpow F (suc n) = starting_with F.zero (zpow F n)

module _ {K : Type 0} {F : Ops K} (L : Laws F) where
  infixl 60 ◌⊕◌
  open F use {zero as 0#, one as 1#, add as ◌⊕◌}
  open L use {add-self}

  frobenius-monic : (j : ℕ) (f : List K) {n : ℕ} → Monic F (coef F f) n → Monic F (coef F (frobenius F j f)) (n * 2 ^ j)
  unfolding frobenius
  frobenius-monic zero f {n} h = rw mul-one-nat h
  frobenius-monic (suc j) f {n} h =
      let e : (n + n) * 2 ^ j ≡ n * 2 ^ suc j = rw pow-suc (omega arith) in
      rw e at (frobenius-monic j (mul F f f) {n = n + n} (rw (coef-mul L f f) (monic-times L h h)))

  -- z^(2^m) + z is monic of degree 2^m
  pub field_poly-monic : (m : ℕ) → 1 < 2 ^ m → Monic F (coef F (field_poly F m)) (2 ^ m)
  field_poly-monic m wide =
      rw (coef-add L (frobenius F m (linear F 0#)) (linear F 0#))
      (plus-top L (rw one-mul-nat at (frobenius-monic m (linear F 0#) (monic-list L (0# ∷ [])))) (monic-list L (0# ∷ [])) wide)

  -- 1 at place n, and 0 elsewhere
  pub zpow-at : (n : ℕ) → zpow F n n ≡ 1#
  unfolding zpow starting_with
  zpow-at zero = refl
  zpow-at (suc n) = zpow-at n

  pub zpow-other : (n k : ℕ) → n ≢ k → zpow F n k ≡ 0#
  unfolding zpow starting_with
  zpow-other zero zero h = absurd (h refl)
  zpow-other zero (suc k) h = refl
  zpow-other (suc n) zero h = refl
  zpow-other (suc n) (suc k) h = zpow-other n k (λ e. h (ap suc e))

  pub zpow-times : (n k : ℕ) → times F (zpow F n) (zpow F k) ≡ zpow F (n + k)
  unfolding zpow
  zpow-times zero k = unit-times L (zpow F k) ∙ ap (zpow F) (sym (zero-plus k))
  zpow-times (suc n) k =
      starting_with-times L 0# (zpow F n) (zpow F k) ∙ ap (λ w. plus F w (starting_with 0# (times F (zpow F n) (zpow F k)))) (zero-scale L (zpow F k))
      ∙ nought-plus L (starting_with 0# (times F (zpow F n) (zpow F k))) ∙ ap (starting_with 0#) (zpow-times n k) ∙ ap (zpow F) (sym (suc-add n k))

  frobenius-zpow : (j : ℕ) (f : List K) (n : ℕ) → coef F f ≡ zpow F n → coef F (frobenius F j f) ≡ zpow F (n * 2 ^ j)
  unfolding frobenius
  frobenius-zpow zero f n e = e ∙ ap (zpow F) (sym (mul-one-nat n))
  frobenius-zpow (suc j) f n e =
      let d : (n + n) * 2 ^ j ≡ n * 2 ^ suc j = rw pow-suc (omega arith) in
      frobenius-zpow j (mul F f f) (n + n) (coef-mul L f f ∙ ap₂ (times F) e e ∙ zpow-times n n) ∙ ap (zpow F) d

  linear-zpow : coef F (linear F 0#) ≡ zpow F 1
  unfolding zpow
  linear-zpow = coef-cons L 0# (1# ∷ []) ∙ ap (starting_with 0#) (coef-cons L 1# [])

  -- its coefficients: 1 at places 2^m and 1, and 0 elsewhere
  pub field_poly-is : (m : ℕ) → coef F (field_poly F m) ≡ plus F (zpow F (2 ^ m)) (zpow F 1)
  field_poly-is m =
      coef-add L (frobenius F m (linear F 0#)) (linear F 0#)
      ∙ ap₂ (plus F) (frobenius-zpow m (linear F 0#) 1 linear-zpow ∙ ap (zpow F) (one-mul-nat (2 ^ m))) linear-zpow

  -- `all` lists each element of a field of 2^m elements once
  module _ (m : ℕ) (all : List K) (each : Distinct all) (count : length all ≡ 2 ^ m) (wide : 1 < 2 ^ m) (fermat : (x : K) → squared F m x ≡ x) where
    all-roots : (s : List K) → All (λ x. eval F (field_poly F m) x ≡ 0#) s
    all-roots [] = tt
    all-roots (x ∷ s) = (eval-field_poly L m x ∙ ap (λ w. w ⊕ x) (fermat x) ∙ add-self x, all-roots s)

    -- it is the product of z + r over all elements r
    pub field-product : coef F (from_roots F all) ≡ coef F (field_poly F m)
    field-product =
        divides-equal L (from_roots F all) (rw (← count) (from_roots-monic L all)) (field_poly-monic m wide) (roots-divide L all (field_poly F m) each (all-roots all))

    -- the product over all distinct roots of f is a greatest common divisor of f and z^(2^m) + z
    pub gcd-roots : (f : List K) → IsGcd F (coef F f) (coef F (field_poly F m)) (coef F (from_roots F (keep (is_root F f) all)))
    gcd-roots f = gcd-comm L (rw field-product at (gcd-split L all f each))

    -- so `gcd` gives it
    pub begin-gcd : (p : List K) → gcd F p (field_poly F m) ≡ monic_roots F (keep (is_root F (monic F p)) all)
    begin-gcd p =
        let s : List K = keep (is_root F (monic F p)) all in
        sym (gcd-only L p (field_poly F m) (monic_roots F s) (rw (monic-roots L s) (gcd-roots (monic F p))))
