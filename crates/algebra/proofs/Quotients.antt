-- What is left where a divisor is taken out: `cofactor` is the quotient by a monic divisor.
--   degree-sum      degrees add
--   cofactor_right  the divisor times its cofactor
--   cofactor-only   there is no other
--   cofactor-eval   so of values
--   cofactor-root   a root of p is one of g or of the cofactor
--   cofactor-gcd    the cofactor of a greatest common divisor
-- Assumes nothing.
use mathlib.Core.Path.{◌∙◌, ◌≡◌, ap, subst, sym}
use mathlib.Core.Logic.{◌↔◌, ◌≢◌, ◌⊎◌, inl, inr, ⊎_elim}
use mathlib.Core.List.{List}
use Prim.Native.Nat.{◌+◌, ◌-◌}
use native.Mathlib.Omega.{arith}
use lib.ListN.{length, length-replicate, replicate, take}
use Rattle.algebra.specs.Field.{Laws, Ops}
use Rattle.algebra.specs.Polynomial.{coef, eval}
use Rattle.algebra.specs.Routines.{cofactor, gcd, monic, quo}
use Rattle.algebra.proofs.Elements.{mul-zero, zero-mul, zero-of-product, zero?}
use Rattle.algebra.proofs.Series.{nought-plus, plus_comm}
use Rattle.algebra.proofs.Coefficients.{coef-zeros}
use Rattle.algebra.proofs.Evaluation.{eval-multiple}
use Rattle.algebra.proofs.Degree.{Monic, cut-monic, degree-le, monic-equal, monic-list, monic-times, quotient-top}
use Rattle.algebra.proofs.Divisibility.{quotient-exact}
use Rattle.algebra.proofs.Division.{division-unique}
use Rattle.algebra.proofs.Euclid.{gcd-first}
use Rattle.algebra.proofs.Signs.{signs}

module _ {K : Type 0} {F : Ops K} (L : Laws F) where
  open signs F use {0#, ◌⊗◌, ◌⊞◌, ◌⊠◌, ◌∣◌}
  open L use {one≢zero}

  pub degree-sum : (p g h : List K) → coef F (monic F p) ≡ coef F (monic F g) ⊠ coef F (monic F h) → length g + length h ≡ length p
  degree-sum p g h e =
      let t : Monic F (coef F (monic F p)) (length g + length h) = rw e (monic-times L (monic-list L g) (monic-list L h)) in
      let a = degree-le L (λ z. one≢zero (sym t.at ∙ z)) (monic-list L p) in
      let b = degree-le L (λ z. one≢zero (sym (monic-list L p).at ∙ z)) t in
      omega (arith, a, b)

  -- there is no other
  pub cofactor-only : (p g h : List K) → coef F (monic F p) ≡ coef F (monic F g) ⊠ coef F (monic F h) → h ≡ cofactor F p g
  unfolding cofactor
  cofactor-only p g h e =
      let zeros : List K = replicate (length g) 0# in
      let sum : coef F (monic F p) ≡ coef F (monic F g) ⊠ coef F (monic F h) ⊞ coef F zeros =
      e ∙ sym (ap (λ w. coef F (monic F g) ⊠ coef F (monic F h) ⊞ w) (coef-zeros L (length g)) ∙ plus_comm L _ _ ∙ nought-plus L _) in
      let q : coef F (monic F h) ≡ coef F (quo F g (monic F p)) = (division-unique L g (monic F p) (monic F h) zeros (length-replicate (length g) 0#) sum).0 in
      let n : length h ≡ length p - length g = omega (arith, degree-sum p g h e) in
      monic-equal L h (take (length p - length g) (quo F g (monic F p)))
      (q ∙ sym (cut-monic L (quo F g (monic F p)) (length p - length g)
      (subst (λ w. Monic F w (length p - length g)) q (subst (λ k. Monic F (coef F (monic F h)) k) n (monic-list L h)))))

  -- the divisor times its cofactor
  pub cofactor_right : (p g : List K) → monic F g ∣ coef F (monic F p) → coef F (monic F p) ≡ coef F (monic F g) ⊠ coef F (monic F (cofactor F p g))
  cofactor_right p g h =
      let t = quotient-top L h.quotient (monic-list L g) (quotient-exact L h) (monic-list L p) one≢zero in
      let e : coef F (monic F p) ≡ coef F (monic F g) ⊠ coef F (monic F (take t.0 h.quotient)) =
      sym (quotient-exact L h) ∙ ap (λ w. coef F (monic F g) ⊠ w) (sym (cut-monic L h.quotient t.0 t.2)) in
      subst (λ w. coef F (monic F p) ≡ coef F (monic F g) ⊠ coef F (monic F w)) (cofactor-only p g (take t.0 h.quotient) e) e

  pub cofactor-eval : (p g : List K) → monic F g ∣ coef F (monic F p) → (x : K)
      → eval F (monic F p) x ≡ eval F (monic F g) x ⊗ eval F (monic F (cofactor F p g)) x
  cofactor-eval p g h x = sym (eval-multiple L (monic F g) (monic F p) (monic F (cofactor F p g)) x (sym (cofactor_right p g h)))

  -- a root of p is one of g or of the cofactor
  pub cofactor-root : (p g : List K) → monic F g ∣ coef F (monic F p) → (x : K)
      → (eval F (monic F p) x ≡ 0#) ↔ ((eval F (monic F g) x ≡ 0#) ⊎ (eval F (monic F (cofactor F p g)) x ≡ 0#))
  cofactor-root p g h x = (λ e. go (zero? L a) e, λ o. cofactor-eval p g h x ∙ ⊎_elim (λ z. ap (λ w. w ⊗ b) z ∙ zero-mul L b) (λ z. ap (λ w. a ⊗ w) z ∙ mul-zero L a) o)
    where
      a : K
      a = eval F (monic F g) x

      b : K
      b = eval F (monic F (cofactor F p g)) x

      go : (a ≡ 0#) ⊎ (a ≢ 0#) → eval F (monic F p) x ≡ 0# → (a ≡ 0#) ⊎ (b ≡ 0#)
      go (inl z) e = inl z
      go (inr n) e = inr (zero-of-product L a b n (sym (cofactor-eval p g h x) ∙ e))

  -- the cofactor of a greatest common divisor
  pub cofactor-gcd : (p t : List K) → coef F (monic F p) ≡ coef F (monic F (gcd F p t)) ⊠ coef F (monic F (cofactor F p (gcd F p t)))
  cofactor-gcd p t = cofactor_right p (gcd F p t) (gcd-first L p t)
