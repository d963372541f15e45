-- Euclid's algorithm, as the code runs it: `gcd` is the monic greatest common divisor.
--   gcd-right    what divides it is what divides both
--   gcd-only     no other monic polynomial has that property
--   gcd-first    it divides the first polynomial
--   gcd-second   it divides the second
--   gcd-root     its roots are the common roots
--   gcd-rem      gcd(P, t) = gcd(P, t mod P), for every P
--   gcd-reduced  the second polynomial may be replaced by anything congruent to it, as its remainder
-- Assumes nothing.
use mathlib.Core.Path.{◌≡◌}
use mathlib.Core.Logic.{◌↔◌}
use mathlib.Core.Option.{Option, Option-elim}
use mathlib.Core.List.{List, [], ◌∷◌}
use Prim.Native.Nat.{◌≤◌, suc, zero, ℕ}
use native.Mathlib.Nat.{not-suc-le-zero}
use native.Mathlib.Omega.{arith}
use lib.ListN.{get_or-eq_default, length}
use Rattle.algebra.specs.Field.{Laws, Ops}
use Rattle.algebra.specs.Polynomial.{Divides, IsGcd, coef, eval, linear}
use Rattle.algebra.specs.Routines.{euclid, gcd, monic, norm, rem}
use Rattle.algebra.proofs.Series.{Series, plus_comm}
use Rattle.algebra.proofs.Degree.{monic-equal, monic-list}
use Rattle.algebra.proofs.Lengths.{length-rem}
use Rattle.algebra.proofs.Divisibility.{divides-self, divides-trans, one-divides}
use Rattle.algebra.proofs.Factors.{factor, factor-root}
use Rattle.algebra.proofs.CommonDivisors.{gcd-comm, gcd-mod, gcd-nought, gcd-scale, gcd-unique}
use Rattle.algebra.proofs.Congruence.{Cong}
use Rattle.algebra.proofs.Division.{rem-cong}
use Rattle.algebra.proofs.MakingMonic.{Normed, led, normed, vanished}

module _ {K : Type 0} {F : Ops K} (L : Laws F) where
  infix 50 ◌∣◌
  open F use {zero as 0#, one as 1#}

  abbrev ◌∣◌ : List K → Series K → Type 0
  d ∣ f = Divides F d f

  euclid-right : (n : ℕ) (p f : List K) → length p ≤ n → IsGcd F (coef F (monic F p)) (coef F f) (coef F (monic F (euclid F n p f)))
  unfolding euclid
  euclid-right zero [] f l = λ d. (λ a. (a, divides-trans L (1# ∷ []) a (one-divides L f)), λ b. b.0)
  euclid-right zero (c ∷ p) f l = absurd (not-suc-le-zero l)
  euclid-right (suc n) p f l =
      gcd-mod L (monic F p) (rw (plus_comm L (coef F f) (coef F (rem F p f))) at (rem-cong L p f))
      (go (norm F (length p) (rem F p f))
      (normed L (length p) (rem F p f) (λ j h. get_or-eq_default (rem F p f) 0# (omega (arith, length-rem F p f)))) (euclid-right n))
    where
      go : (o : Option (List K)) → Normed F (coef F (rem F p f)) (length p) o
          → ((s g : List K) → length s ≤ n → IsGcd F (coef F (monic F s)) (coef F g) (coef F (monic F (euclid F n s g))))
          → IsGcd F (coef F (monic F p)) (coef F (rem F p f)) (coef F (monic F (Option-elim o p (λ r. euclid F n r (monic F p)))))
      go o (vanished z) rec = rw z (gcd-nought L)
      go o (led s c k h q) rec = rw q (gcd-scale L c h (gcd-comm L (rec s (monic F p) (omega arith))))

  -- what divides it is what divides both
  pub gcd-right : (p f : List K) → IsGcd F (coef F (monic F p)) (coef F f) (coef F (monic F (gcd F p f)))
  unfolding gcd
  gcd-right p f = euclid-right (length p) p f (omega arith)

  -- no other monic polynomial has that property
  pub gcd-only : (p f g : List K) → IsGcd F (coef F (monic F p)) (coef F f) (coef F (monic F g)) → g ≡ gcd F p f
  gcd-only p f g h = monic-equal L g (gcd F p f) (gcd-unique L (monic F g) (monic F (gcd F p f)) (monic-list L g) (monic-list L (gcd F p f)) h (gcd-right p f))

  -- the second polynomial may be replaced by anything congruent to it, as its remainder
  pub gcd-reduced : (p t u : List K) → Cong F (monic F p) t u → gcd F p t ≡ gcd F p u
  gcd-reduced p t u h = gcd-only p u (gcd F p t) (gcd-mod L (monic F p) h (gcd-right p t))

  pub gcd-rem : (p t : List K) → gcd F p t ≡ gcd F p (rem F p t)
  gcd-rem p t = gcd-reduced p t (rem F p t) (rem-cong L p t)

  pub gcd-first : (p f : List K) → monic F (gcd F p f) ∣ coef F (monic F p)
  gcd-first p f = ((gcd-right p f (monic F (gcd F p f))).0 (divides-self L (monic F (gcd F p f)))).0

  pub gcd-second : (p f : List K) → monic F (gcd F p f) ∣ coef F f
  gcd-second p f = ((gcd-right p f (monic F (gcd F p f))).0 (divides-self L (monic F (gcd F p f)))).1

  -- its roots are the common roots
  pub gcd-root : (p f : List K) (x : K) → (eval F (monic F (gcd F p f)) x ≡ 0#) ↔ ((eval F (monic F p) x ≡ 0#) × (eval F f x ≡ 0#))
  gcd-root p f x = (
    λ e. let h = (gcd-right p f (linear F x)).0 (factor L x (monic F (gcd F p f)) e) in (factor-root L x (monic F p) h.0, factor-root L x f h.1),
    λ h. factor-root L x (monic F (gcd F p f)) ((gcd-right p f (linear F x)).1 (factor L x (monic F p) h.0, factor L x f h.1)),
  )
