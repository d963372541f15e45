-- Greatest common divisors: what follows from their meaning alone.
--   gcd-comm    the order of the two does not matter
--   gcd-nought  with 0
--   gcd-scale   a nonzero multiple changes nothing
--   gcd-mod     the second polynomial may be taken modulo the first
--   gcd-unique  there is one monic greatest common divisor
-- Assumes nothing.
use mathlib.Core.Path.{◌≡◌, subst}
use mathlib.Core.Logic.{◌≢◌}
use mathlib.Core.List.{List, []}
use Prim.Native.Nat.{ℕ}
use native.Mathlib.Omega.{arith}
use Rattle.algebra.specs.Field.{Laws, Ops}
use Rattle.algebra.specs.Polynomial.{IsGcd, coef}
use Rattle.algebra.proofs.Series.{Series, nought, plus-back, plus_comm, scale, scale_back, times-nought}
use Rattle.algebra.proofs.Degree.{Monic, quotient-top}
use Rattle.algebra.proofs.Divisibility.{divides-equal, divides-plus, divides-scale, divides-self, divides-trans, divides-multiple, quotient-exact}
use Rattle.algebra.proofs.Signs.{signs}

module _ {K : Type 0} {F : Ops K} (L : Laws F) where
  open signs F use {0#, ◌⊞◌, ◌∣◌}
  open L use {one≢zero}

  pub gcd-comm : {p t g : Series K} → IsGcd F p t g → IsGcd F t p g
  gcd-comm h d = (λ a. (((h d).0 a).1, ((h d).0 a).0), λ b. (h d).1 (b.1, b.0))

  pub gcd-nought : {p : Series K} → IsGcd F p (nought F) p
  gcd-nought d = (λ a. (a, rw (times-nought L) at (divides-multiple L d [])), λ b. b.0)

  -- a nonzero multiple changes nothing
  pub gcd-scale : {p t g : Series K} (c : K) → c ≢ 0# → IsGcd F p t g → IsGcd F p (scale F c t) g
  gcd-scale {p} {t} c h i d =
      (λ a. (((i d).0 a).0, divides-scale L c ((i d).0 a).1), λ b. (i d).1 (b.0, subst (λ w. d ∣ w) (scale_back L c t h) (divides-scale L (F.inv c) b.1)))

  -- the second polynomial may be taken modulo the first
  pub gcd-mod : (p : List K) {t u g : Series K} → p ∣ t ⊞ u → IsGcd F (coef F p) t g → IsGcd F (coef F p) u g
  gcd-mod p {t} {u} m h d = (λ a. (((h d).0 a).0, over t u m ((h d).0 a).0 ((h d).0 a).1), λ b. (h d).1 (b.0, over u t (rw (plus_comm L t u) at m) b.0 b.1))
    where
      over : (t u : Series K) → p ∣ t ⊞ u → d ∣ coef F p → d ∣ t → d ∣ u
      over t u m a b = rw (plus-back L) at (divides-plus L b (divides-trans L p a m))

  -- there is one monic greatest common divisor
  pub gcd-unique : {p t : Series K} (g h : List K) {n m : ℕ} → Monic F (coef F g) n → Monic F (coef F h) m
      → IsGcd F p t (coef F g) → IsGcd F p t (coef F h) → coef F g ≡ coef F h
  gcd-unique g h {n} {m} s t a b =
      let u : g ∣ coef F h = (b g).1 ((a g).0 (divides-self L g)) in
      let v : h ∣ coef F g = (a h).1 ((b h).0 (divides-self L h)) in
      let i = quotient-top L u.quotient s (quotient-exact L u) t one≢zero in
      let j = quotient-top L v.quotient t (quotient-exact L v) s one≢zero in
      let e : m ≡ n = omega (arith, i.1, j.1) in
      divides-equal L g s (rw e at t) u
