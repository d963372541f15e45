-- What the outcomes of the routines mean, in the words of the theory.
--   gcd-means        what `gcd` leaves divides both, and what divides both divides it
--   gcd-below        and its coefficients are elements
--   monic-means      what `make_monic` leaves, times the leading coefficient, is what it was given
--   monic-vanishes   where it returns 0, all coefficients were 0
-- Assumes nothing.
use mathlib.Core.Path.{◌≡◌, sym, ◌∙◌, subst}
use mathlib.Core.Logic.{◌≢◌}
use mathlib.Core.List.{List}
use Prim.Native.Nat.{ℕ, ◌-◌, ◌^◌}
use lib.ListN.{take, get_or}
use Rattle.algebra.specs.Polynomial.{Below, IsGcdBelow}
use Rattle.algebra.specs.Routines.{monic}
use Rattle.algebra.proofs.StaysBelow as S
use Rattle.algebra.proofs.NumberDivision.{gcd-right}
use Rattle.algebra.proofs.NumberMonic.{Made, norm-made, norm-none}
use Rattle.field.specs.Field.{G}
use Rattle.poly.specs.Lent.{Lent}
use Rattle.poly.specs.Monic.{MadeMonic}
use Rattle.poly_gcd.specs.Asking.{Commonable}
use Rattle.poly_gcd.specs.Euclid.{GcdIs}
use Rattle.poly.proofs.Logs.{numbers_of}
use Rattle.poly_gcd.proofs.EuclidLoops.{monic_low-some, monic_low-none}

module _ {m : ℕ} {ls ts p t g g' : List ℕ} {n : ℕ} (l : Lent m ls ts) (c : Commonable m p t g) (d : GcdIs m p t n g') where
  pub gcd-means : IsGcdBelow (G m) (2 ^ m) (monic (G m) p) t (monic (G m) (take n g'))
  gcd-means =
      subst (λ u. IsGcdBelow (G m) (2 ^ m) (monic (G m) p) t (monic (G m) u)) (sym d.low) (gcd-right (numbers_of l) p t c.small-p c.small-t)

  gcd-below : Below (2 ^ m) (take n g')
  gcd-below = subst (Below (2 ^ m)) (sym d.low) (S.gcd-below (numbers_of l) p t c.small-p c.small-t)

module _ {m : ℕ} {ls ts r : List ℕ} {j : ℕ} {r' : List ℕ} (l : Lent m ls ts) (b : Below (2 ^ m) r) (d : MadeMonic m r j r') where
  pub monic-means : j ≢ 0 → Made (G m) (2 ^ m) r (take (j - 1) r')
  monic-means h = norm-made (numbers_of l) r b (d.made ∙ monic_low-some j r' h)

  pub monic-vanishes : j ≡ 0 → (i : ℕ) → get_or r i 0 ≡ 0
  monic-vanishes z = norm-none (numbers_of l) r b (d.made ∙ monic_low-none j r' z)
