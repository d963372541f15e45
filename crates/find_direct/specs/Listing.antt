-- Roots at the front of a lent list.
--   Listed    the list rs stands at the front of the lent one, and k says how long it is
--   DirectOut so where a number is found, and the lent list is as it was where none is
--   Leading   a polynomial that was let in, over field 11, with n coefficients up to its leading one
-- Assumes nothing.
use Rattle.std.specs.Prelude.{◌≡◌, Option, Some, None, List, ℕ, length}
use Rattle.slices.specs.Lists.{copied}
use Rattle.poly.specs.Monic.{TopIs}
use Rattle.input.specs.Polynomials.{PolynomialIn}

pub record Listed (rs roots : List ℕ) (k : ℕ) (roots' : List ℕ) : Type 0 where
  pub count : k ≡ length rs
  pub slots-are : roots' ≡ copied rs roots

pub record DirectOut (rs roots : List ℕ) (r : Option ℕ) (roots' : List ℕ) : Type 0 where
  pub found : (k : ℕ) → r ≡ Some k → Listed rs roots k roots'
  pub missed : r ≡ None → roots' ≡ roots

pub record Leading (n : ℕ) (f : List ℕ) : Type 0 where
  pub polynomial : PolynomialIn 11 f
  pub top : TopIs f n
