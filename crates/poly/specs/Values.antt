-- Values at several elements.
--   FourValues   the values of f at x, x + 1, x + 2 and x + 3
-- Assumes nothing.
use Rattle.std.specs.Prelude.{◌≡◌, List, ℕ, ◌+◌, get_or}
use Rattle.algebra.specs.Polynomial.{eval}
use Rattle.field.specs.Field.{G}

-- in this order
pub record FourValues (m : ℕ) (f : List ℕ) (x : ℕ) (v : List ℕ) : Type 0 where
  pub first : get_or v 0 0 ≡ eval (G m) f x
  pub second : get_or v 1 0 ≡ eval (G m) f (x + 1)
  pub third : get_or v 2 0 ≡ eval (G m) f (x + 2)
  pub fourth : get_or v 3 0 ≡ eval (G m) f (x + 3)
