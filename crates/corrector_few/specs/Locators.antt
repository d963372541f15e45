-- What is guessed.
--   LowLocator r   r is a polynomial over field 11 of degree at most 4, whose constant is 1
-- Assumes nothing.
use Rattle.std.specs.Prelude.{◌≡◌, List, ℕ, length, get_or}
use Rattle.algebra.specs.Polynomial.{Below}

pub record LowLocator (r : List ℕ) : Type 0 where
  pub long : length r ≡ 5
  pub small : Below 2048 r
  pub first : get_or r 0 0 ≡ 1
