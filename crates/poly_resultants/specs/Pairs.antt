-- The values of two polynomials at one element.
--   Evaluable   p and q can be evaluated at y: q is as long as p, or shorter by one
--   Evaluates   and y is not 0
--   ValuesAt    the two values
-- Assumes nothing.
use Rattle.std.specs.Prelude.{◌≡◌, List, ℕ, suc, ◌^◌, ◌≤◌, ◌<◌, length}
use Rattle.algebra.specs.Polynomial.{eval, Below}
use Rattle.field.specs.Field.{G}

-- the digits at even and at odd places
pub record Evaluable (m : ℕ) (p q : List ℕ) (y : ℕ) : Type 0 where
  pub low : Below (2 ^ m) p
  pub high : Below (2 ^ m) q
  pub least : length q ≤ length p
  pub most : length p ≤ suc (length q)
  pub element : y < 2 ^ m

-- at an element that is not 0
pub record Evaluates (m : ℕ) (p q : List ℕ) (y : ℕ) : Type 0 where
  pub pair : Evaluable m p q y
  pub positive : 0 < y

-- both
pub record ValuesAt (m : ℕ) (p q : List ℕ) (y : ℕ) (r : ℕ × ℕ) : Type 0 where
  pub low : r.0 ≡ eval (G m) p y
  pub high : r.1 ≡ eval (G m) q y
