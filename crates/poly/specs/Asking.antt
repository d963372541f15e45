-- What each routine asks beside the tables of a field of degree m.
--   Addable      a multiple t of a row's polynomial can be added to the front of r
--   Loggable     the logs of p can be written to a row
--   Divisible    f can be divided by the polynomial that a row holds
--   Reducible    the remainder of f by it can be written to r
--   Scalable     r can be multiplied by v
--   Stretchable  the polynomial from place 1 of f on can be multiplied by z + r
--   Multipliable the product over roots can be written to the front of f
-- Assumes nothing.
use Rattle.std.specs.Prelude.{◌≡◌, List, ℕ, suc, ◌^◌, ◌≤◌, ◌<◌, length, drop}
use Rattle.algebra.specs.Polynomial.{Below}
use Rattle.poly.specs.Lent.{LogRow}

-- by an element, and r is at least as long
pub record Addable (m t : ℕ) (row r : List ℕ) : Type 0 where
  pub element : t < 2 ^ m
  pub logs : LogRow m row
  pub room : length row ≤ length r

-- p holds elements, as many as the row has places
pub record Loggable (m : ℕ) (p row : List ℕ) : Type 0 where
  pub small : Below (2 ^ m) p
  pub room : length p ≡ length row

-- f is at least as long
pub record Divisible (m : ℕ) (row f : List ℕ) : Type 0 where
  pub logs : LogRow m row
  pub small : Below (2 ^ m) f
  pub room : length row ≤ length f

-- f may be shorter, and r is as long as the row
pub record Reducible (m : ℕ) (row f r : List ℕ) : Type 0 where
  pub logs : LogRow m row
  pub small : Below (2 ^ m) f
  pub room : length r ≡ length row

-- by an element that is not 0
pub record Scalable (m v : ℕ) (r : List ℕ) : Type 0 where
  pub nonzero : 0 < v
  pub element : v < 2 ^ m
  pub small : Below (2 ^ m) r

-- r is an element, and behind the first slot stands a polynomial with at least one coefficient
pub record Stretchable (m r : ℕ) (f : List ℕ) : Type 0 where
  pub element : r < 2 ^ m
  pub small : Below (2 ^ m) (drop 1 f)
  pub room : 1 < length f

-- with room for one coefficient more than there are roots
pub record Multipliable (m : ℕ) (roots f : List ℕ) : Type 0 where
  pub small : Below (2 ^ m) roots
  pub room : suc (length roots) ≤ length f
