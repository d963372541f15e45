-- What the routines of one map may take for granted.
--   Factors     an element that is not 0, and a list of elements
--   Products    a product with the polynomial that a row holds can be added to r
--   Digits      the digits of a polynomial, and by turns those of A and B
-- Assumes nothing.
use Rattle.std.specs.Prelude.{◌≡◌, List, ℕ, suc, ◌+◌, ◌^◌, ◌≤◌, ◌<◌, length}
use Rattle.algebra.specs.Polynomial.{Below}
use Rattle.input.specs.Limit.{limit}
use Rattle.poly.specs.Lent.{LogRow}
use Rattle.poly_resultants.specs.Maps.{evens, odds}

-- b and the elements of s have products
pub record Factors (m : ℕ) (b : ℕ) (s : List ℕ) : Type 0 where
  pub positive : 0 < b
  pub small : b < 2 ^ m
  pub elements : Below (2 ^ m) s

-- b p times the row's polynomial fits into r
pub record Products (m : ℕ) (b : ℕ) (p row r : List ℕ) : Type 0 where
  pub factors : Factors m b p
  pub logs : LogRow m row
  pub some : 0 < length row
  pub space : length p + length row ≤ suc (length r)

-- g holds p and q by turns
pub record Digits (m : ℕ) (b : ℕ) (p q g : List ℕ) : Type 0 where
  pub factors : Factors m b g
  pub low : p ≡ evens g
  pub high : q ≡ odds g
  pub least : 1 < length g
  pub limited : length g ≤ suc limit
