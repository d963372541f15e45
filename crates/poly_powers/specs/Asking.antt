-- What the routines ask beside the tables of a field of degree m. A polynomial to divide by has at most the limit's
-- degree.
--   Spreadable  the square of w can be written to s
--   Squarable   w can be squared modulo the polynomial that a row holds
--   Startable   a remainder by monic p can be written to w
--   Savable     w can be squared k times, and the row of each power written
--   Summable    a trace sum of k rows can be added to t
-- Assumes nothing.
use Rattle.std.specs.Prelude.{◌≡◌, List, ℕ, ◌+◌, ◌*◌, ◌^◌, ◌≤◌, ◌<◌, length}
use Rattle.algebra.specs.Polynomial.{Below}
use Rattle.poly.specs.Lent.{LogRow}
use Rattle.input.specs.Limit.{limit}

-- twice as many places
pub record Spreadable (m : ℕ) (w s : List ℕ) : Type 0 where
  pub small : Below (2 ^ m) w
  pub room : length s ≡ length w + length w

-- w is a remainder
pub record Squarable (m : ℕ) (row w : List ℕ) : Type 0 where
  pub logs : LogRow m row
  pub small : Below (2 ^ m) w
  pub few : length row ≤ limit
  pub long : length w ≡ length row

-- as long as p
pub record Startable (m : ℕ) (p w : List ℕ) : Type 0 where
  pub small : Below (2 ^ m) p
  pub few : length p ≤ limit
  pub room : length w ≡ length p

-- with room for k rows
pub record Savable (m : ℕ) (row : List ℕ) (k : ℕ) (w rows : List ℕ) : Type 0 where
  pub squarable : Squarable m row w
  pub room-rows : k * length row ≤ length rows

-- each row as long as t
pub record Summable (m : ℕ) (rows : List ℕ) (k b : ℕ) (t : List ℕ) : Type 0 where
  pub element : b < 2 ^ m
  pub logs : LogRow m rows
  pub room-rows : k * length t ≤ length rows
