-- What the routines ask beside the tables of a field of degree m. A divisor's degree is at most the limit.
--   Turnable      the monic polynomial with the n low coefficients at the front of a can divide the one with the k
--                 coefficients at the front of b
--   Reducing      the remainder of the first k coefficients of b by monic p can be left at the front of b
--   Commonable    the monic greatest common divisor of monic p and t can be written to g
--   Cofactorable  monic p can be divided by monic g
-- Assumes nothing.
use Rattle.std.specs.Prelude.{◌≡◌, List, ℕ, suc, ◌-◌, ◌^◌, ◌≤◌, ◌<◌, length, take}
use Rattle.algebra.specs.Polynomial.{Below}
use Rattle.input.specs.Limit.{limit}

-- with room for the divisor's leading 1, and for a remainder as long as the divisor
pub record Turnable (m : ℕ) (a : List ℕ) (n : ℕ) (b : List ℕ) (k : ℕ) : Type 0 where
  pub few : n ≤ limit
  pub room-a : n < length a
  pub room-b : n ≤ length b
  pub within : k ≤ length b
  pub small-a : Below (2 ^ m) (take n a)
  pub small_b : Below (2 ^ m) (take k b)

-- the remainder by monic p
pub record Reducing (m : ℕ) (p row b : List ℕ) (k : ℕ) : Type 0 where
  pub room_row : length p ≤ length row
  pub room-b : length p ≤ length b
  pub within : k ≤ length b
  pub small-p : Below (2 ^ m) p
  pub small_b : Below (2 ^ m) (take k b)

-- with room for a leading 1
pub record Commonable (m : ℕ) (p t g : List ℕ) : Type 0 where
  pub small-p : Below (2 ^ m) p
  pub small-t : Below (2 ^ m) t
  pub few-p : length p ≤ limit
  pub few-t : length t ≤ suc limit
  pub room : length p < length g

-- with room for the quotient below its leading 1
pub record Cofactorable (m : ℕ) (p g h : List ℕ) : Type 0 where
  pub small-p : Below (2 ^ m) p
  pub small-g : Below (2 ^ m) g
  pub few : length p ≤ limit
  pub shorter : length g ≤ length p
  pub room : length h ≡ length p - length g
