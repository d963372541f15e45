-- The greatest common divisor by Euclid's loop on two slices: what is left.
--   LeftIn        the remainder of the first k coefficients of b by monic p is left at the front of b
--   EuclidTurned  one division is done: the monic divisor stands in a with its 1, and the remainder, made monic, at
--                 the front of b
--   GcdIs         the first n coefficients of g are those of the monic greatest common divisor of monic p and t
-- Assumes nothing.
use Rattle.std.specs.Prelude.{◌≡◌, List, ℕ, ◌+◌, ◌≤◌, length, take}
use Rattle.algebra.specs.Routines.{monic, rem, norm, gcd}
use Rattle.field.specs.Field.{G}
use Rattle.poly.specs.Monic.{monic_low}

-- as long as p, and b stays as long as it is
pub record LeftIn (m : ℕ) (p b : List ℕ) (k : ℕ) (b' : List ℕ) : Type 0 where
  pub low : take (length p) b' ≡ rem (G m) p (take k b)
  pub long : length b' ≡ length b

-- one division
pub record EuclidTurned (m : ℕ) (a : List ℕ) (n : ℕ) (b : List ℕ) (k j : ℕ) (a' b' : List ℕ) : Type 0 where
  pub fewer : j ≤ n
  pub long-a : length a' ≡ length a
  pub long-b : length b' ≡ length b
  pub lead : take (n + 1) a' ≡ monic (G m) (take n a)
  pub made : norm (G m) n (rem (G m) (take n a) (take k b)) ≡ monic_low j b'

-- the outcome
pub record GcdIs (m : ℕ) (p t : List ℕ) (n : ℕ) (g : List ℕ) : Type 0 where
  pub count : n ≤ length p
  pub low : take n g ≡ gcd (G m) p t
