-- The parting of a cubic into degrees 1 and 2.
--   Cubic           p has three low coefficients, and its gcd with another polynomial has room at the front of g
--   GcdOf           the first n elements of g are the gcd of monic p and t
--   Parts           the level i parts monic p: its gcd with Tr(2^i z) is neither constant nor all of it
--   CubicPartable   some level parts the cubic
--   CubicParted     the first n elements of g are the gcd with Tr(2^i z) at some level i that parts it
--   Pieces          g is a gcd of the cubic p, of degree 1 or 2, so that both parts can be solved
-- Assumes nothing.
use Rattle.std.specs.Prelude.{◌≡◌, List, ℕ, ◌^◌, ◌≤◌, ◌<◌, length, take}
use Rattle.algebra.specs.Polynomial.{Below, trace_of}
use Rattle.algebra.specs.Routines.{gcd}
use Rattle.field.specs.Field.{G}
use Rattle.poly_small.specs.Roots.{SmallSolvable}

-- with room for the leading 1
pub record Cubic (m : ℕ) (p g : List ℕ) : Type 0 where
  pub small : Below (2 ^ m) p
  pub three : length p ≡ 3
  pub room : 3 < length g

-- the degree n, and the low coefficients
pub record GcdOf (m : ℕ) (p t : List ℕ) (n : ℕ) (g : List ℕ) : Type 0 where
  pub count : n ≤ 3
  pub low : take n g ≡ gcd (G m) p t

-- below m, as the field has 2^m elements
pub record Parts (m : ℕ) (p : List ℕ) (i : ℕ) : Type 0 where
  pub level : i < m
  pub least : 0 < length (gcd (G m) p (trace_of (G m) m (2 ^ i)))
  pub less : length (gcd (G m) p (trace_of (G m) m (2 ^ i))) < length p

-- at a level that need not be known
pub record CubicPartable (m : ℕ) (p g : List ℕ) : Type 0 where
  pub cubic : Cubic m p g
  pub level : ℕ
  pub parts : Parts m p level

-- of degree 1 or 2
pub record CubicParted (m : ℕ) (p : List ℕ) (n : ℕ) (g : List ℕ) : Type 0 where
  pub level : ℕ
  pub below : 2 ^ level < 2 ^ m
  pub least : 0 < n
  pub less : n < 3
  pub low : take n g ≡ gcd (G m) p (trace_of (G m) m (2 ^ level))

-- with some polynomial t
pub record Pieces (m : ℕ) (hs p g out : List ℕ) : Type 0 where
  pub given : SmallSolvable m hs p out
  pub three : length p ≡ 3
  pub least : 0 < length g
  pub less : length g < 3
  pub with : List ℕ
  pub small : Below (2 ^ m) with
  pub is : g ≡ gcd (G m) p with
