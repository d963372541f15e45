-- Numbers that are tried, and found to be all the roots.
--   Triable     the numbers xs can be tried at the monic polynomial f, which has as many degrees
--   Guessable   the roots of monic p can be guessed
--   GuessedIn   the k roots of monic p, as many as its degree, stand in front, ascending
-- Assumes nothing.
use Rattle.std.specs.Prelude.{◌≡◌, List, ℕ, ◌^◌, ◌≤◌, length}
use Rattle.algebra.specs.Polynomial.{Below}
use Rattle.algebra.specs.Routines.{monic}
use Rattle.field.specs.Field.{G, roots_at}
use Rattle.poly_small.specs.Roots.{Front}

-- f is monic low
pub record Triable (m : ℕ) (f xs : List ℕ) : Type 0 where
  pub low : List ℕ
  pub small : Below (2 ^ m) low
  pub whole : f ≡ monic (G m) low
  pub many : length low ≡ length xs

-- with room for as many roots as there can be
pub record Guessable (m : ℕ) (p out : List ℕ) : Type 0 where
  pub small : Below (2 ^ m) p
  pub room : length p ≤ length out

-- k is the degree
pub record GuessedIn (m : ℕ) (p out : List ℕ) (k : ℕ) : Type 0 where
  pub degree : k ≡ length p
  pub all : Front (roots_at m (monic (G m) p)) k out
