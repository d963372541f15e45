-- How often z + r can be taken out of a polynomial.
--   Removable      what taking out one element may take for granted;  Removed  what it leaves: how often, and from
--                  that place on what is left
--   Usable         what taking out several in turn may take for granted
--   Countable      a polynomial that was let in, all its roots, and room beside each
-- Assumes nothing.
use Rattle.std.specs.Prelude.{◌≡◌, List, ℕ, ◌^◌, ◌≤◌, ◌<◌, length, drop}
use Rattle.algebra.specs.Polynomial.{Below}
use Rattle.algebra.specs.Multiplicity.{multiplicity, left}
use Rattle.field.specs.Field.{G, roots_at}
use Rattle.input.specs.Polynomials.{PolynomialIn}

pub record Removable (m r : ℕ) (f : List ℕ) : Type 0 where
  pub element : r < 2 ^ m
  pub small : Below (2 ^ m) f

pub record Removed (m r : ℕ) (f : List ℕ) (e : ℕ) (f' : List ℕ) : Type 0 where
  pub count : e ≡ multiplicity (G m) f r
  pub within : e ≤ length f
  pub rest : drop e f' ≡ left (G m) f r

-- each count fits a slot
pub record Usable (m : ℕ) (roots f mults : List ℕ) : Type 0 where
  pub elements : Below (2 ^ m) roots
  pub small : Below (2 ^ m) f
  pub few : length f < 65536
  pub room : length roots ≤ length mults

pub record Countable (m : ℕ) (f roots mults : List ℕ) : Type 0 where
  pub polynomial : PolynomialIn m f
  pub all : roots ≡ roots_at m f
  pub room : length roots ≤ length mults
