-- What the routines of begin take for granted, and what they leave.
--   Residual     z^(2^m) + z can be reduced by the monic polynomial with the low coefficients p, into b
--   Residue      b took its place: it has the same greatest common divisor with that polynomial
--   Reduced      so that b is left, and rows are the powers on the way
--   Powered      rows are z, z^2, z^4, .. , m of them, modulo the polynomial of degree d
--   Beginnable   the table of a polynomial can be written
-- Assumes nothing.
use Rattle.std.specs.Prelude.{◌≡◌, List, [], ◌∷◌, ℕ, ◌*◌, ◌^◌, ◌≤◌, length, take, replicate}
use Rattle.std.proofs.Math.Option.{some}
use Rattle.algebra.specs.Polynomial.{Below, field_poly}
use Rattle.algebra.specs.Routines.{rem, norm, gcd}
use Rattle.field.specs.Field.{G}
use Rattle.poly_powers.specs.Powers.{power_rows}
use Rattle.input.specs.Limit.{limit}
use Rattle.input.specs.Polynomials.{PolynomialIn}
use Rattle.table_rules.specs.Sizes.{slots}

-- with room for a remainder and for z, where zeros stand, and for the rows of m powers
pub record Residual (m : ℕ) (p b rows : List ℕ) : Type 0 where
  pub small : Below (2 ^ m) p
  pub few : length p ≤ limit
  pub room : length p ≤ length b
  pub two : 2 ≤ length b
  pub zeros : b ≡ replicate (length b) 0
  pub room-rows : m * length p ≤ length rows

-- as far as a common divisor with p tells
pub record Residue (m : ℕ) (p b : List ℕ) : Type 0 where
  pub small : Below (2 ^ m) b
  pub same : gcd (G m) p b ≡ gcd (G m) p (field_poly (G m) m)

-- z, z^2, z^4, .. , m of them
pub record Reduced (m : ℕ) (p b rows : List ℕ) : Type 0 where
  pub residue : Residue m p b
  pub rows_are : take (m * length p) rows ≡ power_rows m p m (rem (G m) p (0 ∷ 1 ∷ []))

-- the polynomial made monic has the low coefficients `low`
pub record Powered (m : ℕ) (cs : List ℕ) (d : ℕ) (rows : List ℕ) : Type 0 where
  pub low : List ℕ
  pub made : norm (G m) (length cs) cs ≡ some low
  pub long : length low ≡ d
  pub rows_are : rows ≡ power_rows m low m (rem (G m) low (0 ∷ 1 ∷ []))

-- a polynomial that was let in, and a table of all slots
pub record Beginnable (m : ℕ) (cs table rows : List ℕ) : Type 0 where
  pub polynomial : PolynomialIn m cs
  pub room : length table ≡ slots
  pub room-rows : m * limit ≤ length rows
