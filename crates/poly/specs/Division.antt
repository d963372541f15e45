-- Division in place.
--   divided   what stands in the place of f after a division by monic p: the remainder, then the quotient
-- Assumes nothing.
use Rattle.std.specs.Prelude.{List, ◌++◌, ℕ, ◌-◌, length, take}
use Rattle.algebra.specs.Routines.{rem, quo}
use Rattle.field.specs.Field.{G}

-- as many coefficients as f has
unfoldable pub divided : ℕ → List ℕ → List ℕ → List ℕ
divided m p f = rem (G m) p f ++ take (length f - length p) (quo (G m) p f)
