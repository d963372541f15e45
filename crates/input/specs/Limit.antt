-- The house's limit, and the widest field.
--   limit    the highest degree of a polynomial, and so the most roots: 64
--   widest   the degree of the widest known field
-- Assumes nothing.
use Rattle.std.specs.Prelude.{ℕ}

abbrev pub limit : ℕ
limit = 64

abbrev pub widest : ℕ
widest = 11
