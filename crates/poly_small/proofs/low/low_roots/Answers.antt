-- `poly_small::low::low_roots` meets its contract: no root, the coefficient, or the quadratic's roots.
-- Assumes nothing.
use native.Mathlib.Omega.{arith}
use Rattle.poly_small.proofs.LowDegrees.{low-none, low-one, low-asks, low-two}
use Rattle.poly_small.proofs.low.low_roots.Goals as goal

pub returns-in-empty : goal.returns-in-empty
returns-in-empty c = low-none c.requires (omega arith)

pub returns-in-len1 : goal.returns-in-len1
returns-in-len1 c = low-one c.requires (omega arith)

pub quadratic_roots-requires : goal.quadratic_roots-requires
quadratic_roots-requires c = low-asks c.requires (omega arith) (omega arith)

pub returns-in-len2-up : goal.returns-in-len2-up
returns-in-len2-up c = low-two c.requires (omega arith) (omega arith) c.quadratic_roots.ensures
