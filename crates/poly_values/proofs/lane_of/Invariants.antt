-- `poly_values::lane_of` meets its contract: the digits from word i up are read.
-- Assumes nothing.
use mathlib.Core.Path.{◌≡◌}
use lib.ListN.{drop}
use Rattle.poly_values.specs.Planes.{lane}
use Rattle.poly_values.proofs.lane_of.Given as goal

abbrev pub invariant-loop-i : goal.invariant-loop-i
invariant-loop-i l = l.r ≡ lane l.l (drop l.i l.v)
