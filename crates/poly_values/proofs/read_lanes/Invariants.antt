-- `poly_values::read_lanes` meets its contract: the first i lanes are read.
-- Assumes nothing.
use mathlib.Core.Path.{◌≡◌}
use mathlib.Core.List.{◌++◌}
use lib.ListN.{drop}
use Rattle.poly_values.specs.Planes.{lanes}
use Rattle.poly_values.proofs.read_lanes.Given as goal

abbrev pub invariant-loop-i : goal.invariant-loop-i
invariant-loop-i l = l.a ≡ lanes 0 l.i l.v ++ drop l.i l.initial.a
