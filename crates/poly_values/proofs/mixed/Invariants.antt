-- `poly_values::mixed` meets its contract: from coefficient j up the sum is done.
-- Assumes nothing.
use Prim.Native.Nat.{◌*◌}
use lib.ListN.{drop}
use Rattle.poly_values.specs.Planes.{taps11, Mixed}
use Rattle.poly_values.proofs.mixed.Given as goal

abbrev pub invariant-loop-j : goal.invariant-loop-j
invariant-loop-j l = Mixed taps11 (drop l.j l.f) (drop (l.j * 11) l.g) l.r
