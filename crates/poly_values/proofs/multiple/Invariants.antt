-- `poly_values::multiple` meets its contract: from digit i up the multiple is done.
-- Assumes nothing.
use Prim.Native.Nat.{◌/◌, ◌^◌}
use Rattle.poly_values.specs.Planes.{taps11, Multiple}
use Rattle.poly_values.proofs.multiple.Given as goal

abbrev pub invariant-loop-i : goal.invariant-loop-i
invariant-loop-i l = Multiple taps11 (l.c / 2 ^ l.i) l.b l.r
