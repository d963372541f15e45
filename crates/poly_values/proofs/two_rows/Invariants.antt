-- `poly_values::two_rows` meets its contract: w vectors are stored.
-- Assumes nothing.
use Rattle.poly_values.specs.Planes.{taps11, TwoBlocks}
use Rattle.poly_values.proofs.two_rows.Given as goal

abbrev pub invariant-loop-w : goal.invariant-loop-w
invariant-loop-w l = TwoBlocks taps11 l.b l.a l.h l.w l.initial.p l.p
