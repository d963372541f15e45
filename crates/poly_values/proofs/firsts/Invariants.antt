-- `poly_values::firsts` meets its contract: w butterflies are done.
-- Assumes nothing.
use Rattle.poly_values.specs.Planes.{taps11, Firsts}
use Rattle.poly_values.proofs.firsts.Given as goal

abbrev pub invariant-loop-w : goal.invariant-loop-w
invariant-loop-w l = Firsts taps11 l.e l.a l.h l.w l.initial.p l.p
