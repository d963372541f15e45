-- `poly_powers::square_into` meets its contract. The loop's invariant: the squares of the first i coefficients are
-- written.
-- Assumes nothing.
use Rattle.poly_powers.proofs.PowerLoops.{Spreading}
use Rattle.poly_powers.proofs.square_into.Given as goal

abbrev pub invariant-loop-i : goal.invariant-loop-i
invariant-loop-i l = Spreading l.tables.degree l.w l.initial.s l.s l.i
