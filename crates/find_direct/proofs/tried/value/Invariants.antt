-- `find_direct::tried::value` meets its contract. The loop's invariant: v is the value of the coefficients from i on
-- and the leading 1.
-- Assumes nothing.
use Rattle.find_direct.proofs.Trials.{Valued}
use Rattle.find_direct.proofs.tried.value.Given as goal

abbrev pub invariant-loop-i : goal.invariant-loop-i
invariant-loop-i l = Valued l.p l.x l.i l.v
