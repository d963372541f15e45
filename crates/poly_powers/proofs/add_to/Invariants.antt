-- `poly_powers::add_to` meets its contract. The loop's invariant: the first i elements are added.
-- Assumes nothing.
use Rattle.poly_powers.proofs.PowerLoops.{Summing}
use Rattle.poly_powers.proofs.add_to.Given as goal

abbrev pub invariant-loop-i : goal.invariant-loop-i
invariant-loop-i l = Summing l.m l.w l.initial.sum l.sum l.i
