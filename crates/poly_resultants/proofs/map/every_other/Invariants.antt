-- `poly_resultants::map::every_other` meets its contract. The loop's invariant: the first i elements are written.
-- Assumes nothing.
use Rattle.poly_resultants.proofs.MapLoops.{Choosing}
use Rattle.poly_resultants.proofs.map.every_other.Given as goal

abbrev pub invariant-loop-i : goal.invariant-loop-i
invariant-loop-i l = Choosing l.g l.initial.out l.out l.i
