-- `find_affine::elimination::system` meets its contract: the first i rows stand.
-- Assumes nothing.
use Rattle.find_affine.proofs.RowLoops.{Rowing}
use Rattle.find_affine.proofs.elimination.system.Given as goal

abbrev pub invariant-loop-i : goal.invariant-loop-i
invariant-loop-i l = Rowing l.images l.rows l.i
