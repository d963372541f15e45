-- `find_affine::elimination::kernel` meets its contract: i turns were made.
-- Assumes nothing.
use Rattle.find_affine.proofs.RowLoops.{Eliminating}
use Rattle.find_affine.proofs.elimination.kernel.Given as goal

abbrev pub invariant-loop-i : goal.invariant-loop-i
invariant-loop-i l = Eliminating l.initial.rows l.initial.vectors l.rows l.vectors l.i
