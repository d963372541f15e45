-- `find_affine::elimination::sweep` meets its contract: the first j entries are swept.
-- Assumes nothing.
use Rattle.find_affine.proofs.RowLoops.{Sweeping}
use Rattle.find_affine.proofs.elimination.sweep.Given as goal

abbrev pub invariant-loop-j : goal.invariant-loop-j
invariant-loop-j l = Sweeping l.t l.by l.initial.row l.row l.j
