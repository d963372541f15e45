-- `find_affine::elimination::clear` meets its contract: the rows before this one are swept.
-- Assumes nothing.
use mathlib.Core.List.{[]}
use Rattle.find_affine.specs.Systems.{swept_by}
use Rattle.find_affine.proofs.RowLoops.{Mapping}
use Rattle.find_affine.proofs.elimination.clear.Given as goal

abbrev pub invariant-loop-row : goal.invariant-loop-row
invariant-loop-row l = Mapping (swept_by l.p l.by) [] l.initial.rows l.rows l.row-index
