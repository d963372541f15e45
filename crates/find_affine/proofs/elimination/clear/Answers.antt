-- `find_affine::elimination::clear` meets its contract: the rows before this one are swept.
-- Assumes nothing.
use native.Mathlib.Omega.{arith}
use Rattle.find_affine.proofs.RowLoops.{mapping-from, mapping-on, mapping-end}
use Rattle.find_affine.proofs.elimination.clear.Goals as goal

pub loop-row-init : goal.loop-row-init
loop-row-init c = mapping-from _ _ _

pub loop-row-preserved : goal.loop-row-preserved
loop-row-preserved c = mapping-on _ _ c.loop-row.invariant (omega arith) c.sweep.ensures

pub returns : goal.returns
returns c = mapping-end _ _ c.loop-row.invariant (omega arith)
