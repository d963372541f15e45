-- `find_affine::elimination::sweep` meets its contract: the first j entries are swept.
-- Assumes nothing.
use native.Mathlib.Omega.{arith}
use Rattle.find_affine.proofs.RowLoops.{sweeping-from, sweeping-on, sweeping-end}
use Rattle.find_affine.proofs.elimination.sweep.Goals as goal

pub loop-j-init : goal.loop-j-init
loop-j-init c = sweeping-from _ _ _

pub loop-j-preserved : goal.loop-j-preserved
loop-j-preserved c = sweeping-on c.loop-j.invariant (omega arith) (omega arith) c.where_bit.ensures

pub returns : goal.returns
returns c = sweeping-end c.loop-j.invariant (omega arith)
