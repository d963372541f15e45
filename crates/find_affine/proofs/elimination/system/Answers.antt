-- `find_affine::elimination::system` meets its contract: the first i rows stand.
-- Assumes nothing.
use mathlib.Core.Path.{refl}
use native.Mathlib.Omega.{arith}
use Rattle.find_affine.proofs.RowLoops.{rowing-from, rowing-on, rowing-end}
use Rattle.find_affine.proofs.elimination.system.Goals as goal

pub loop-i-init : goal.loop-i-init
loop-i-init c = rowing-from _ refl

pub loop-i-preserved : goal.loop-i-preserved
loop-i-preserved c = rowing-on c.loop-i.invariant (omega arith) c.digit_row.ensures

pub returns : goal.returns
returns c = rowing-end c.loop-i.invariant (omega arith)
