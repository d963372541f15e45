-- `find_affine::elimination::digit_row` meets its contract: behind some entries those are mapped.
-- Assumes nothing.
use mathlib.Core.Path.{refl}
use native.Mathlib.Omega.{arith}
use Rattle.find_affine.proofs.RowLoops.{mapping-from, mapping-on, mapping-end}
use Rattle.find_affine.proofs.elimination.digit_row.Goals as goal

pub loop-a-init : goal.loop-a-init
loop-a-init c = mapping-from _ _ _

pub loop-a-preserved : goal.loop-a-preserved
loop-a-preserved c = mapping-on _ _ c.loop-a.invariant (omega arith) refl

pub returns : goal.returns
returns c = mapping-end _ _ c.loop-a.invariant (omega arith)
