-- `poly_powers::add_to` meets its contract. The loop's invariant: the first i elements are added.
-- Assumes nothing.
use native.Mathlib.Omega.{arith}
use Rattle.poly_powers.proofs.PowerLoops.{sum-from, sum-on, sum-end}
use Rattle.poly_powers.proofs.add_to.Goals as goal

pub loop-i-init : goal.loop-i-init
loop-i-init c = sum-from _ _ _ c.requires

pub loop-i-preserved : goal.loop-i-preserved
loop-i-preserved c = sum-on c.loop-i.invariant (omega arith)

pub returns : goal.returns
returns c = sum-end c.loop-i.invariant (omega arith)
