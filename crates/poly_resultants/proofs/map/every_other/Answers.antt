-- `poly_resultants::map::every_other` meets its contract. The loop's invariant: the first i elements are written.
-- Assumes nothing.
use Rattle.poly_resultants.proofs.MapLoops.{choosing-from, choosing-fits, choosing-on, choosing-end}
use native.Mathlib.Omega.{arith}
use Rattle.poly_resultants.proofs.map.every_other.Goals as goal

pub loop-i-init : goal.loop-i-init
loop-i-init c = choosing-from _ _ c.requires

pub bounds-g-i : goal.bounds-g-i
bounds-g-i c = choosing-fits c.loop-i.invariant (omega (arith, c.loop-i.invariant.filling.long))

pub loop-i-preserved : goal.loop-i-preserved
loop-i-preserved c = choosing-on c.loop-i.invariant (omega (arith, c.loop-i.invariant.filling.long))

pub returns : goal.returns
returns c = choosing-end c.loop-i.invariant (omega (arith, c.loop-i.invariant.filling.long))
