-- `poly_resultants::descent::descend` meets its contract. The loop's invariant: the roots above the first i are written.
-- Assumes nothing.
use Rattle.poly_resultants.proofs.Steps.{lifting-from, lifting-asks, lifting-on, lifting-end}
use native.Mathlib.Omega.{arith}
use Rattle.poly_resultants.proofs.descent.descend.Goals as goal

pub loop-y-init : goal.loop-y-init
loop-y-init c = lifting-from c.args.tables.now.lent c.requires

pub above-n-requires : goal.above-n-requires
above-n-requires c = lifting-asks c.loop-y.invariant (omega arith)

pub loop-y-preserved : goal.loop-y-preserved
loop-y-preserved c = lifting-on c.loop-y.invariant (omega arith) c.above-n.ensures

pub returns : goal.returns
returns c = lifting-end c.loop-y.invariant (omega arith)
