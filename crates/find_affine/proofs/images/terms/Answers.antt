-- `find_affine::images::terms` meets its contract: the terms before this one are in the sum, and y is the power of x
-- that it takes.
-- Assumes nothing.
use native.Mathlib.Omega.{arith}
use Rattle.find_affine.proofs.RowLoops.{summing_on, summing-end}
use Rattle.find_affine.proofs.images.terms.Goals as goal

pub loop-c-preserved : goal.loop-c-preserved
loop-c-preserved c =
    summing_on c.args.tables.now.lent.degree c.loop-c.invariant (omega arith) c.product-sum.ensures c.product-y.ensures

pub returns : goal.returns
returns c = summing-end c.loop-c.invariant (omega arith)
