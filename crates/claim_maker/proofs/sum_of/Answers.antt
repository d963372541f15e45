-- `claim_maker::sum_of` meets its contract. The loop's invariant: what lies ahead is added to what was.
-- Assumes nothing.
use native.Mathlib.Omega.{arith}
use Rattle.claim_maker.proofs.Splitting.{sum-from, sum-on, sum-end}
use Rattle.claim_maker.proofs.sum_of.Goals as goal

pub loop-e-init : goal.loop-e-init
loop-e-init c = sum-from c.requires

pub loop-e-preserved : goal.loop-e-preserved
loop-e-preserved c = sum-on c.loop-e.invariant (omega arith)

pub returns : goal.returns
returns c = sum-end c.loop-e.invariant (omega arith)
