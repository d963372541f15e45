-- `job_text::store` meets its contract. The loop's invariant: the first i bytes stand in the list.
-- Assumes nothing.
use native.Mathlib.Omega.{arith}
use Rattle.slices.proofs.Storing.{store-from, store-on, store-end}
use Rattle.job_text.proofs.store.Goals as goal

pub loop-i-init : goal.loop-i-init
loop-i-init c = store-from c.requires

pub loop-i-preserved : goal.loop-i-preserved
loop-i-preserved c = store-on c.loop-i.invariant (omega arith)

pub returns : goal.returns
returns c = store-end c.loop-i.invariant (omega arith)
