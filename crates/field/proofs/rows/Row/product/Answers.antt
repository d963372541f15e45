-- `field::rows::Row::product` meets its contract. The loop keeps what `Halfway` says, and what is left of the
-- first factor falls.
-- Assumes nothing.
use native.Mathlib.Omega.{arith}
use Rattle.field.proofs.Loops.{product-turn, product_whole}
use Rattle.field.proofs.rows.Row.product.Goals as goal

pub loop-x-preserved : goal.loop-x-preserved
loop-x-preserved c = rw c.cut-y.ensures (product-turn _ c.requires.1 c.loop-x.invariant)

pub returns : goal.returns
returns c = product_whole _ c.requires.1 (omega arith) c.loop-x.invariant
