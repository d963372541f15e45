-- `claims::add_rows` meets its contract. The loop's invariant: from k on the product is added.
-- Assumes nothing.
use native.Mathlib.Omega.{arith}
use Rattle.claims.proofs.Adding.{rows-from, rows-asks, rows_on, rows_end}
use Rattle.claims.proofs.add_rows.Goals as goal

pub loop-k-init : goal.loop-k-init
loop-k-init c = rows-from c.requires

pub bounds-p-k : goal.bounds-p-k
bounds-p-k c = omega (arith, c.loop-k.invariant.within)

pub add_row-requires : goal.add_row-requires
add_row-requires c = rows-asks c.loop-k.invariant (omega arith)

pub loop-k-preserved : goal.loop-k-preserved
loop-k-preserved c = rows_on c.loop-k.invariant (omega arith) c.add_row.ensures

pub returns : goal.returns
returns c = rows_end c.loop-k.invariant (omega arith)
