-- `poly::division::divide` meets its contract. The loop's invariant: from k on the division is done.
-- Assumes nothing.
use native.Mathlib.Omega.{arith}
use Rattle.poly.proofs.Divisions.{dividing-from, dividing-asks, dividing-on, dividing-end}
use Rattle.poly.proofs.division.divide.Goals as goal

pub loop-k-init : goal.loop-k-init
loop-k-init c = dividing-from c.args.tables.now.lent c.requires

pub add_row-requires : goal.add_row-requires
add_row-requires c = dividing-asks c.loop-k.invariant (omega arith)

pub loop-k-preserved : goal.loop-k-preserved
loop-k-preserved c = dividing-on c.loop-k.invariant (omega arith) c.add_row.ensures

pub returns : goal.returns
returns c = dividing-end c.loop-k.invariant (omega arith)
