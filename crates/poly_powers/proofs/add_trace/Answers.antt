-- `poly_powers::add_trace` meets its contract. The loop's invariant: i terms of the sum are added.
-- Assumes nothing.
use native.Mathlib.Omega.{arith}
use Rattle.poly_powers.proofs.TraceLoops.{combine-from, combine-asks, combine-on, combine-end}
use Rattle.poly_powers.proofs.add_trace.Goals as goal

pub loop-i-init : goal.loop-i-init
loop-i-init c = combine-from c.args.tables.now.lent c.requires

pub add_row-requires : goal.add_row-requires
add_row-requires c = combine-asks c.loop-i.invariant (omega arith)

pub square_by_logs-c-requires : goal.square_by_logs-c-requires
square_by_logs-c-requires c = c.loop-i.invariant.element

pub loop-i-preserved : goal.loop-i-preserved
loop-i-preserved c = combine-on c.loop-i.invariant (omega arith) c.add_row.ensures c.square_by_logs-c.ensures

pub returns : goal.returns
returns c = combine-end c.loop-i.invariant (omega arith)
