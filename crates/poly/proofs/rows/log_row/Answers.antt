-- `poly::rows::log_row` meets its contract. The loop's invariant: the first i logs are written.
-- Assumes nothing.
use native.Mathlib.Omega.{arith}
use Rattle.poly.proofs.RowLoops.{write-from, write-on, write-fits, write-end}
use Rattle.poly.proofs.rows.log_row.Goals as goal

pub loop-i-init : goal.loop-i-init
loop-i-init c = write-from c.args.tables.now.lent c.requires

pub bounds-logs-x : goal.bounds-logs-x
bounds-logs-x c = write-fits c.loop-i.invariant (omega arith)

pub loop-i-preserved : goal.loop-i-preserved
loop-i-preserved c = write-on c.loop-i.invariant (omega arith)

pub returns : goal.returns
returns c = write-end c.loop-i.invariant (omega arith)
