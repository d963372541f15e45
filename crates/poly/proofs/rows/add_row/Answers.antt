-- `poly::rows::add_row` meets its contract. The loop's invariant: the multiple is added to the first i elements.
-- Assumes nothing.
use native.Mathlib.Omega.{arith}
use Rattle.poly.proofs.RowLoops.{adding-from, adding-on, adding-fits, adding-end, row-skipped}
use Rattle.poly.proofs.rows.add_row.Goals as goal

pub returns-then-t-eq0 : goal.returns-then-t-eq0
returns-then-t-eq0 c = row-skipped c.args.tables.now.lent c.requires c.if-t-eq0.true

pub loop-i-init : goal.loop-i-init
loop-i-init c = adding-from c.args.tables.now.lent c.requires

pub bounds-antilogs-s : goal.bounds-antilogs-s
bounds-antilogs-s c = adding-fits c.loop-i.invariant (omega arith) (omega arith)

pub loop-i-preserved : goal.loop-i-preserved
loop-i-preserved c = adding-on c.loop-i.invariant (omega arith) (omega arith)

pub returns : goal.returns
returns c = adding-end c.loop-i.invariant (omega arith)
