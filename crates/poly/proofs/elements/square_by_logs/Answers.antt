-- `poly::elements::square_by_logs` meets its contract, by the law of the product by logs.
-- Assumes nothing.
use native.Mathlib.Omega.{arith}
use Rattle.field.proofs.ByLogs.{product-fits, product-stands}
use Rattle.poly.proofs.Logs.{square-zero}
use Rattle.poly.proofs.elements.square_by_logs.Goals as goal

pub returns-then-x-eq0 : goal.returns-then-x-eq0
returns-then-x-eq0 c = square-zero c.args.tables.now.lent c.if-x-eq0.true

pub bounds-tables-k : goal.bounds-tables-k
bounds-tables-k c = product-fits c.args.tables.now.lent c.requires c.requires

pub returns : goal.returns
returns c = product-stands c.args.tables.now.lent (omega arith) c.requires c.requires
