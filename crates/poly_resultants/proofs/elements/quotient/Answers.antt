-- `poly_resultants::elements::quotient` meets its contract: the antilog of the difference of logs is the quotient.
-- Assumes nothing.
use native.Mathlib.Omega.{arith}
use Rattle.field.proofs.ByLogs.{inverse-fits}
use Rattle.poly_resultants.proofs.Quotients.{quotient_fits, quotient-at}
use Rattle.poly_resultants.proofs.elements.quotient.Goals as goal

pub overflow_sub-k-2 : goal.overflow_sub-k-2
overflow_sub-k-2 c = omega (arith, inverse-fits c.args.tables.now.lent c.requires.0 c.requires.1)

pub bounds-tables-k : goal.bounds-tables-k
bounds-tables-k c = quotient_fits c.args.tables.now.lent c.requires.0 c.requires.1 c.requires.2

pub returns : goal.returns
returns c = quotient-at c.args.tables.now.lent c.requires.0 c.requires.1 c.requires.2
