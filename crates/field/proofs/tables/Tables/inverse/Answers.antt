-- `field::tables::Tables::inverse` meets its contract, by the law of the inverse by logs.
-- Assumes nothing.
use Rattle.field.proofs.ByLogs.{inverse-fits, inverse-stands}
use Rattle.field.proofs.tables.Tables.inverse.Goals as goal

pub overflow_sub-result-2 : goal.overflow_sub-result-2
overflow_sub-result-2 c = (inverse-fits c.args.self.now.lent c.requires.0 c.requires.1).0

pub bounds-self-self : goal.bounds-self-self
bounds-self-self c = (inverse-fits c.args.self.now.lent c.requires.0 c.requires.1).1

pub returns : goal.returns
returns c = inverse-stands c.args.self.now.lent c.requires.0 c.requires.1
