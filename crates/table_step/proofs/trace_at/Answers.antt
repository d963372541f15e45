-- `table_step::trace_at` meets its contract.
-- Assumes nothing.
use Rattle.table_step.proofs.Commons.{level-fits, level-small, traced}
use Rattle.table_step.proofs.trace_at.Goals as goal

pub bounds-tables-level : goal.bounds-tables-level
bounds-tables-level c = level-fits c.args.tables.now.lent c.requires.0

pub trace_of-requires : goal.trace_of-requires
trace_of-requires c = let s = c.requires in (record { small = s.0.small; few = s.0.few; room = s.1 }, level-small c.args.tables.now.lent s.0)

pub returns : goal.returns
returns c = traced c.args.tables.now.lent c.requires.0 c.trace_of.ensures
