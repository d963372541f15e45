-- `field_tables::constants::logs_of` meets its contract: one test over each table.
-- Assumes nothing.
use borrow.Author.Rules.{rules}
use Rattle.field.specs.Rows.{poly_in}
use Rattle.field.proofs.Known.{row4, row8, row11, last_row}
use Rattle.field.proofs.Generator.{generated}
use Rattle.field.proofs.Logarithms.{log_test, logs-hold}
use Rattle.field_tables.proofs.Naming.{logs_at}
use Rattle.field_tables.proofs.constants.logs_of.Goals as goal

pub returns-in-4 : goal.returns-in-4
unfolding poly_in log_test
returns-in-4 c = logs_at c.in-4.is (logs-hold _ (generated row4) _ tt)

pub returns-in-8 : goal.returns-in-8
unfolding poly_in log_test
returns-in-8 c = logs_at c.in-8.is (logs-hold _ (generated row8) _ tt)

pub returns-in_default : goal.returns-in_default
unfolding poly_in log_test
returns-in_default c = logs_at (last_row _ c.requires (search rules) (search rules)) (logs-hold _ (generated row11) _ tt)
