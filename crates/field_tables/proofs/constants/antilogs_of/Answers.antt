-- `field_tables::constants::antilogs_of` meets its contract: one test over each table.
-- Assumes nothing.
use borrow.Author.Rules.{rules}
use Rattle.field.specs.Rows.{poly_in}
use Rattle.field.proofs.Known.{row4, row8, row11, last_row}
use Rattle.field.proofs.Generator.{generated}
use Rattle.field.proofs.Logarithms.{antilog_test, antilogs-hold}
use Rattle.field_tables.proofs.Naming.{antilogs-at}
use Rattle.field_tables.proofs.constants.antilogs_of.Goals as goal

pub returns-in-4 : goal.returns-in-4
unfolding poly_in antilog_test
returns-in-4 c = antilogs-at c.in-4.is (antilogs-hold _ (generated row4) _ tt)

pub returns-in-8 : goal.returns-in-8
unfolding poly_in antilog_test
returns-in-8 c = antilogs-at c.in-8.is (antilogs-hold _ (generated row8) _ tt)

pub returns-in_default : goal.returns-in_default
unfolding poly_in antilog_test
returns-in_default c = antilogs-at (last_row _ c.requires (search rules) (search rules)) (antilogs-hold _ (generated row11) _ tt)
