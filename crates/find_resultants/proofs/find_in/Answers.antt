-- `find_resultants::find_in` meets its contract: the tables are those of degree m.
-- Assumes nothing.
use Rattle.find_resultants.proofs.find_in.Goals as goal

pub tables_of-requires : goal.tables_of-requires
tables_of-requires c = c.requires.0.field

pub find_lent-requires : goal.find_lent-requires
find_lent-requires c = rw c.tables_of.ensures c.requires

pub returns : goal.returns
returns c = rw c.tables_of.ensures at c.find_lent.ensures
