-- `poly_powers::start` meets its contract: the row of p, and bz divided by it.
-- Assumes nothing.
use Rattle.poly_powers.proofs.Starts.{start-row, start-asks, start_is}
use Rattle.poly_powers.proofs.start.Goals as goal

pub log_row-requires : goal.log_row-requires
log_row-requires c = start-row c.args.tables.now.lent c.requires.0 c.requires.2

pub remainder-requires : goal.remainder-requires
remainder-requires c = start-asks c.args.tables.now.lent c.requires.0 c.requires.1 c.log_row.ensures

pub returns : goal.returns
returns c = start_is c.args.tables.now.lent c.requires.0 c.log_row.ensures c.remainder.ensures
