-- `claim_maker::split_off` meets its contract: the row of the product, and the quotient of f by it.
-- Assumes nothing.
use Rattle.claim_maker.proofs.Splitting.{split-row, split-quotes, split-is}
use Rattle.claim_maker.proofs.split_off.Goals as goal

pub roots_row-n-requires : goal.roots_row-n-requires
roots_row-n-requires c = split-row c.args.tables.now.lent c.requires

pub quotient_into-requires : goal.quotient_into-requires
quotient_into-requires c = split-quotes c.args.tables.now.lent c.requires c.roots_row-n.ensures c.copy.ensures

pub returns : goal.returns
returns c = split-is c.args.tables.now.lent c.requires c.roots_row-n.ensures c.copy.ensures c.quotient_into.ensures
