-- `claim_maker::roots_row` meets its contract: the sum, the list, the product and its row.
-- Assumes nothing.
use Rattle.claim_maker.proofs.Splitting.{row-spread, row-multiplies, row-logs, row_is}
use Rattle.claim_maker.proofs.roots_row.Goals as goal

pub sum_of-n-requires : goal.sum_of-n-requires
sum_of-n-requires c = c.requires.few

pub spread_into-requires : goal.spread_into-requires
spread_into-requires c = row-spread c.args.tables.now.lent c.requires c.sum_of-n.ensures

pub product_over-requires : goal.product_over-requires
product_over-requires c = row-multiplies c.args.tables.now.lent c.requires c.sum_of-n.ensures c.spread_into.ensures _

pub log_row-requires : goal.log_row-requires
log_row-requires c = row-logs c.args.tables.now.lent c.requires c.sum_of-n.ensures c.spread_into.ensures _ c.product_over.ensures

pub returns : goal.returns
returns c = row_is c.args.tables.now.lent c.requires c.sum_of-n.ensures c.spread_into.ensures _ c.product_over.ensures c.log_row.ensures _
