-- `claims::add_product` meets its contract: the row of q, and the rows.
-- Assumes nothing.
use mathlib.Core.Path.{sym}
use native.Mathlib.Omega.{arith}
use lib.Seq.{length-take-le}
use Rattle.claims.proofs.Adding.{product-logs, product-asks, product_is}
use Rattle.claims.proofs.add_product.Goals as goal

pub log_row-requires : goal.log_row-requires
log_row-requires c = product-logs c.args.tables.now.lent c.requires (sym (length-take-le _ _ (omega (arith, c.requires.few))))

pub add_rows-requires : goal.add_rows-requires
add_rows-requires c = product-asks c.args.tables.now.lent c.requires c.log_row.ensures _

pub returns : goal.returns
returns c = product_is c.args.tables.now.lent c.requires c.log_row.ensures _ c.add_rows.ensures
