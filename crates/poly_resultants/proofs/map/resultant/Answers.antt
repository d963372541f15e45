-- `poly_resultants::map::resultant` meets its contract.
-- Assumes nothing.
use Rattle.poly_resultants.proofs.MapLoops.{row_back}
use Rattle.poly_resultants.proofs.MapLoops.{high-room, row-asks, product-asks, product-end}
use lib.Seq.{length-take-le}
use mathlib.Core.Path.{sym}
use Rattle.poly_resultants.proofs.map.resultant.Goals as goal

pub slice_bounds-row-end : goal.slice_bounds-row-end
slice_bounds-row-end c = high-room c.args.tables.now.lent c.requires

pub slice_bounds-log_row-end : goal.slice_bounds-log_row-end
slice_bounds-log_row-end c = sym (length-take-le _ _ (high-room c.args.tables.now.lent c.requires))

pub log_row-requires : goal.log_row-requires
log_row-requires c = row-asks c.args.tables.now.lent c.requires (length-take-le _ _ (high-room c.args.tables.now.lent c.requires))

pub add_product-requires : goal.add_product-requires
add_product-requires c = product-asks c.args.tables.now.lent c.requires (row_back c.args.tables.now.lent c.requires _ _ c.log_row.ensures) c.square_all.ensures

pub returns : goal.returns
returns c = product-end c.args.tables.now.lent c.requires (row_back c.args.tables.now.lent c.requires _ _ c.log_row.ensures) c.square_all.ensures c.add_product.ensures
