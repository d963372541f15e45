-- `claims::expands` meets its contract: the product over the list, then the product with h added to f.
-- Assumes nothing.
use Rattle.claims.proofs.Weighing.{expand-asks, expand-product, expand-says}
use Rattle.claims.proofs.expands.Goals as goal

pub product_over-requires : goal.product_over-requires
product_over-requires c = expand-asks c.args.tables.now.lent c.requires

pub add_product-requires : goal.add_product-requires
add_product-requires c = expand-product c.args.tables.now.lent c.requires c.product_over.ensures c.copy.ensures

pub returns : goal.returns
returns c = expand-says c.args.tables.now.lent c.requires c.product_over.ensures c.copy.ensures c.add_product.ensures c.all_zero.ensures
