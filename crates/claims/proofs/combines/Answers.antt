-- `claims::combines` meets its contract: the remainder, then both products added to 1.
-- Assumes nothing.
use Rattle.claims.proofs.Weighing.{combine-asks, combine-first, combine-second, combine-says}
use borrow.Author.Rules.{rules}
use Rattle.claims.proofs.combines.Goals as goal

pub remainder_by-d-requires : goal.remainder_by-d-requires
remainder_by-d-requires c = combine-asks c.args.tables.now.lent c.requires

pub add_product-requires : goal.add_product-requires
add_product-requires c = combine-first c.args.tables.now.lent c.requires c.remainder_by-d.ensures

pub add_product-requires-2 : goal.add_product-requires-2
add_product-requires-2 c = combine-second c.args.tables.now.lent c.requires c.remainder_by-d.ensures c.add_product.ensures (search rules)

pub returns : goal.returns
returns c = combine-says c.args.tables.now.lent c.requires c.remainder_by-d.ensures c.add_product.ensures c.add_product-2.ensures c.all_zero.ensures
