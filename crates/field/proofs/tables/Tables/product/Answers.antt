-- `field::tables::Tables::product` meets its contract, by the law of the product by logs.
-- Assumes nothing.
use Rattle.field.proofs.ByLogs.{product-fits, product-stands}
use Rattle.field.proofs.tables.Tables.product.Goals as goal

pub bounds-self-k : goal.bounds-self-k
bounds-self-k c = let p = c.requires in product-fits c.args.self.now.lent p.1 p.2

pub returns : goal.returns
returns c = let p = c.requires in product-stands c.args.self.now.lent p.0 p.1 p.2
