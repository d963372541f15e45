-- `poly_resultants::levels::map_once` meets its contract.
-- Assumes nothing.
use Rattle.poly_resultants.proofs.Mapping.{mapping-converts, mapping-low, mapping-high, mapping-resultant, mapping-end}
use Rattle.poly_resultants.proofs.levels.map_once.Goals as goal

pub convert-requires : goal.convert-requires
convert-requires c = mapping-converts c.args.tables.now.lent c.requires

pub every_other-requires : goal.every_other-requires
every_other-requires c = mapping-low c.args.tables.now.lent c.requires c.convert.ensures

pub every_other-requires-2 : goal.every_other-requires-2
every_other-requires-2 c = mapping-high c.args.tables.now.lent c.requires c.convert.ensures

pub resultant-requires : goal.resultant-requires
resultant-requires c = mapping-resultant c.args.tables.now.lent c.requires c.convert.ensures c.every_other.ensures c.every_other-2.ensures

pub returns : goal.returns
returns c = mapping-end c.args.tables.now.lent c.requires c.convert.ensures c.every_other.ensures c.every_other-2.ensures c.resultant.ensures
