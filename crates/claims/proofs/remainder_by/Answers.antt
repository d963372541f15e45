-- `claims::remainder_by` meets its contract: h is copied and made monic, and z^(2^m) + z reduced by it.
-- Assumes nothing.
use Rattle.claims.proofs.Weighing.{remain-asks, remain-some, remain-start, remain-is}
use Rattle.claims.proofs.remainder_by.Goals as goal

pub make_monic-d-requires : goal.make_monic-d-requires
make_monic-d-requires c = remain-asks c.args.tables.now.lent c.requires c.copy.ensures

pub field_remainder-requires : goal.field_remainder-requires
field_remainder-requires c = remain-start c.args.tables.now.lent c.requires c.copy.ensures c.make_monic-d.ensures

pub returns : goal.returns
returns c = remain-is c.args.tables.now.lent c.requires c.copy.ensures c.make_monic-d.ensures c.field_remainder.ensures _

pub overflow_sub-d : goal.overflow_sub-d
overflow_sub-d c = remain-some c.args.tables.now.lent c.requires c.copy.ensures c.make_monic-d.ensures
