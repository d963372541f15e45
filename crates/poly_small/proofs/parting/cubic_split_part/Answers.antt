-- `poly_small::parting::cubic_split_part` meets its contract: z^(2^m) modulo the cubic, z added, and the gcd.
-- Assumes nothing.
use Rattle.poly_small.proofs.Cubics.{split-asks, split-is}
use Rattle.poly_small.proofs.parting.cubic_split_part.Goals as goal

pub gcd-requires : goal.gcd-requires
gcd-requires c = split-asks c.args.tables.now.lent c.requires c.z_power.ensures

pub returns : goal.returns
returns c = split-is c.args.tables.now.lent c.requires c.z_power.ensures c.gcd.ensures
