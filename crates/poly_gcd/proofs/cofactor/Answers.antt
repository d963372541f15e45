-- `poly_gcd::cofactor` meets its contract: the monic polynomial is written out and divided, and the quotient's low
-- coefficients copied.
-- Assumes nothing.
use Rattle.poly.proofs.Parts.{part-copied}
use Rattle.poly_gcd.proofs.Cofactors.{cofactor-row, cofactor-asks, cofactor-is}
use Rattle.poly_gcd.proofs.cofactor.Goals as goal

pub log_row-requires : goal.log_row-requires
log_row-requires c = cofactor-row c.args.tables.now.lent c.requires

pub divide-requires : goal.divide-requires
divide-requires c = cofactor-asks c.args.tables.now.lent c.requires c.log_row.ensures (part-copied _ _ c.copy_from_slice.ensures.after)

pub returns : goal.returns
returns c = cofactor-is c.args.tables.now.lent c.requires c.log_row.ensures (part-copied _ _ c.copy_from_slice.ensures.after) c.divide.ensures _ c.copy_from_slice-2.ensures.after
