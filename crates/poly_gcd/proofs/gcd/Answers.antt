-- `poly_gcd::gcd` meets its contract: both are copied, then Euclid's loop.
-- Assumes nothing.
use Rattle.poly.proofs.Parts.{part-copied}
use Rattle.poly_gcd.proofs.EuclidLoops.{common-asks, common-is}
use Rattle.poly_gcd.proofs.gcd.Goals as goal

pub euclid-requires : goal.euclid-requires
euclid-requires c = common-asks c.requires (part-copied _ _ c.copy_from_slice.ensures.after) (part-copied _ _ c.store.ensures)

pub returns : goal.returns
returns c = common-is c.requires (part-copied _ _ c.copy_from_slice.ensures.after) (part-copied _ _ c.store.ensures) c.euclid.ensures
