-- The measure of the cycle of calls {level} is the length of the chain.
-- Assumes nothing.
use lib.ListN.{length}
use Rattle.poly_resultants.proofs.levels.+level.Given as goal

abbrev pub decreases-level : goal.decreases-level
decreases-level l = length l.chain.now
