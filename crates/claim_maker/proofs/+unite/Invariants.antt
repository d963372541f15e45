-- The measure of `claim_maker::unite` is the divisor's length.
-- Assumes nothing.
use lib.ListN.{length}
use Rattle.claim_maker.proofs.+unite.Given as goal

abbrev pub decreases-unite : goal.decreases-unite
decreases-unite l = length l.b.now
