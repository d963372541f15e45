-- `poly_values::start` meets its contract, by the number of levels.
-- Assumes nothing.
use Rattle.poly_values.proofs.+start.Given as goal

abbrev pub decreases-start : goal.decreases-start
decreases-start l = l.k
