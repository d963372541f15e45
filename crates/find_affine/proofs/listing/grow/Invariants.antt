-- `find_affine::listing::grow` meets its contract: the sums of the first k numbers stand behind.
-- Assumes nothing.
use Rattle.find_affine.proofs.ListLoops.{Growing}
use Rattle.find_affine.proofs.listing.grow.Given as goal

abbrev pub invariant-loop-k : goal.invariant-loop-k
invariant-loop-k l = Growing l.n l.v l.initial.list l.list l.k
