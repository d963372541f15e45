-- `find_affine::listing::list` meets its contract: the sums with the vectors before this one stand at the front.
-- Assumes nothing.
use Rattle.find_affine.proofs.ListLoops.{Listing}
use Rattle.find_affine.proofs.listing.list.Given as goal

abbrev pub invariant-loop-v : goal.invariant-loop-v
invariant-loop-v l = Listing l.vectors l.first l.initial.roots l.roots l.k l.v-index
