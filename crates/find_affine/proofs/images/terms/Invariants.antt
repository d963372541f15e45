-- `find_affine::images::terms` meets its contract: the terms before this one are in the sum, and y is the power of x
-- that it takes.
-- Assumes nothing.
use Rattle.find_affine.proofs.RowLoops.{Summing}
use Rattle.find_affine.proofs.images.terms.Given as goal

abbrev pub invariant-loop-c : goal.invariant-loop-c
invariant-loop-c l = Summing l.tables.degree l.coeffs l.x l.sum l.y l.c-index
