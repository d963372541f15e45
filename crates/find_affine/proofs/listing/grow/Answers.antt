-- `find_affine::listing::grow` meets its contract: the sums of the first k numbers stand behind.
-- Assumes nothing.
use native.Mathlib.Omega.{arith}
use Rattle.find_affine.proofs.ListLoops.{growing-from, growing-on, growing-end, grown-none}
use Rattle.find_affine.proofs.listing.grow.Goals as goal

pub returns-then-v-eq0 : goal.returns-then-v-eq0
returns-then-v-eq0 c = grown-none (omega arith) c.if-v-eq0.true

pub loop-k-init : goal.loop-k-init
loop-k-init c = growing-from _ _ _ c.requires

pub loop-k-preserved : goal.loop-k-preserved
loop-k-preserved c = growing-on c.loop-k.invariant (omega arith)

pub shape_of-list : goal.shape_of-list
shape_of-list c = c.loop-k.invariant.long

pub returns : goal.returns
returns c = growing-end c.loop-k.invariant (omega arith) c.if-v-eq0.false
