-- `find_affine::elimination::kernel` meets its contract: i turns were made.
-- Assumes nothing.
use Rattle.find_affine.proofs.RowLoops.{eliminating-from, eliminating-on, eliminating-none}
use Rattle.find_affine.proofs.elimination.kernel.Goals as goal
use Rattle.find_affine.proofs.elimination.kernel.Goals.{in-Some, in_default}

pub loop-i-init : goal.loop-i-init
loop-i-init c = eliminating-from _ _

pub clear-requires : goal.clear-requires
clear-requires c = c.in-Some.ensures.1

pub sweep-requires : goal.sweep-requires
sweep-requires c = c.in-Some.ensures.1

pub loop-i-preserved : goal.loop-i-preserved
loop-i-preserved c =
    elim c.match-pivot.branch [
      | in-Some w ↦ rw (w.rows-is, w.vectors-is) (eliminating-on c.loop-i.invariant w.in-Some.ensures.0 w.clear.ensures w.sweep.ensures)
      | in_default w ↦ rw (w.rows-is, w.vectors-is) (eliminating-none c.loop-i.invariant w.in_default.ensures)
    ]
