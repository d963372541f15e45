-- `print_stretches` goes on no further than the file.
use native.Mathlib.Omega.{arith}
use Rattle.job_salvage.proofs.Pieces.{next-gap}
use Rattle.salvage.proofs.print_stretches.Goals as goal

pub loop-at-preserved-in_ok-print : goal.loop-at-preserved-in_ok-print
loop-at-preserved-in_ok-print c = let g = next-gap (omega arith) c.next_kept-next.ensures in omega (arith, g.within)

pub loop-at-preserved : goal.loop-at-preserved
loop-at-preserved c = let g = next-gap (omega arith) c.next_kept-next.ensures in omega (arith, g.within)
