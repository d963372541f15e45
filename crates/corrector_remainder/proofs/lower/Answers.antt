-- `corrector_remainder::lower` meets its contract.
-- Assumes nothing.
use native.Mathlib.Omega.{arith}
use Rattle.corrector_remainder.proofs.Loops.{lessening-start, lessening-turn, lessening-end}
use Rattle.corrector_remainder.proofs.lower.Goals as goal

pub loop-init : goal.loop-init
loop-init g c = lessening-start _ _ _

pub loop-preserved : goal.loop-preserved
loop-preserved g c = lessening-turn c.loop.invariant (omega arith) c.cut-r.ensures c.halved-h.ensures

pub returns : goal.returns
returns g c = lessening-end c.loop.invariant (omega arith)
