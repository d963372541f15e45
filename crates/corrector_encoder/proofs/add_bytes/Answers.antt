-- `corrector_encoder::add_bytes` meets its contract.
-- Assumes nothing.
use native.Mathlib.Omega.{arith}
use Rattle.corrector_encoder.proofs.Loops.{adding-start, adding-turn, adding-end}
use Rattle.corrector_encoder.proofs.add_bytes.Goals as goal

pub loop-byte-init : goal.loop-byte-init
loop-byte-init c = adding-start _ _

pub loop-byte-preserved : goal.loop-byte-preserved
loop-byte-preserved c = adding-turn c.loop-byte.invariant (omega arith)

pub returns : goal.returns
returns c = adding-end c.loop-byte.invariant (omega arith)
