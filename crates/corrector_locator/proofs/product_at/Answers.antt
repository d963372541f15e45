-- `corrector_locator::product_at` meets its contract.
-- Assumes nothing.
use native.Mathlib.Omega.{arith}
use Rattle.corrector_locator.proofs.Loops.{convolve-start, convolve-turn, convolve-end}
use Rattle.corrector_locator.proofs.product_at.Goals as goal

pub loop-i-init : goal.loop-i-init
loop-i-init c = (omega arith, convolve-start _ _ _)

pub product11-d-requires : goal.product11-d-requires
product11-d-requires c = (c.requires.0 _, c.requires.1 _)

pub loop-i-preserved : goal.loop-i-preserved
loop-i-preserved c =
    let v = c.loop-i.invariant in
    let e = c.min-i-end.ensures in
    (v.0, convolve-turn _ v.1 (omega arith) (omega arith) c.product11-d.ensures)

pub returns : goal.returns
returns c =
    let v = c.loop-i.invariant in let e = c.min-i-end.ensures in convolve-end v.1 (omega arith)
