-- `corrector_locator::shifted` meets its contract.
-- Assumes nothing.
use native.Mathlib.Omega.{arith}
use Rattle.slices.proofs.Filling.{fill_on, fill_end}
use Rattle.corrector_locator.proofs.Loops.{shift-start, shift_from}
use Rattle.corrector_locator.proofs.shifted.Goals as goal

pub loop-i-init : goal.loop-i-init
loop-i-init c = (omega arith, omega arith, shift-start _ (omega arith))

pub loop-i-preserved : goal.loop-i-preserved
loop-i-preserved c =
    let v = c.loop-i.invariant in
    (v.0, omega arith, fill_on v.2 (omega arith) (shift_from _ _ v.1 (omega arith)))

pub returns : goal.returns
returns c = fill_end c.loop-i.invariant.2 (omega arith)
