-- `corrector_locator::all_sums` meets its contract.
-- Assumes nothing.
use native.Mathlib.Omega.{arith}
use Rattle.corrector_locator.proofs.Squares.{squaring-from, squaring-on, squaring-end, odd-below}
use Rattle.corrector_locator.proofs.all_sums.Goals as goal

pub loop-i-init : goal.loop-i-init
loop-i-init c = (omega arith, squaring-from _)

pub product11-requires : goal.product11-requires
product11-requires c = let u = odd-below c.loop-i.invariant.1 (omega arith) c.requires in (u _, u _)

pub loop-i-preserved : goal.loop-i-preserved
loop-i-preserved c = let v = c.loop-i.invariant in (v.0, squaring-on _ v.1 (omega arith) c.requires c.product11.ensures)

pub returns : goal.returns
returns c = squaring-end c.loop-i.invariant.1 (omega arith)
