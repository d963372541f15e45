-- `corrector_locator::plus_times` meets its contract.
-- Assumes nothing.
use mathlib.Core.Path.{sym, ap₂, ◌∙◌}
use native.Mathlib.Omega.{arith}
use lib.Bits.{bit_xor}
use Rattle.slices.proofs.Filling.{fill-from, fill_on, fill-next, fill_end}
use Rattle.corrector_locator.proofs.Loops.{plus_times-at, plus_times-long}
use Rattle.corrector_locator.proofs.plus_times.Goals as goal

pub loop-i-init : goal.loop-i-init
loop-i-init c = (omega arith, omega arith, fill-from _ _ (plus_times-long _ _ _ (omega arith)))

pub product11-requires : goal.product11-requires
product11-requires c = (c.requires.0, c.requires.1 _)

pub loop-i-preserved : goal.loop-i-preserved
loop-i-preserved c =
    let v = c.loop-i.invariant in
    (v.0, v.1, fill_on v.2 (omega arith) (ap₂ bit_xor (fill-next v.2 (omega arith)) c.product11.ensures ∙ sym (plus_times-at _ _ _ _ (v.0 ∙ sym v.1) (omega arith))))

pub returns : goal.returns
returns c = fill_end c.loop-i.invariant.2 (omega arith)
