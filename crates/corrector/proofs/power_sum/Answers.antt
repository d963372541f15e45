-- `corrector::power_sum` meets its contract: one place more at each turn.
-- Assumes nothing.
use mathlib.Core.Path.{refl}
use native.Mathlib.Omega.{arith}
use Rattle.corrector.specs.Places.{xor_over}
use Rattle.corrector.proofs.Walking.{sum-on, antilog-at}
use Rattle.corrector.proofs.power_sum.Goals as goal

pub loop-place-init : goal.loop-place-init
unfolding xor_over
loop-place-init c = refl

pub loop-place-preserved : goal.loop-place-preserved
loop-place-preserved c =
    sum-on c.args.places.now c.args.k c.loop-place.invariant (omega arith)
    (antilog-at _ _ c.around.ensures c.antilog11-sum.ensures)
