-- `corrector_locator::key` meets its contract.
-- Assumes nothing.
use mathlib.Core.Path.{refl}
use native.Mathlib.Omega.{arith}
use Rattle.corrector_code.specs.Key.{register}
use Rattle.corrector_locator.proofs.Fine.{turning-sound, turning-on, turning-end}
use Rattle.corrector_locator.proofs.key.Goals as goal

pub loop-m-init : goal.loop-m-init
unfolding register
loop-m-init c = record { within = omega arith; few = omega (arith, c.requires.2); done = refl }

pub turn_register-r-requires : goal.turn_register-r-requires
turn_register-r-requires c = (c.requires.0, omega (arith, c.requires.1), turning-sound c.loop-m.invariant)

pub loop-m-preserved : goal.loop-m-preserved
loop-m-preserved c = turning-on _ c.loop-m.invariant (omega arith) c.turn_register-r.ensures

pub returns : goal.returns
returns c = turning-end c.loop-m.invariant (omega arith)
