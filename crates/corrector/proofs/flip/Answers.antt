-- `corrector::flip` meets its contract: one place more at each turn.
-- Assumes nothing.
use mathlib.Core.Path.{refl}
use Prim.Native.Nat.{◌%◌}
use native.Mathlib.Omega.{arith}
use lib.ListN.{get_or}
use Rattle.std.proofs.lemmas.Nat.{one_shl}
use Rattle.corrector.specs.Places.{flip_all}
use Rattle.corrector.proofs.Walking.{flip-on}
use Rattle.corrector.proofs.flip.Goals as goal

pub loop-place-init : goal.loop-place-init
unfolding flip_all
loop-place-init c = refl

pub loop-place-preserved : goal.loop-place-preserved
loop-place-preserved c =
    flip-on c.args.places.now c.args.word.now c.loop-place.invariant (omega arith)
    (one_shl (get_or c.args.places.now c.loop-place.place-index 0 % 8) 8 (omega arith))
