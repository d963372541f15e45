-- `corrector::put_places` meets its contract: one root more at each turn.
-- Assumes nothing.
use native.Mathlib.Omega.{arith}
use Rattle.field.specs.Field.{field_at}
use Rattle.field_elements.specs.Calls.{position_under}
use Rattle.corrector.proofs.Walking.{map-on}
use Rattle.corrector.proofs.put_places.Goals as goal

pub loop-root-preserved : goal.loop-root-preserved
loop-root-preserved c =
    map-on (position_under 1 (field_at 11)) c.args.roots.now c.loop-root.invariant (omega arith) c.recorder_place11.ensures
