-- `field_elements::places::recorder_place11` meets its contract: half the log is the position.
-- Assumes nothing.
use native.Mathlib.Omega.{arith}
use Rattle.field_constants.proofs.Field11.{log-bound}
use Rattle.field_elements.proofs.Placing.{half-log-place}
use Rattle.field_elements.proofs.places.recorder_place11.Goals as goal

pub overflow_sub-result : goal.overflow_sub-result
overflow_sub-result c = let h = log-bound c.requires.1 c.log11.ensures in omega arith

pub returns : goal.returns
returns c = half-log-place _ c.requires.0 c.log11.ensures
