-- `corrector_few::Log::of` keeps the invariant: a log is below twice the order.
-- Assumes nothing.
use native.Mathlib.Omega.{arith}
use Rattle.field_constants.proofs.Field11.{log-bound}
use Rattle.corrector_few.proofs.Log.of.Goals as goal

pub invariant_of-result : goal.invariant_of-result
invariant_of-result c = record { small = log-bound (omega arith) c.log11.ensures }
