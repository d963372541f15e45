-- `table_slots::step_limit` meets its contract: the product of a 16-bit number and one up to 32 fits.
-- Assumes nothing.
use native.Mathlib.Numerals.{add-one}
use Rattle.table_slots.proofs.step_limit.Goals as goal

pub returns : goal.returns
returns c = rw add-one
