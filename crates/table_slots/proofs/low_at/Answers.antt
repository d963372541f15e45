-- `table_slots::low_at` meets its contract: from the first coefficient as many as the degree says.
-- Assumes nothing.
use native.Mathlib.Nat.{add-sub_cancel_left}
use Rattle.table_slots.proofs.low_at.Goals as goal

pub returns : goal.returns
returns c = simp add-sub_cancel_left
