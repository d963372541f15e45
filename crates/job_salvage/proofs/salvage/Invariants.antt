-- `job_salvage::salvage` meets its contract: at each turn the records before the place are in the room.
-- Assumes nothing.
use Prim.Native.Nat.{◌-◌}
use lib.ListN.{length}
use Rattle.job_salvage.proofs.Turns.{Keeping}
use Rattle.job_salvage.proofs.salvage.Given as goal

abbrev pub invariant-loop-at : goal.invariant-loop-at
invariant-loop-at l = Keeping l.file l.initial.room l.room l.at l.records l.bytes

abbrev pub decreases-loop-at : goal.decreases-loop-at
decreases-loop-at l = length l.file - l.at
