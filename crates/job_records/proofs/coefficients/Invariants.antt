-- `job_records::coefficients` meets its contract: at each turn the first k words stand in the room.
-- Assumes nothing.
use Prim.Native.Nat.{◌-◌}
use Rattle.job_records.proofs.Spelling.{Spelling}
use Rattle.job_records.proofs.coefficients.Given as goal

abbrev pub invariant-loop-k : goal.invariant-loop-k
invariant-loop-k l = Spelling l.bytes l.initial.room l.room l.k

abbrev pub decreases-loop-k : goal.decreases-loop-k
decreases-loop-k l = l.n - l.k
