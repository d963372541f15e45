-- `job_records::read_through` meets its contract: how reading ends from the place on is how it ends from the start.
-- Assumes nothing.
use Prim.Native.Nat.{◌-◌}
use lib.ListN.{length}
use Rattle.job_records.proofs.Whole.{HaltsFrom}
use Rattle.job_records.proofs.read_through.Given as goal

abbrev pub invariant-loop-refusal : goal.invariant-loop-refusal
invariant-loop-refusal l = HaltsFrom l.file l.at l.k

abbrev pub decreases-loop-refusal : goal.decreases-loop-refusal
decreases-loop-refusal l = length l.file - l.at
