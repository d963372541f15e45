-- `job_text::put_numbers` meets its contract: at each turn the first i numbers stand in the list.
-- Assumes nothing.
use Prim.Native.Nat.{◌-◌}
use lib.ListN.{length}
use Rattle.job_text.proofs.Lending.{Rowing}
use Rattle.job_text.proofs.put_numbers.Given as goal

abbrev pub invariant-loop-i : goal.invariant-loop-i
invariant-loop-i l = Rowing 21 (length l.xs) l.xs l.at l.initial.out l.out l.end l.i

abbrev pub decreases-loop-i : goal.decreases-loop-i
decreases-loop-i l = length l.xs - l.i
