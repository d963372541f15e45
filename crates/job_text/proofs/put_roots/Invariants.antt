-- `job_text::put_roots` meets its contract: at each turn the first i roots stand in the list.
-- Assumes nothing.
use Prim.Native.Nat.{◌-◌}
use Rattle.job_text.proofs.Lending.{Rowing}
use Rattle.job_text.proofs.put_roots.Given as goal

abbrev pub invariant-loop-i : goal.invariant-loop-i
invariant-loop-i l = Rowing 6 l.s l.roots l.at l.initial.out l.out l.end l.i

abbrev pub decreases-loop-i : goal.decreases-loop-i
decreases-loop-i l = l.s - l.i
