-- `read_all` ends, and stays within its room and the most that is read: a read that gives nothing ends it, and any other
-- leaves less to fill.
use mathlib.Core.Path.{◌≡◌}
use Prim.Native.Nat.{◌-◌, ◌≤◌}
use lib.ListN.{length}
use Rattle.job_streams.proofs.Program.read_all.Given as goal

abbrev pub invariant-loop-done : goal.invariant-loop-done
invariant-loop-done l = (length l.room ≡ length l.initial.room) × (l.done ≤ l.most) × (l.most ≤ length l.room) × (l.most ≤ 65536)

abbrev pub decreases-loop-done : goal.decreases-loop-done
decreases-loop-done l = l.most - l.done
