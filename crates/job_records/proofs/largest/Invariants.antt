-- `job_records::largest` meets its contract: at each turn all words are below a bound if `top` and those ahead are.
-- Assumes nothing.
use Prim.Native.Nat.{◌-◌}
use Rattle.job_records.proofs.Spelling.{Topping}
use Rattle.job_records.proofs.largest.Given as goal

abbrev pub invariant-loop-k : goal.invariant-loop-k
invariant-loop-k l = Topping l.bytes l.top l.k

abbrev pub decreases-loop-k : goal.decreases-loop-k
decreases-loop-k l = l.n - l.k
