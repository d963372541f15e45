-- `claims::tally` meets its contract: at each turn the answer for all is the answer for what lies ahead.
-- Assumes nothing.
use Rattle.claims.proofs.Tallying.{Tallying}
use Rattle.claims.proofs.tally.Given as goal

abbrev pub invariant-loop-i : goal.invariant-loop-i
invariant-loop-i l = Tallying l.roots l.mults l.n l.least l.left l.i
