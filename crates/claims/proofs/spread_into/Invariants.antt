-- `claims::spread_into` meets its contract. The loop's invariant: the roots so far stand at the front.
-- Assumes nothing.
use Rattle.claims.proofs.Spreading.{Spreading}
use Rattle.claims.proofs.spread_into.Given as goal

abbrev pub invariant-loop-i : goal.invariant-loop-i
invariant-loop-i l = Spreading l.roots l.mults l.initial.list l.list l.at l.i
