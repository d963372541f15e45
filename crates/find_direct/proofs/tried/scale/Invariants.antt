-- `find_direct::tried::scale` meets its contract. The loop's invariant: those below i are written.
-- Assumes nothing.
use Rattle.find_direct.proofs.Trials.{Scaling}
use Rattle.find_direct.proofs.tried.scale.Given as goal

abbrev pub invariant-loop-i : goal.invariant-loop-i
invariant-loop-i l = Scaling l.v l.f l.initial.p l.p l.i
