-- `find_direct::steps::sharing` meets its contract. The loop's invariant: those counted are as many as are not ahead.
-- Assumes nothing.
use Rattle.find_direct.proofs.Groups.{Sharing}
use Rattle.find_direct.proofs.steps.sharing.Given as goal

abbrev pub invariant-loop-root : goal.invariant-loop-root
invariant-loop-root l = Sharing l.k l.p l.roots l.n l.root-index
