-- `poly_resultants::trial::tried` meets its contract. The loop's invariant: the roots below x are written, and x is a multiple of 4.
-- Assumes nothing.
use Rattle.poly_resultants.proofs.Trying.{TriedFours}
use Rattle.poly_resultants.proofs.trial.tried.Given as goal

abbrev pub invariant-loop-x : goal.invariant-loop-x
invariant-loop-x l = TriedFours l.tables.degree l.tables.logs.now l.tables.antilogs.now l.end l.f l.initial.out l.x l.n l.out
