-- `poly_resultants::descent::descend` meets its contract. The loop's invariant: the roots above the first i are written.
-- Assumes nothing.
use Rattle.poly_resultants.proofs.Steps.{Lifting}
use Rattle.poly_resultants.proofs.descent.descend.Given as goal

abbrev pub invariant-loop-y : goal.invariant-loop-y
invariant-loop-y l = Lifting l.tables.degree l.tables.logs.now l.tables.antilogs.now l.b l.p l.q l.ys l.initial.out l.n l.out l.y-index
