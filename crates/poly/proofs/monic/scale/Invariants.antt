-- `poly::monic::scale` meets its contract. The loop's invariant: the first i coefficients are multiplied.
-- Assumes nothing.
use Rattle.poly.proofs.Monics.{Scaling}
use Rattle.poly.proofs.monic.scale.Given as goal

abbrev pub invariant-loop-x : goal.invariant-loop-x
invariant-loop-x l = Scaling l.tables.degree l.tables.logs.now l.tables.antilogs.now l.v l.initial.r l.r l.x-index
