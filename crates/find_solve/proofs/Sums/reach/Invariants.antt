-- `find_solve::Sums::reach` meets its contract. The loop's invariant: the sums of the levels below k are written.
-- Assumes nothing.
use Rattle.find_solve.proofs.Tracing.{Reaching}
use Rattle.find_solve.proofs.Sums.reach.Given as goal

abbrev pub invariant-loop-k : goal.invariant-loop-k
invariant-loop-k l = Reaching l.tables.degree l.initial.self l.self l.level l.k
