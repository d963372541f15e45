-- `poly::division::divide` meets its contract. The loop's invariant: from k on the division is done.
-- Assumes nothing.
use Rattle.poly.proofs.Divisions.{Dividing}
use Rattle.poly.proofs.division.divide.Given as goal

abbrev pub invariant-loop-k : goal.invariant-loop-k
invariant-loop-k l = Dividing l.tables.degree l.tables.logs.now l.tables.antilogs.now l.row l.initial.f l.n l.f l.k
