-- `poly::values::evaluate_four` meets its contract. The loop's invariant: each chain is the value of the coefficients
-- from k on.
-- Assumes nothing.
use Rattle.poly.proofs.HornerFour.{FourValuing}
use Rattle.poly.proofs.values.evaluate_four.Given as goal

abbrev pub invariant-loop-k : goal.invariant-loop-k
invariant-loop-k l = FourValuing l.tables.degree l.tables.logs.now l.tables.antilogs.now l.f l.x l.k l.a l.b l.c l.d
