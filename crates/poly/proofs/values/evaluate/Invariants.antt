-- `poly::values::evaluate` meets its contract. The loop's invariant: v is the value of the coefficients from k on.
-- Assumes nothing.
use Rattle.poly.proofs.Horner.{Valuing}
use Rattle.poly.proofs.values.evaluate.Given as goal

abbrev pub invariant-loop-k : goal.invariant-loop-k
invariant-loop-k l = Valuing l.tables.degree l.tables.logs.now l.tables.antilogs.now l.f l.x l.k l.v
