-- `poly_resultants::map::convert` meets its contract. The loop's invariant: from k on stand the digits.
-- Assumes nothing.
use Rattle.poly_resultants.proofs.MapLoops.{Converting}
use Rattle.poly_resultants.proofs.map.convert.Given as goal

abbrev pub invariant-loop-k : goal.invariant-loop-k
invariant-loop-k l = Converting l.tables.degree l.tables.logs.now l.tables.antilogs.now l.b l.initial.f l.f l.k
