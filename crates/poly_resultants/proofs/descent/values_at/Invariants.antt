-- `poly_resultants::descent::values_at` meets its contract. The loop's invariant: from k on both values are made.
-- Assumes nothing.
use Rattle.poly_resultants.proofs.Pairing.{Pairing}
use Rattle.poly_resultants.proofs.descent.values_at.Given as goal

abbrev pub invariant-loop-k : goal.invariant-loop-k
invariant-loop-k l = Pairing l.tables.degree l.tables.logs.now l.tables.antilogs.now l.p l.q l.y l.k l.low l.high
