-- `claims::add_rows` meets its contract. The loop's invariant: from k on the product is added.
-- Assumes nothing.
use Rattle.claims.proofs.Adding.{AddingRows}
use Rattle.claims.proofs.add_rows.Given as goal

abbrev pub invariant-loop-k : goal.invariant-loop-k
invariant-loop-k l = AddingRows l.tables.degree l.p l.row l.initial.sum l.sum l.k
