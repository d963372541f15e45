-- `poly::rows::add_row` meets its contract. The loop's invariant: the multiple is added to the first i elements.
-- Assumes nothing.
use Rattle.poly.proofs.RowLoops.{Adding}
use Rattle.poly.proofs.rows.add_row.Given as goal

abbrev pub invariant-loop-i : goal.invariant-loop-i
invariant-loop-i l = Adding l.tables.degree l.tables.logs.now l.tables.antilogs.now l.t l.row l.initial.r l.r l.i
