-- `poly::rows::log_row` meets its contract. The loop's invariant: the first i logs are written.
-- Assumes nothing.
use Rattle.poly.proofs.RowLoops.{Writing}
use Rattle.poly.proofs.rows.log_row.Given as goal

abbrev pub invariant-loop-i : goal.invariant-loop-i
invariant-loop-i l = Writing l.tables.degree l.tables.logs.now l.tables.antilogs.now l.p l.initial.row l.row l.i
