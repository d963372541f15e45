-- `claim_maker::scaled_row` meets its contract. The loop's invariant: the first i logs are written.
-- Assumes nothing.
use Rattle.claim_maker.proofs.Uniting.{Multiplying}
use Rattle.claim_maker.proofs.scaled_row.Given as goal

abbrev pub invariant-loop-i : goal.invariant-loop-i
invariant-loop-i l = Multiplying l.tables.degree l.tables.logs.now l.tables.antilogs.now l.c l.p l.initial.row l.row l.i
