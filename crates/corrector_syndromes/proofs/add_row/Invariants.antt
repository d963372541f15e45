-- `corrector_syndromes::add_row` meets its contract.
-- Assumes nothing.
use Rattle.corrector_syndromes.proofs.Adding.{RowOn}
use Rattle.corrector_syndromes.proofs.add_row.Given as goal

abbrev pub invariant-loop-k : goal.invariant-loop-k
invariant-loop-k l = RowOn l.initial.s l.j l.k l.s
