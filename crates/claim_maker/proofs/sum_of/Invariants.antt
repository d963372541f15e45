-- `claim_maker::sum_of` meets its contract. The loop's invariant: what lies ahead is added to what was.
-- Assumes nothing.
use Rattle.claim_maker.proofs.Splitting.{Summing}
use Rattle.claim_maker.proofs.sum_of.Given as goal

abbrev pub invariant-loop-e : goal.invariant-loop-e
invariant-loop-e l = Summing l.mults l.n l.e-index
