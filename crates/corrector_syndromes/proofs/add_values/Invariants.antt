-- `corrector_syndromes::add_values` meets its contract.
-- Assumes nothing.
use Rattle.corrector_syndromes.proofs.Adding.{AddingDigits}
use Rattle.corrector_syndromes.proofs.add_values.Given as goal

abbrev pub invariant-loop-x : goal.invariant-loop-x
invariant-loop-x l = AddingDigits l.initial.s l.n l.j l.s l.x l.i

abbrev pub decreases-loop-x : goal.decreases-loop-x
decreases-loop-x l = l.x
