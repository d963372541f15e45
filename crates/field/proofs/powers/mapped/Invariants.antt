-- `field::powers::mapped` meets its contract. The loop keeps what `Mapping` says.
-- Assumes nothing.
use Rattle.field.proofs.Raising.{Mapping}
use Rattle.field.proofs.powers.mapped.Given as goal

abbrev pub invariant-loop-entry : goal.invariant-loop-entry
invariant-loop-entry l = Mapping l.row l.x l.sum l.rest l.entry-index
