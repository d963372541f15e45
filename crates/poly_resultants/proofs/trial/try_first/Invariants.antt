-- `poly_resultants::trial::try_first` meets its contract. The loop's invariant: the roots below x are written.
-- Assumes nothing.
use Rattle.poly_resultants.specs.Levels.{Tried}
use Rattle.poly_resultants.proofs.trial.try_first.Given as goal

abbrev pub invariant-loop-x : goal.invariant-loop-x
invariant-loop-x l = Tried l.tables.degree l.f l.initial.out l.x l.n l.out
