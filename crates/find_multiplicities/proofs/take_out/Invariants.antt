-- `find_multiplicities::take_out` meets its contract. The loop's invariant: e times z + r was taken out.
-- Assumes nothing.
use Rattle.find_multiplicities.proofs.Removing.{Removing}
use Rattle.find_multiplicities.proofs.take_out.Given as goal

abbrev pub invariant-loop-e : goal.invariant-loop-e
invariant-loop-e l = Removing l.tables.degree l.r l.tables.logs.now l.tables.antilogs.now l.row l.initial.f l.f l.e
