-- `poly_small::parting::part_of` meets its contract. The loop's invariant: no earlier level parts the cubic.
-- Assumes nothing.
use Rattle.poly_small.proofs.Levels.{SeekingLevel}
use Rattle.poly_small.proofs.parting.part_of.Given as goal

abbrev pub invariant-loop : goal.invariant-loop
invariant-loop l = SeekingLevel l.tables.degree l.p l.initial.g l.g l.b l.counter
