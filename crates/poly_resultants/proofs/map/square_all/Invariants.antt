-- `poly_resultants::map::square_all` meets its contract. The loop's invariant: the first i elements are squared.
-- Assumes nothing.
use Rattle.poly_resultants.proofs.MapLoops.{Squaring}
use Rattle.poly_resultants.proofs.map.square_all.Given as goal

abbrev pub invariant-loop-c : goal.invariant-loop-c
invariant-loop-c l = Squaring l.tables.degree l.tables.logs.now l.tables.antilogs.now l.initial.g l.g l.c-index
