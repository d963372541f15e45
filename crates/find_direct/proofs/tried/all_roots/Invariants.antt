-- `find_direct::tried::all_roots` meets its contract. The loop's invariant: the numbers passed are roots, ascending.
-- Assumes nothing.
use Rattle.poly_small.proofs.Trials.{Trying}
use Rattle.algebra.specs.Routines.{monic}
use Rattle.field.specs.Field.{G}
use Rattle.find_direct.proofs.tried.all_roots.Given as goal

abbrev pub invariant-loop-i : goal.invariant-loop-i
invariant-loop-i l = Trying 11 (monic (G 11) l.p) l.xs l.bound l.i
